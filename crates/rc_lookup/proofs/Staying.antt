-- What of the row cache stays.
use Rattle.std.proofs.Common.{◌≡◌, ◌≤◌, ◌<◌, ℕ, List, Option, Some, None, Result, Ok, Err, sym, ap, ◌∙◌, subst, arith}
use Rattle.std.specs.Prelude.{OnOk}
use Rattle.rc_cell.specs.declared.rows.Row.{Row}
use Rattle.rc_cell.specs.declared.writes.Tomb.{Tomb}
use Rattle.rc_registry.specs.Registry.{IsNumberIn}
use Rattle.rc_memory.specs.Memory.{Memory, chain_at, on_shown, shown_detached}
use Rattle.rc_chain.specs.declared.chains.Snap.{Snap}
use Rattle.rc_cached.specs.Coming.{AreCountsInRange}
use Rattle.rc_row_cache.specs.Calls.{IsEntered}
use Rattle.rc_row_cache.specs.Detached.{IsDetached}
use Rattle.rc_row_cache.specs.Entries.{AreEntries, IsCached}
use Rattle.rc_row_cache.specs.Fillers.{losses}
use Rattle.rc_row_cache.specs.Found.{entry_number}
use Rattle.rc_stream.specs.Snapshot.{NoneLost, most_counted}
use Rattle.rc_lookup.specs.Rest.{LeavesRest}
use Rattle.rc_lookup.specs.Staying.{IsEntryStill, IsStillThere}
use Rattle.rc_lookup.specs.laws.Staying.{still-cached, still-same, still-then}
use Rattle.rc_lookup.specs.calls.Touched.{IsReordered}
use Rattle.rc_lookup.proofs.Counted.{room-leaves}
use Rattle.rc_lookup.proofs.Entered.{entered-beside, entered-counts}
use Rattle.rc_lookup.proofs.Fills.{between}
use Rattle.rc_lookup.proofs.Kept.{same-number}
use Rattle.rc_lookup.proofs.Numbered.{changed-beside, none-is-none, there-or-not}

-- ---- chains

pub still-reordered : (old mid new : Memory) → IsReordered mid new → (id : ℕ) → IsStillThere old mid id → IsStillThere old new id
still-reordered old mid new r id h = still-then old mid new id h (still-same mid new id (ap (λ (m : Memory). chain_at m id) r.same))

-- ---- entries

-- the number of a chain that is there is not to be told
pub entry-there : (m : Memory) (id : ℕ) → ((i : ℕ) → IsNumberIn m.dropped i → chain_at m i ≡ None) → IsCached m id → IsNumberIn m.dropped id → ⊥
entry-there m id gone on out = none-is-none on.kept (sym (gone id out) ∙ on.there)

-- an entry whose chain is there still is one still, where those that are there were there, or are that of another key, of a chain of its own
pub entry-kept : (key q : List ℕ) (a b : List (List ℕ × ℕ)) (old new : Memory) (id : ℕ) → AreEntries a old → AreEntries b new →
    ((x : List ℕ) (i : ℕ) → entry_number b x ≡ Some i → (x ≡ key → ⊥) → entry_number a x ≡ Some i) → (entry_number b key ≡ Some id → ⊥) → entry_number a q ≡ Some id → IsCached old id → IsStillThere old new id → entry_number b q ≡ Some id
entry-kept key q a b old new id are now others apart e on h =
    let found = now.all id (still-cached old new id h on) in
    let was = others found.0 id found.1 (λ own. apart (subst (λ x. entry_number b x ≡ Some id) own found.1)) in
    subst (λ x. entry_number b x ≡ Some id) (are.apart found.0 q id was e) found.1

-- ---- a partition leaves the cache

module _ (key : List ℕ) (a b : List (List ℕ × ℕ)) (old new : Memory) (are : AreEntries a old) (now : AreEntries b new)
    (absent : entry_number b key ≡ None) (others : (x : List ℕ) (i : ℕ) → entry_number b x ≡ Some i → entry_number a x ≡ Some i)
    (none : entry_number a key ≡ None → new ≡ old) (detached : (id : ℕ) → entry_number a key ≡ Some id → IsDetached id old new) where
  beside-detached : (i : ℕ) → (entry_number a key ≡ Some i → ⊥) → chain_at new i ≡ chain_at old i
  beside-detached i other = there-or-not (entry_number a key)
      (λ out. ap (λ (m : Memory). chain_at m i) (none out))
      (λ id e. (let d = detached id e in there-or-not (chain_at old id)
      (λ out. ap (λ (m : Memory). chain_at m i) (d.gone out))
      (λ k there. changed-beside old new id (on_shown shown_detached) (d.there k there).2.chains i (λ same. other (e ∙ ap (λ n. Some n) (sym same))))))

  pub entry-beside : (q : List ℕ) → (q ≡ key → ⊥) → IsEntryStill q a old b new
  entry-beside q ne id e on =
      let still = still-same old new id (beside-detached id (λ own. ne (are.apart q key id e own))) in
      (entry-kept key q a b old new id are now (λ x i found _. others x i found) (λ own. none-is-none id (sym absent ∙ own)) e on still, still)

-- ---- a partition enters it

module _ (S : ℕ) (key : List ℕ) (pt : Option Tomb) (statics : Row) (phase : ℕ) (entries : List (List ℕ × ℕ)) (old mid new : Memory) (s : Snap) (e : IsEntered S key pt statics phase entries old mid s) (room : LeavesRest old e.made) (range : AreCountsInRange old.counts)
    (less : losses old ≤ losses mid) (more : losses mid ≤ losses new) (beside : NoneLost (losses mid) (losses new) → (id : ℕ) → (id ≡ s.chain → ⊥) → chain_at new id ≡ chain_at mid id) where
  -- where nothing was lost each chain that was there is as it was, and none of them is that of the new entry
  entered-still : NoneLost (losses old) (losses new) → (id : ℕ) → IsCached old id → (id ≡ s.chain → ⊥) × (chain_at new id ≡ chain_at old id)
  entered-still lost id on =
      let u = between (losses old) (losses mid) (losses new) less more lost in
      let counts = entered-counts S key pt statics phase entries old mid s e room in
      let evicted : mid.counts.evicted ≡ e.made.counts.evicted = counts.0 in
      let skipped : mid.counts.skipped ≡ e.made.counts.skipped = counts.1 in
      let same : losses old ≡ losses e.made = omega (arith, u.0.0, evicted, skipped) in
      let low : losses e.made < most_counted = omega (arith, u.0.1, evicted, skipped) in
      let made = room-leaves S old e.made range e.room same low id in
      let ne : id ≡ s.chain → ⊥ = λ own. none-is-none on.kept (sym (ap (chain_at e.made) own ∙ e.opened.vacant) ∙ made ∙ on.there) in
      (ne, beside u.1 id ne ∙ entered-beside S key pt statics phase entries old mid s e room id ne ∙ made)

  pub entry-entered : (a : List (List ℕ × ℕ)) → AreEntries a old → AreEntries entries new →
      ((x : List ℕ) (i : ℕ) → entry_number entries x ≡ Some i → (x ≡ key → ⊥) → entry_number a x ≡ Some i) → NoneLost (losses old) (losses new) → (q : List ℕ) → (q ≡ key → ⊥) → IsEntryStill q a old entries new
  entry-entered a are now others lost q ne id found on =
      let h = entered-still lost id on in
      let still = still-same old new id h.1 in
      (entry-kept key q a entries old new id are now others (λ own. h.0 (same-number id s.chain (sym own ∙ e.taken.entry))) found on still, still)

-- ---- answers

pub on-done : {A E : Type 0} (r : Result A E) (P : Type 0) → P → OnOk r P
on-done (Ok x) P h = h
on-done (Err e) P h = tt
