-- Where room was made memtables take as much as before, if the recency list keeps its rule; so they do where something of the cache is made or filled then.
use Rattle.std.proofs.Common.{inl, inr, ◌≡◌, ℕ, List, [], Option, Some, None, refl, sym, ap, ◌∙◌, slice_index_or}
use Rattle.rc_cell.specs.declared.rows.Row.{Row}
use Rattle.rc_cell.specs.declared.writes.Tomb.{Tomb}
use Rattle.rc_core.specs.declared.entries.ChainKind.TheVariants.{Cache, Memtable}
use Rattle.rc_memory.specs.Memory.{KeptChain, Member, Memory, chain_at, on_shown, with_dropped}
use Rattle.rc_memory.specs.Recency.{IsRecency}
use Rattle.rc_memory.specs.laws.Places.{same_some}
use Rattle.rc_filler.specs.Snap.{Snap}
use Rattle.rc_filler.specs.Evictions.{AreEvicted, IsRoomMade, evicted_of}
use Rattle.rc_entries.specs.Filling.{IsEntryOpened, chain_opened, filled_statics, on_newest_of}
use Rattle.rc_filler.specs.Fills.{IsFillDone, IsPortionFilled, Portion, filled_with}
use Rattle.rc_row_cache.specs.Calls.{IsEntered, IsKeptOut}
use Rattle.rc_row_cache.specs.Footprint.{memtable_bytes}
use Rattle.rc_row_cache.proofs.Alike.{alike-at, alike-taken}
use Rattle.rc_row_cache.proofs.Numbered.{among-or, chain-beside, chain-here, changed-beside, changed-was, here-or-beside, mapped, none-is-none, there-or-not}
use Rattle.rc_row_cache.proofs.Sums.{added_by}
use Rattle.rc_row_cache.proofs.Weighed.{bytes-same, kind-or, weigh, weigh-other}

-- what stands at each number adds as much to what memtables take
abbrev pub AreSpared : Memory → Memory → Type 0
AreSpared old new = (id : ℕ) → added_by (weigh Memtable) (chain_at new id) ≡ added_by (weigh Memtable) (chain_at old id)

pub spared-bytes : (old new : Memory) → AreSpared old new → memtable_bytes new ≡ memtable_bytes old
spared-bytes old new h = bytes-same Memtable old new h

spared-then : (old mid new : Memory) → AreSpared old mid → AreSpared mid new → AreSpared old new
spared-then old mid new f g id = g id ∙ f id

spared-same : (old new : Memory) → new.chains ≡ old.chains → AreSpared old new
spared-same old new is id = ap (λ cs. added_by (weigh Memtable) (slice_index_or cs id None)) is

-- a number adds nothing where a chain of the cache stands there, or none
nothing-added : (o : Option KeptChain) → ((k : KeptChain) → o ≡ Some k → k.chain.kind ≡ Cache) → added_by (weigh Memtable) o ≡ 0
nothing-added None h = refl
nothing-added (Some k) h = weigh-other k (h k refl)

-- ---- evictions

-- what evictions leave of the chains of memtables
pub record SparingLaws : Type 0 where
  pub kind : (id : ℕ) (went : List Member) (k : KeptChain) → (evicted_of id went k).chain.kind ≡ k.chain.kind
  pub memtable : (went : List Member) (gone : List ℕ) (old new : Memory) (id : ℕ) (k : KeptChain) → IsRecency old → AreEvicted went gone old new → chain_at old id ≡ Some k → k.chain.kind ≡ Memtable → chain_at new id ≡ Some k
  pub absent : (went : List Member) (gone : List ℕ) (old new : Memory) (id : ℕ) → AreEvicted went gone old new → chain_at old id ≡ None → chain_at new id ≡ None

module _ (laws : SparingLaws) where
  module _ (went : List Member) (gone : List ℕ) (old new : Memory) (a : AreEvicted went gone old new) where
    still-cached : (id : ℕ) (k n : KeptChain) → chain_at old id ≡ Some k → k.chain.kind ≡ Cache → chain_at new id ≡ Some n → n.chain.kind ≡ Cache
    still-cached id k n there cached e = elim (among-or gone id) [
      | inl on ↦ absurd (none-is-none n (sym (a.absent id on) ∙ e))
      | inr off ↦ (
          let was = mapped (evicted_of id went) (chain_at old id) n (sym (a.chains id off) ∙ e) in
          ap (λ (q : KeptChain). q.chain.kind) (sym was.2) ∙ laws.kind id went was.0 ∙ ap (λ (q : KeptChain). q.chain.kind) (same_some was.0 k (sym was.1 ∙ there)) ∙ cached)
    ]

    evicted-spared : IsRecency old → AreSpared old new
    evicted-spared rule id = there-or-not (chain_at old id)
        (λ none. ap (added_by (weigh Memtable)) (laws.absent went gone old new id a none ∙ sym none))
        (λ k there. elim (kind-or k.chain.kind) [
          | inl memtable ↦ ap (added_by (weigh Memtable)) (laws.memtable went gone old new id k rule a there memtable ∙ sym there)
          | inr cached ↦ nothing-added (chain_at new id) (λ n e. still-cached id k n there cached e) ∙ sym (ap (added_by (weigh Memtable)) there ∙ weigh-other k cached)
        ])

  -- ---- what the row cache does

  module _ (S : ℕ) where
    pub made-spared : (old new : Memory) → IsRecency old → IsRoomMade S old new → AreSpared old new
    made-spared old new rule r = evicted-spared r.went r.gone old new r.evicted rule

    opened-spared : (id : ℕ) (pt : Option Tomb) (statics : Option Row) (phase : ℕ) (old new : Memory) → IsEntryOpened id pt statics phase old new → AreSpared old new
    opened-spared id pt statics phase old new o i = here-or-beside (λ j. added_by (weigh Memtable) (chain_at new j) ≡ added_by (weigh Memtable) (chain_at old j)) id i
        (ap (added_by (weigh Memtable)) (chain-here old new id (Some (chain_opened pt statics phase)) o.chains) ∙ sym (ap (added_by (weigh Memtable)) o.vacant))
        (λ ne. ap (added_by (weigh Memtable)) (chain-beside old new id (Some (chain_opened pt statics phase)) o.chains i ne))

    pub entered-spared : (key : List ℕ) (pt : Option Tomb) (statics : Row) (phase : ℕ) (entries : List (List ℕ × ℕ)) (old new : Memory) (s : Snap) → IsRecency old → IsEntered S key pt statics phase entries old new s → AreSpared old new
    entered-spared key pt statics phase entries old new s rule e =
        spared-then old e.made new (made-spared old e.made rule e.room)
        (spared-then e.made e.between new (spared-then e.made (with_dropped [] e.made) e.between (spared-same e.made (with_dropped [] e.made) refl) (opened-spared s.chain pt (filled_statics statics) phase (with_dropped [] e.made) e.between e.opened))
        (alike-at e.between new (alike-taken s.chain s.pin s.phase e.between new e.taken.taken) Memtable))

    pub kept-out-spared : (old new : Memory) → IsRecency old → IsKeptOut S old new → AreSpared old new
    kept-out-spared old new rule (made, room, full, counted) = spared-then old made new (made-spared old made rule room) (spared-same made new (ap (λ (m : Memory). m.chains) counted))

    portion-spared : (portion : Portion) (id pin : ℕ) (old new : Memory) → IsPortionFilled portion id pin old new → AreSpared old new
    portion-spared portion id pin old new f i = here-or-beside (λ j. added_by (weigh Memtable) (chain_at new j) ≡ added_by (weigh Memtable) (chain_at old j)) id i
        (nothing-added (chain_at new id) (λ n e. (
        let was = changed-was old new id (on_shown (on_newest_of (filled_with portion))) f.filled.chains n e in
        ap (λ (q : KeptChain). q.chain.kind) (sym was.2) ∙ ap (λ (q : KeptChain). q.chain.kind) (same_some was.0 f.snapshot.chain (sym was.1 ∙ f.snapshot.there)) ∙ f.snapshot.cached))
        ∙ sym (ap (added_by (weigh Memtable)) f.snapshot.there ∙ weigh-other f.snapshot.chain f.snapshot.cached))
        (λ ne. ap (added_by (weigh Memtable)) (changed-beside old new id (on_shown (on_newest_of (filled_with portion))) f.filled.chains i ne))

    pub fill-spared : (id pin : ℕ) (old new : Memory) → IsRecency old → IsFillDone S id pin old new → AreSpared old new
    fill-spared id pin old new rule (inl same) = spared-same old new (ap (λ (m : Memory). m.chains) same)
    fill-spared id pin old new rule (inr (mid, portion, room, inl filled)) = spared-then old mid new (made-spared old mid rule room) (portion-spared portion id pin mid new filled)
    fill-spared id pin old new rule (inr (mid, portion, room, inr skipped)) = spared-then old mid new (made-spared old mid rule room) (spared-same mid new (ap (λ (m : Memory). m.chains) skipped.1))
