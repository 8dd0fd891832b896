-- An entry that is opened once there is room: the entries then, what the cache says, and what snapshots see.
use Rattle.std.proofs.Common.{inl, inr, ◌≡◌, ◌≢◌, ℕ, Bool, true, false, cond, List, Option, Some, None, refl, sym, ap, ◌∙◌, subst, slice_index_or}
use Rattle.std.specs.BTreeMap.{insert_entry}
use Rattle.std.specs.Cmp.{eq_by_cmp_equiv}
use Rattle.std.specs.Prelude.{Err, IfNone, IfOk, IfSome, IsSome, Ok, OnErr, Result}
use Rattle.std.specs.Ordering.{eq_by_cmp, is_eq}
use Rattle.std.specs.declared.cmp.Ordering.{Ordering}
use Rattle.std.specs.declared.cmp.Ordering.TheVariants.{Less, Equal, Greater}
use Rattle.rc_cell.specs.declared.rows.Row.{Row}
use Rattle.rc_cell.specs.declared.writes.Tomb.{Tomb}
use Rattle.rc_position.specs.Position.{bytes_cmp}
use Rattle.rc_position.specs.laws.Orders.{bytes_cmp_same, bytes_cmp_total}
use Rattle.rc_mutation.specs.declared.mutations.Mutation.{Mutation}
use Rattle.rc_core.specs.Steps.{pin_at}
use Rattle.rc_registry.specs.Registry.{IsNumberIn}
use Rattle.rc_memory.specs.Memory.{IsSnapshotTaken, Memory, chain_at, snapshot_number}
use Rattle.rc_chain.specs.declared.chains.Snap.{Snap}
use Rattle.rc_entries.specs.Filling.{IsEntryOpened, MayFill, chain_opened}
use Rattle.rc_entries.specs.Filled.{may-fill}
use Rattle.rc_entries.specs.Entries.{AreEntries, AreSettled, IsCached}
use Rattle.rc_entries.specs.Found.{entry_number}
use Rattle.rc_filler.specs.Stands.{HasCacheSnapshot}
use Rattle.rc_snapshots.specs.Seeing.{NothingIsLost}
use Rattle.rc_row_cache.specs.Saying.{PinsAlike}
use Rattle.rc_row_cache.proofs.Cache.{opened-stays}
use Rattle.rc_row_cache.proofs.Numbered.{chain-beside, chain-here, changed-now, none-is-none}
use Rattle.rc_row_cache.proofs.Snapshots.{SnapshotLaws, is, more, number-of}
use Rattle.rc_row_cache.proofs.Taking.{has-pin, still-sees}

-- ---- keys

equal-is : (r : Ordering) → is_eq r ≡ true → r ≡ Equal
equal-is Less e = absurd (cc)
equal-is Equal e = refl
equal-is Greater e = absurd (cc)

key-is : (key q : List ℕ) → eq_by_cmp bytes_cmp key q ≡ true → key ≡ q
key-is key q e = bytes_cmp_same key q (equal-is (bytes_cmp key q) e)

-- ---- entries

module _ (added : (entries : List (List ℕ × ℕ)) (key : List ℕ) (id : ℕ) (q : List ℕ) → entry_number entries key ≡ None → entry_number (insert_entry bytes_cmp entries key id) q ≡ cond (eq_by_cmp bytes_cmp key q) (Some id) (entry_number entries q))
    (entries now : List (List ℕ × ℕ)) (key : List ℕ) (id : ℕ) (absent : entry_number entries key ≡ None) (is : now ≡ insert_entry bytes_cmp entries key id) where
  pub entry-here : entry_number now key ≡ Some id
  entry-here = ap (λ (es : List (List ℕ × ℕ)). entry_number es key) is ∙ added entries key id key absent ∙ ap (λ b. cond b (Some id) (entry_number entries key)) ((eq_by_cmp_equiv bytes_cmp_total).refl key)

  pub entry-other : (q : List ℕ) (i : ℕ) → entry_number now q ≡ Some i → (q ≡ key → ⊥) → entry_number entries q ≡ Some i
  entry-other q i e ne = by (eq_by_cmp bytes_cmp key q) refl (sym (added entries key id q absent) ∙ sym (ap (λ (es : List (List ℕ × ℕ)). entry_number es q) is) ∙ e)
    where
      by : (b : Bool) → eq_by_cmp bytes_cmp key q ≡ b → cond b (Some id) (entry_number entries q) ≡ Some i → entry_number entries q ≡ Some i
      by true t f = absurd (ne (sym (key-is key q t)))
      by false t f = f

pub cached-same : (old new : Memory) (id : ℕ) → chain_at new id ≡ chain_at old id → IsCached old id → IsCached new id
cached-same old new id same c = record { kept = c.kept; there = same ∙ c.there; kind = c.kind; attached = c.attached }

-- over the same chains, with the same numbers to be told
module _ (entries : List (List ℕ × ℕ)) (old new : Memory) (chains : new.chains ≡ old.chains) (dropped : new.dropped ≡ old.dropped) where
  same-at : (id : ℕ) → chain_at new id ≡ chain_at old id
  same-at id = ap (λ cs. slice_index_or cs id None) chains

  pub same-entries : AreEntries entries old → AreEntries entries new
  same-entries a = record {
    ascend = a.ascend;
    apart = a.apart;
    kept = λ key id e. elim (a.kept key id e) [ inl c ↦ inl (cached-same old new id (same-at id) c) | inr on ↦ inr (subst (λ ns. IsNumberIn ns id) (sym dropped) on) ];
    all = λ id c. a.all id (cached-same new old id (sym (same-at id)) c);
  }

  pub same-settled : AreSettled entries old → AreSettled entries new
  same-settled h key id e on = h key id e (subst (λ ns. IsNumberIn ns id) dropped on)

-- a key that was none is none where entries are forgotten
pub still-absent : (before now : List (List ℕ × ℕ)) (key : List ℕ) → ((id : ℕ) → entry_number now key ≡ Some id → entry_number before key ≡ Some id) → entry_number before key ≡ None → entry_number now key ≡ None
still-absent before now key left none = by (entry_number now key) refl
  where
    by : (o : Option ℕ) → entry_number now key ≡ o → o ≡ None
    by None e = refl
    by (Some id) e = absurd (none-is-none id (sym none ∙ left id e))

-- ---- a chain that comes to be

module _ (id phase : ℕ) (pt : Option Tomb) (statics : Option Row) (old new : Memory) (o : IsEntryOpened id pt statics phase old new) where
  pub opened-lost : NothingIsLost old new
  opened-lost s h =
      let k = has-pin old s.chain s.pin h in
      let ne : s.chain ≢ id = λ same. none-is-none k.0 (sym o.vacant ∙ sym (ap (chain_at old) same) ∙ k.1) in
      still-sees s old new k.0 k.0 k.1 (chain-beside old new id (Some (chain_opened pt statics phase)) o.chains s.chain ne ∙ k.1) refl refl refl k.2

  pub opened-pinned : (below : ℕ → List Mutation) (chain pin : ℕ) → PinsAlike below below chain pin old new
  opened-pinned below chain pin h = (opened-stays below chain pin id phase pt statics old new o h).1

-- ---- what was answered

module _ {X E : Type 0} where
  pub if-some : (r : Result (Option X) E) (P Q : X → Type 0) → ((x : X) → P x → Q x) → IfOk r (λ o. IfSome o P) → IfOk r (λ o. IfSome o Q)
  if-some (Ok None) P Q f h = h
  if-some (Ok (Some x)) P Q f h = f x h
  if-some (Err e) P Q f h = h

  pub on-err : (r : Result X E) (P Q : Type 0) → (P → Q) → OnErr r P → OnErr r Q
  on-err (Ok x) P Q f h = h
  on-err (Err e) P Q f h = f h

  pub if-none : (r : Result (Option X) E) (P : Type 0) → IfOk r IsSome → IfOk r (λ o. IfNone o P)
  if-none (Ok None) P h = absurd (cc)
  if-none (Ok (Some x)) P h = tt
  if-none (Err e) P h = h

-- ---- what may be filled

pub number-same : (m n : ℕ) → Some m ≡ Some n → m ≡ n
number-same m n e = cc

-- a snapshot of a chain that was opened may fill it
pub entered-may : (laws : SnapshotLaws) (id phase : ℕ) (pt : Option Tomb) (statics : Option Row) (old mid new : Memory) → IsEntryOpened id pt statics phase old mid → (s : Snap) → id ≡ s.chain → IsSnapshotTaken mid new s.chain s.pin s.phase → MayFill new s.chain s.pin
entered-may laws id phase pt statics old mid new o s same taken =
    let k = chain_opened pt statics phase in
    let there : chain_at mid s.chain ≡ Some k = ap (chain_at mid) (sym same) ∙ chain-here old mid id (Some k) o.chains in
    may-fill new s.chain s.pin (snapshot_number k.chain) (more k) (changed-now mid new s.chain more (is laws s.chain s.pin s.phase mid new taken) k there)
    (ap (pin_at (more k).chain.pins) (number-of laws s.chain s.pin s.phase mid new taken k there) ∙ laws.given_at (snapshot_number k.chain) k) (record { newest = refl; attached = refl; settled = refl })

-- of the chain that an entry has then no snapshot was there before
pub entered-apart : (id phase : ℕ) (pt : Option Tomb) (statics : Option Row) (old mid : Memory) → IsEntryOpened id pt statics phase old mid → (entry : Option ℕ) → entry ≡ Some id → (i pin : ℕ) → entry ≡ Some i → HasCacheSnapshot old i pin → ⊥
entered-apart id phase pt statics old mid o entry here i pin there h =
    let same : id ≡ i = number-same id i (sym here ∙ there) in
    none-is-none h.chain (sym o.vacant ∙ ap (chain_at old) same ∙ h.there)
