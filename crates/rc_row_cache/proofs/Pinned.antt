-- How many snapshots of chains of the cache are taken, after what is done to the memory.
use Rattle.std.proofs.Common.{inl, inr, ◌≡◌, ◌≤◌, ◌+◌, ℕ, zero, suc, cond, List, [], ◌∷◌, Option, Some, None, length, refl, sym, ap, ◌∙◌, subst, slice_index_or, sum_by, arith}
use Rattle.std.specs.Option.{option_map}
use Rattle.rc_cell.specs.declared.rows.Row.{Row}
use Rattle.rc_cell.specs.declared.writes.Tomb.{Tomb}
use Rattle.rc_core.specs.declared.entries.ChainKind.TheVariants.{Cache}
use Rattle.rc_core.specs.Steps.{pin_at, pins_with, pins_without}
use Rattle.rc_registry.specs.Registry.{put_at_number}
use Rattle.rc_memory.specs.Kept.{present}
use Rattle.rc_memory.specs.Memory.{IsSnapshotTaken, KeptChain, Member, Memory, chain_at, on_chain, on_shown, shown_detached, snapshot_number, with_dropped, with_snapshot, without_snapshot}
use Rattle.rc_memory.specs.laws.Places.{same_some}
use Rattle.rc_filler.specs.Evictions.{AreEvicted, IsRoomMade, evicted_of}
use Rattle.rc_filler.specs.Fills.{IsFillDone, IsPortionFilled, Portion, filled_with}
use Rattle.rc_filler.specs.Lives.{IsChainDropped, is_cache}
use Rattle.rc_filler.specs.Partitions.{AreAsBefore}
use Rattle.rc_filler.specs.Snap.{Snap}
use Rattle.rc_filler.specs.Stands.{HasCacheSnapshot}
use Rattle.rc_entries.specs.Detached.{IsDetached}
use Rattle.rc_entries.specs.Filling.{IsEntryOpened, chain_opened, filled_statics, on_newest_of}
use Rattle.rc_entries.specs.Invalidated.{IsInvalidated}
use Rattle.rc_stream.specs.Did.{StepsInTurn}
use Rattle.rc_unstored.specs.Readers.{taken_back}
use Rattle.rc_row_cache.specs.Calls.{IsEnterRefused, IsEntered, IsKeptOut}
use Rattle.rc_row_cache.specs.Footprint.{cache_snapshots, is_chain_of, snapshots_of}
use Rattle.rc_row_cache.specs.Leaving.{AreCachesSame, IsRoomMadeBeside}
use Rattle.rc_row_cache.specs.Saying.{AreFillsDone}
use Rattle.rc_row_cache.proofs.Alike.{InvalidationLaws}
use Rattle.rc_row_cache.proofs.Numbered.{among-or, chain-beside, chain-here, changed-beside, changed-now, here-or-beside, mapped, none-is-none, there-or-not}
use Rattle.rc_row_cache.proofs.Sums.{added_by, sum-filter, sum-least, sum-one, through}
use Rattle.rc_row_cache.proofs.Weighed.{kind-or}

-- ---- pins

pins-more : (version : ℕ) (ps : List (Option ℕ)) → length (present (pins_with version ps)) ≤ length (present ps) + 1
pins-more version [] = omega arith
pins-more version (None ∷ ps) = omega arith
pins-more version (Some p ∷ ps) = let more = pins-more version ps in omega (arith, more)

pins-less : (pin j : ℕ) (ps : List (Option ℕ)) → pin_at ps pin ≡ Some j → length (present (pins_without pin ps)) + 1 ≤ length (present ps)
pins-less pin j [] on = absurd (none-is-none j on)
pins-less zero j (None ∷ ps) on = absurd (none-is-none j on)
pins-less zero j (Some p ∷ ps) on = omega arith
pins-less (suc i) j (None ∷ ps) on = pins-less i j ps on
pins-less (suc i) j (Some p ∷ ps) on = let less = pins-less i j ps on in omega (arith, less)

pins-no-more : (pin : ℕ) (ps : List (Option ℕ)) → length (present (pins_without pin ps)) ≤ length (present ps)
pins-no-more pin [] = omega arith
pins-no-more zero (None ∷ ps) = omega arith
pins-no-more zero (Some p ∷ ps) = omega arith
pins-no-more (suc i) (None ∷ ps) = pins-no-more i ps
pins-no-more (suc i) (Some p ∷ ps) = let less = pins-no-more i ps in omega (arith, less)

-- lists that have the same at each number
pins-alike : (ps qs : List (Option ℕ)) → ((pin : ℕ) → pin_at ps pin ≡ pin_at qs pin) → length (present ps) ≤ length (present qs)
pins-alike [] qs h = omega arith
pins-alike (None ∷ ps) [] h = pins-alike ps [] (λ pin. h (suc pin))
pins-alike (Some p ∷ ps) [] h = absurd (none-is-none p (sym (h 0)))
pins-alike (None ∷ ps) (None ∷ qs) h = pins-alike ps qs (λ pin. h (suc pin))
pins-alike (None ∷ ps) (Some q ∷ qs) h = absurd (none-is-none q (h 0))
pins-alike (Some p ∷ ps) (None ∷ qs) h = absurd (none-is-none p (sym (h 0)))
pins-alike (Some p ∷ ps) (Some q ∷ qs) h = let same = pins-alike ps qs (λ pin. h (suc pin)) in omega (arith, same)

-- ---- one chain

-- how many snapshots a chain adds to those of the cache
abbrev pub pinned : KeptChain → ℕ
pinned = through (is_chain_of Cache) snapshots_of

pinned-cache : (k : KeptChain) → k.chain.kind ≡ Cache → pinned k ≡ snapshots_of k
pinned-cache k e = ap (λ kind. cond (is_cache kind) (snapshots_of k) 0) e

pinned-same : (k n : KeptChain) → n.chain.kind ≡ k.chain.kind → n.chain.pins ≡ k.chain.pins → pinned n ≡ pinned k
pinned-same k n kind pins = λ i. cond (is_cache (kind i)) (length (present (pins i))) 0

-- of the same kind, with no more snapshots but some
pinned-most : (more : ℕ) (k n : KeptChain) → n.chain.kind ≡ k.chain.kind → snapshots_of n ≤ snapshots_of k + more → pinned n ≤ pinned k + more
pinned-most more k n kind most = elim (kind-or n.chain.kind) [
  | inl memtable ↦ (let none : pinned n ≡ 0 = ap (λ q. cond (is_cache q) (snapshots_of n) 0) memtable in omega (arith, none))
  | inr cached ↦ (let was = pinned-cache k (sym kind ∙ cached) in let now = pinned-cache n cached in omega (arith, was, now, most))
]

-- ---- all chains

snapshots-are : (m : Memory) → cache_snapshots m ≡ sum_by pinned (present m.chains)
snapshots-are m = sum-filter (is_chain_of Cache) snapshots_of (present m.chains)

module _ (old new : Memory) where
  -- no chain has more
  snapshots-least : ((id : ℕ) → added_by pinned (chain_at new id) ≤ added_by pinned (chain_at old id)) → cache_snapshots new ≤ cache_snapshots old
  snapshots-least h = (let was = snapshots-are old in let now = snapshots-are new in let less = sum-least pinned pinned new.chains old.chains h in omega (arith, was, now, less))

  same-at : (id : ℕ) → chain_at new id ≡ chain_at old id → added_by pinned (chain_at new id) ≤ added_by pinned (chain_at old id)
  same-at id same = let e : added_by pinned (chain_at new id) ≡ added_by pinned (chain_at old id) = ap (added_by pinned) same in omega (arith, e)

  -- the chains are as they were
  pub snapshots-same : new.chains ≡ old.chains → cache_snapshots new ≤ cache_snapshots old
  snapshots-same chains = snapshots-least (λ id. same-at id (ap (λ cs. slice_index_or cs id None) chains))

  -- each chain that is there was there, of its kind, with no fewer snapshots
  pub snapshots-kept : ((id : ℕ) (n : KeptChain) → chain_at new id ≡ Some n → (k : KeptChain) × (chain_at old id ≡ Some k) × (n.chain.kind ≡ k.chain.kind) × (snapshots_of n ≤ snapshots_of k)) → cache_snapshots new ≤ cache_snapshots old
  snapshots-kept h = snapshots-least (λ id. there-or-not (chain_at new id)
      (λ none. let e : added_by pinned (chain_at new id) ≡ 0 = ap (added_by pinned) none in omega (arith, e))
      (λ n there. (
      let k = h id n there in
      let now : added_by pinned (chain_at new id) ≡ pinned n = ap (added_by pinned) there in
      let was : added_by pinned (chain_at old id) ≡ pinned k.0 = ap (added_by pinned) k.1 in
      let most = pinned-most 0 k.0 n k.2 (let few = k.3 in omega (arith, few)) in
      omega (arith, now, was, most))))

  -- a chain is gone, or one that nobody pins came to be
  pub snapshots-put : (id : ℕ) (c : Option KeptChain) → new.chains ≡ put_at_number id c old.chains → added_by pinned c ≡ 0 → cache_snapshots new ≤ cache_snapshots old
  snapshots-put id c is none = snapshots-least (λ i. here-or-beside (λ j. added_by pinned (chain_at new j) ≤ added_by pinned (chain_at old j)) id i
      (let here : added_by pinned (chain_at new id) ≡ added_by pinned c = ap (added_by pinned) (chain-here old new id c is) in omega (arith, here, none))
      (λ ne. same-at i (chain-beside old new id c is i ne)))

  module _ (id : ℕ) (f : KeptChain → KeptChain) (is : new.chains ≡ on_chain id f old.chains) where
    -- something was done to a chain, which has so many snapshots more at most, or so many less at least
    snapshots-changed : (less more : ℕ) → added_by pinned (chain_at new id) + less ≤ added_by pinned (chain_at old id) + more → cache_snapshots new + less ≤ cache_snapshots old + more
    snapshots-changed less more at =
        let was = snapshots-are old in
        let now = snapshots-are new in
        let sums = sum-one pinned pinned less more id new.chains old.chains (λ n ne. same-at n (changed-beside old new id f is n ne)) at in
        omega (arith, was, now, sums)

    pub snapshots-at-most : (more : ℕ) → ((k : KeptChain) → (f k).chain.kind ≡ k.chain.kind) → ((k : KeptChain) → snapshots_of (f k) ≤ snapshots_of k + more) → cache_snapshots new ≤ cache_snapshots old + more
    snapshots-at-most more kinds most = (
        let sums = snapshots-changed 0 more (there-or-not (chain_at old id)
        (λ none. (let now : added_by pinned (chain_at new id) ≡ 0 = ap (added_by pinned) (chain-here old new id (option_map f (chain_at old id)) is ∙ ap (option_map f) none) in omega (arith, now)))
        (λ k there. (
        let now : added_by pinned (chain_at new id) ≡ pinned (f k) = ap (added_by pinned) (changed-now old new id f is k there) in
        let was : added_by pinned (chain_at old id) ≡ pinned k = ap (added_by pinned) there in
        let less = pinned-most more k (f k) (kinds k) (most k) in
        omega (arith, now, was, less)))) in
        omega (arith, sums))

    pub snapshots-one-less : (k : KeptChain) → chain_at old id ≡ Some k → k.chain.kind ≡ Cache → (f k).chain.kind ≡ Cache → snapshots_of (f k) + 1 ≤ snapshots_of k → cache_snapshots new + 1 ≤ cache_snapshots old
    snapshots-one-less k there cached still less = (
        let now : added_by pinned (chain_at new id) ≡ pinned (f k) = ap (added_by pinned) (changed-now old new id f is k there) in
        let was : added_by pinned (chain_at old id) ≡ pinned k = ap (added_by pinned) there in
        let before = pinned-cache k cached in
        let after = pinned-cache (f k) still in
        let sums = snapshots-changed 1 0 (omega (arith, now, was, before, after, less)) in
        omega (arith, sums))

-- ---- snapshots

pub snapshots-taken : (id pin phase : ℕ) (old new : Memory) → IsSnapshotTaken old new id pin phase → cache_snapshots new ≤ cache_snapshots old + 1
snapshots-taken id pin phase old new t = snapshots-at-most old new id (λ k. with_snapshot (snapshot_number k.chain) k) (ap (λ (m : Memory). m.chains) t.now) 1 (λ k. refl) (λ k. pins-more (snapshot_number k.chain) k.chain.pins)

pub snapshots-back : (s : Snap) (m : Memory) → cache_snapshots (taken_back s m) ≤ cache_snapshots m
snapshots-back s m = (let most = snapshots-at-most m (taken_back s m) s.chain (without_snapshot s.pin) refl 0 (λ k. refl) (λ k. let less = pins-no-more s.pin k.chain.pins in omega (arith, less)) in omega (arith, most))

pub snapshots-given-back : (s : Snap) (m : Memory) → HasCacheSnapshot m s.chain s.pin → cache_snapshots (taken_back s m) + 1 ≤ cache_snapshots m
snapshots-given-back s m h = snapshots-one-less m (taken_back s m) s.chain (without_snapshot s.pin) refl h.chain h.there h.cached h.cached (pins-less s.pin h.number h.chain.chain.pins h.pinned)

-- ---- evictions, and what is opened and filled

-- what evictions leave of the use of a chain
pub record PinLaws : Type 0 where
  pub kind : (id : ℕ) (went : List Member) (k : KeptChain) → (evicted_of id went k).chain.kind ≡ k.chain.kind
  pub pins : (id : ℕ) (went : List Member) (k : KeptChain) → (evicted_of id went k).chain.pins ≡ k.chain.pins

-- as many snapshots where the pins are the same
pins-are : (k n : KeptChain) → n.chain.pins ≡ k.chain.pins → snapshots_of n ≤ snapshots_of k
pins-are k n same = let e : snapshots_of n ≡ snapshots_of k = ap (λ ps. length (present ps)) same in omega (arith, e)

pub snapshots-opened : (id : ℕ) (pt : Option Tomb) (statics : Option Row) (phase : ℕ) (old new : Memory) → IsEntryOpened id pt statics phase old new → cache_snapshots new ≤ cache_snapshots old
snapshots-opened id pt statics phase old new o = snapshots-put old new id (Some (chain_opened pt statics phase)) o.chains refl

pub snapshots-dropped : (id : ℕ) (list : List Member) (old new : Memory) → IsChainDropped id list old new → cache_snapshots new ≤ cache_snapshots old
snapshots-dropped id list old new d = snapshots-put old new id None d.chains refl

snapshots-portion : (portion : Portion) (id pin : ℕ) (old new : Memory) → IsPortionFilled portion id pin old new → cache_snapshots new ≤ cache_snapshots old
snapshots-portion portion id pin old new f = (
    let most = snapshots-at-most old new id (on_shown (on_newest_of (filled_with portion))) f.filled.chains 0 (λ k. refl) (λ k. omega arith) in omega (arith, most))

pub snapshots-detached : (id : ℕ) (old new : Memory) → IsDetached id old new → cache_snapshots new ≤ cache_snapshots old
snapshots-detached id old new d = there-or-not (chain_at old id)
    (λ none. snapshots-same old new (ap (λ (m : Memory). m.chains) (d.gone none)))
    (λ k there. (let most = snapshots-at-most old new id (on_shown shown_detached) (d.there k there).2.chains 0 (λ q. refl) (λ q. omega arith) in omega (arith, most)))

pub snapshots-before : (old new : Memory) → AreAsBefore old new → cache_snapshots new ≤ cache_snapshots old
snapshots-before old new b = snapshots-kept old new (λ id n e. there-or-not (chain_at old id)
    (λ none. absurd (none-is-none n (sym (b.absent id none) ∙ e)))
    (λ k there. (
    let now = b.there id k there in
    let same : now.0 ≡ n = same_some now.0 n (sym now.1 ∙ e) in
    (k, there, subst (λ (q : KeptChain). q.chain.kind ≡ k.chain.kind) same now.2.kind, subst (λ (q : KeptChain). snapshots_of q ≤ snapshots_of k) same (pins-alike now.0.chain.pins k.chain.pins now.2.pins)))))

pub snapshots-invalidated : InvalidationLaws → (ids : List ℕ) (phase : ℕ) (old new : Memory) → IsInvalidated ids phase old new → cache_snapshots new ≤ cache_snapshots old
snapshots-invalidated laws ids phase old new h = snapshots-kept old new (λ id n e. there-or-not (chain_at old id)
    (λ none. absurd (none-is-none n (sym (laws.none ids phase id old new h none) ∙ e)))
    (λ k there. (
    let now = laws.readers ids phase id k old new h there in
    let same : now.0 ≡ n = same_some now.0 n (sym now.1 ∙ e) in
    (k, there, subst (λ (q : KeptChain). q.chain.kind ≡ k.chain.kind) same now.2.kind, subst (λ (q : KeptChain). snapshots_of q ≤ snapshots_of k) same (pins-are k now.0 now.2.pins)))))

-- each chain of the cache is as it was
pub snapshots-beside : (old new : Memory) → AreCachesSame old new → cache_snapshots new ≤ cache_snapshots old
snapshots-beside old new same = snapshots-least old new (λ id. there-or-not (chain_at new id)
    (λ none. (let e : added_by pinned (chain_at new id) ≡ 0 = ap (added_by pinned) none in omega (arith, e)))
    (λ n there. elim (kind-or n.chain.kind) [
      | inl memtable ↦ (
          let now : added_by pinned (chain_at new id) ≡ pinned n = ap (added_by pinned) there in
          let none : pinned n ≡ 0 = ap (λ q. cond (is_cache q) (snapshots_of n) 0) memtable in
          omega (arith, now, none))
      | inr cached ↦ same-at old new id (there ∙ sym (same.none id n cached there))
    ]))

module _ (laws : PinLaws) where
  pub snapshots-evicted : (went : List Member) (gone : List ℕ) (old new : Memory) → AreEvicted went gone old new → cache_snapshots new ≤ cache_snapshots old
  snapshots-evicted went gone old new a = snapshots-kept old new (λ id n e. elim (among-or gone id) [
    | inl on ↦ absurd (none-is-none n (sym (a.absent id on) ∙ e))
    | inr off ↦ (
        let was = mapped (evicted_of id went) (chain_at old id) n (sym (a.chains id off) ∙ e) in
        (was.0, was.1, subst (λ (q : KeptChain). q.chain.kind ≡ was.0.chain.kind) was.2 (laws.kind id went was.0), subst (λ (q : KeptChain). snapshots_of q ≤ snapshots_of was.0) was.2 (pins-are was.0 (evicted_of id went was.0) (laws.pins id went was.0))))
  ])

  module _ (S : ℕ) where
    pub snapshots-made : (old new : Memory) → IsRoomMade S old new → cache_snapshots new ≤ cache_snapshots old
    snapshots-made old new r = snapshots-evicted r.went r.gone old new r.evicted

    pub snapshots-made-beside : (old new : Memory) → IsRoomMadeBeside S old new → cache_snapshots new ≤ cache_snapshots old
    snapshots-made-beside old new b = (let made = snapshots-made old b.mid b.room in let same = snapshots-beside b.mid new b.same in omega (arith, made, same))

    pub snapshots-entered : (key : List ℕ) (pt : Option Tomb) (statics : Row) (phase : ℕ) (entries : List (List ℕ × ℕ)) (old new : Memory) (s : Snap) → IsEntered S key pt statics phase entries old new s → cache_snapshots new ≤ cache_snapshots old + 1
    snapshots-entered key pt statics phase entries old new s e = (
        let made = snapshots-made old e.made e.room in
        let told = snapshots-same e.made (with_dropped [] e.made) refl in
        let opened = snapshots-opened s.chain pt (filled_statics statics) phase (with_dropped [] e.made) e.between e.opened in
        let taken = snapshots-taken s.chain s.pin s.phase e.between new e.taken.taken in
        omega (arith, made, told, opened, taken))

    pub snapshots-kept-out : (old new : Memory) → IsKeptOut S old new → cache_snapshots new ≤ cache_snapshots old
    snapshots-kept-out old new (made, room, full, counted) = (let less = snapshots-made old made room in let same = snapshots-same made new (ap (λ (m : Memory). m.chains) counted) in omega (arith, less, same))

    pub snapshots-enter-refused : (pt : Option Tomb) (statics : Row) (phase : ℕ) (old new : Memory) → IsEnterRefused S pt statics phase old new → cache_snapshots new ≤ cache_snapshots old
    snapshots-enter-refused pt statics phase old new (inl same) = snapshots-same old new (ap (λ (m : Memory). m.chains) same)
    snapshots-enter-refused pt statics phase old new (inr (made, room, inl slots)) = (let less = snapshots-made old made room in let same = snapshots-same made new (ap (λ (m : Memory). m.chains) slots.same) in omega (arith, less, same))
    snapshots-enter-refused pt statics phase old new (inr (made, room, inr (id, opened))) = (
        let less = snapshots-made old made room in
        let told = snapshots-same made (with_dropped [] made) refl in
        let same = snapshots-opened id pt (filled_statics statics) phase (with_dropped [] made) new opened in
        omega (arith, less, told, same))

    module _ (id pin : ℕ) where
      snapshots-fill : (old new : Memory) → IsFillDone S id pin old new → cache_snapshots new ≤ cache_snapshots old
      snapshots-fill old new (inl same) = snapshots-same old new (ap (λ (m : Memory). m.chains) same)
      snapshots-fill old new (inr (mid, portion, room, inl filled)) = (let less = snapshots-made old mid room in let same = snapshots-portion portion id pin mid new filled in omega (arith, less, same))
      snapshots-fill old new (inr (mid, portion, room, inr skipped)) = (let less = snapshots-made old mid room in let same = snapshots-same mid new (ap (λ (m : Memory). m.chains) skipped.1) in omega (arith, less, same))

      snapshots-turns : (n : ℕ) (old new : Memory) → StepsInTurn (IsFillDone S id pin) n old new → cache_snapshots new ≤ cache_snapshots old
      snapshots-turns zero old new same = snapshots-same old new (ap (λ (m : Memory). m.chains) (sym same))
      snapshots-turns (suc n) old new (mid, one, rest) = (let first = snapshots-fill old mid one in let later = snapshots-turns n mid new rest in omega (arith, first, later))

      pub snapshots-filled : (old new : Memory) → AreFillsDone S id pin old new → cache_snapshots new ≤ cache_snapshots old
      snapshots-filled old new (n, turns) = snapshots-turns n old new turns
