-- That no chain of the cache is to be dropped, after what is done to the memory.
use Rattle.std.proofs.Common.{inl, inr, ◌≡◌, ◌≢◌, ◌⊎◌, ℕ, true, false, cond, List, [], ◌∷◌, Option, Some, None, refl, sym, ap, ◌∙◌, subst, slice_index_or}
use Rattle.std.specs.Prelude.{Contains}
use Rattle.std.proofs.lemmas.List.Elements.{Contains-append_cases, Contains-append_right}
use Rattle.lsa_pool.specs.laws.Usages.{decided}
use Rattle.rc_cell.specs.declared.rows.Row.{Row}
use Rattle.rc_cell.specs.declared.writes.Tomb.{Tomb}
use Rattle.rc_position.specs.declared.positions.Pos.{Pos}
use Rattle.rc_core.specs.declared.entries.ChainKind.TheVariants.{Cache}
use Rattle.rc_core.specs.Chains.{IsPinned}
use Rattle.rc_core.specs.Steps.{on_newest, pin_at, pins_with, with_phase}
use Rattle.rc_core.specs.Version.{end_position}
use Rattle.rc_core.specs.laws.Pins.{pin-is-pinned, pinned-by-number}
use Rattle.rc_partition.specs.laws.Lists.{elem-cases, elem-first, elem-later, elem-left, elem-none}
use Rattle.rc_registry.specs.Registry.{AreFree, IsNumberIn, put_at_number}
use Rattle.rc_memory.specs.Changes.{member_at}
use Rattle.rc_memory.specs.Memory.{IsSnapshotTaken, KeptChain, Member, Memory, chain_at, on_chain, on_shown, shown_detached, shown_with, snapshot_number, with_chains, with_snapshot, without_snapshot}
use Rattle.rc_memory.specs.laws.Places.{same_some}
use Rattle.rc_filler.specs.Lives.{IsChainDropped, IsIdle, relabelled_chain}
use Rattle.rc_filler.specs.Evictions.{AreEvicted, evicted_of}
use Rattle.rc_filler.specs.Partitions.{AreAsBefore, IsAsBefore}
use Rattle.rc_entries.specs.Filling.{IsEntryOpened, chain_opened, on_newest_of, opened_places}
use Rattle.rc_entries.specs.Detached.{IsDetached}
use Rattle.rc_entries.specs.Invalidated.{IsInvalidated}
use Rattle.rc_filler.specs.Fills.{IsPortionFilled, Portion, filled_with}
use Rattle.rc_row_cache.specs.Leaving.{AreCachesSame}
use Rattle.rc_row_cache.specs.Footprint.{AreInUse}
use Rattle.rc_row_cache.proofs.Numbered.{among-or, chain-beside, chain-here, changed-beside, changed-was, here-or-beside, mapped, none-is-none, there-or-not}

-- ---- one chain

-- two chains are of one kind, both under update or neither, and have the same snapshots
pub record IsUsedSame (k n : KeptChain) : Type 0 where
  pub kind : n.chain.kind ≡ k.chain.kind
  pub updating : n.chain.updating ≡ k.chain.updating
  pub pins : n.chain.pins ≡ k.chain.pins

used-itself : (k : KeptChain) → IsUsedSame k k
used-itself k = record { kind = refl; updating = refl; pins = refl }

-- what was listed of a chain still is
abbrev pub StaysListed : ℕ → List Member → List Member → Type 0
StaysListed id old new = (j : ℕ) (at : Option Pos) → Contains old (member_at id j at) → Contains new (member_at id j at)

idle-was : (m n : Memory) (id : ℕ) (k l : KeptChain) → IsUsedSame k l → StaysListed id m.recency n.recency → IsIdle n id l.chain → IsIdle m id k.chain
idle-was m n id k l u listed i = record {
  cached = sym u.kind ∙ i.cached;
  settled = sym u.updating ∙ i.settled;
  unpinned = subst AreFree u.pins i.unpinned;
  unlisted = λ j at on. i.unlisted j at (listed j at on);
}

list-same : (id : ℕ) (old new : List Member) → new ≡ old → StaysListed id old new
list-same id old new is j at on = subst (λ l. Contains l (member_at id j at)) (sym is) on

-- ---- number by number

-- what is to be dropped at a number was to be dropped
abbrev WasIdle : Memory → Memory → ℕ → Type 0
WasIdle old new id = (n : KeptChain) → chain_at new id ≡ Some n → IsIdle new id n.chain → (k : KeptChain) × (chain_at old id ≡ Some k) × IsIdle old id k.chain

pub used-by : (old new : Memory) → ((id : ℕ) → WasIdle old new id) → AreInUse old → AreInUse new
used-by old new h used id n e idle = let was = h id n e idle in used id was.0 was.1 was.2

module _ (old new : Memory) where
  idle-beside : (id : ℕ) → chain_at new id ≡ chain_at old id → StaysListed id old.recency new.recency → WasIdle old new id
  idle-beside id same listed n e idle = (n, sym same ∙ e, idle-was old new id n n (used-itself n) listed idle)

  -- chains and list are as they were
  pub used-same : new.chains ≡ old.chains → new.recency ≡ old.recency → AreInUse old → AreInUse new
  used-same chains list = used-by old new (λ id. idle-beside id (ap (λ cs. slice_index_or cs id None) chains) (list-same id old.recency new.recency list))

  module _ (id : ℕ) (f : KeptChain → KeptChain) (is : new.chains ≡ on_chain id f old.chains) where
    -- something was done to one chain, whose use is the same
    pub used-changed : ((k : KeptChain) → chain_at old id ≡ Some k → IsUsedSame k (f k)) → ((i : ℕ) → StaysListed i old.recency new.recency) → AreInUse old → AreInUse new
    used-changed same listed = used-by old new (λ i. here-or-beside (WasIdle old new) id i
        (λ n e idle. (let was = changed-was old new id f is n e in
        (was.0, was.1, idle-was old new id was.0 n (subst (IsUsedSame was.0) was.2 (same was.0 was.1)) (listed id) idle)))
        (λ ne. idle-beside i (changed-beside old new id f is i ne) (listed i)))

    -- or which is not to be dropped then
    pub used-kept : ((k : KeptChain) → chain_at old id ≡ Some k → IsIdle new id (f k).chain → ⊥) → ((i : ℕ) → i ≢ id → StaysListed i old.recency new.recency) → AreInUse old → AreInUse new
    used-kept kept listed = used-by old new (λ i. here-or-beside (WasIdle old new) id i
        (λ n e idle. (let was = changed-was old new id f is n e in absurd (kept was.0 was.1 (subst (λ (q : KeptChain). IsIdle new id q.chain) (sym was.2) idle))))
        (λ ne. idle-beside i (changed-beside old new id f is i ne) (listed i ne)))

  -- another chain stands at a number, which is not to be dropped
  pub used-put : (id : ℕ) (c : Option KeptChain) → new.chains ≡ put_at_number id c old.chains → ((k : KeptChain) → c ≡ Some k → IsIdle new id k.chain → ⊥) → ((i : ℕ) → i ≢ id → StaysListed i old.recency new.recency) → AreInUse old → AreInUse new
  used-put id c is kept listed = used-by old new (λ i. here-or-beside (WasIdle old new) id i
      (λ n e idle. absurd (kept n (sym (chain-here old new id c is) ∙ e) idle))
      (λ ne. idle-beside i (chain-beside old new id c is i ne) (listed i ne)))

-- ---- snapshots

pinned-there : (version : ℕ) (pins : List (Option ℕ)) → IsPinned (pins_with version pins) version
pinned-there version [] = inl refl
pinned-there version (None ∷ ps) = inl refl
pinned-there version (Some p ∷ ps) = inr (pinned-there version ps)

pub used-taken : (id pin phase : ℕ) (old new : Memory) → IsSnapshotTaken old new id pin phase → AreInUse old → AreInUse new
used-taken id pin phase old new t = used-kept old new id (λ k. with_snapshot (snapshot_number k.chain) k) (ap (λ (m : Memory). m.chains) t.now)
    (λ k e idle. idle.unpinned (snapshot_number k.chain) (pinned-there (snapshot_number k.chain) k.chain.pins))
    (λ i ne. list-same i old.recency new.recency (ap (λ (m : Memory). m.recency) t.now))

-- ---- a snapshot is taken back, and then its chain is dropped where it is to be

module _ (id pin : ℕ) (old new : Memory) where
  abbrev back : Memory
  back = with_chains (on_chain id (without_snapshot pin) old.chains) old

  -- what was taken back of the chain of this number leaves those of others
  back-beside : (i : ℕ) → i ≢ id → WasIdle old back i
  back-beside i ne = idle-beside old back i (changed-beside old back id (without_snapshot pin) refl i ne) (λ j at on. on)

  dropped-beside : IsChainDropped id back.recency back new → (i : ℕ) → i ≢ id → WasIdle back new i
  dropped-beside d i ne = idle-beside back new i (chain-beside back new id None d.chains i ne) (list-same i back.recency new.recency d.recency)

  module _ (k : KeptChain) (there : chain_at back id ≡ Some k) (dropped : IsIdle back id k.chain → IsChainDropped id back.recency back new) (kept : (IsIdle back id k.chain → ⊥) → new ≡ back) (used : AreInUse old) where
    -- a chain of another number was not to be dropped before
    other-used : (i : ℕ) (n : KeptChain) → i ≢ id → chain_at back i ≡ Some n → IsIdle back i n.chain → ⊥
    other-used i n ne e idle = let was = back-beside i ne n e idle in used i was.0 was.1 was.2

    -- once the chain is gone none is to be dropped
    gone-used : IsIdle back id k.chain → AreInUse new
    gone-used idle i = here-or-beside (λ j. (n : KeptChain) → chain_at new j ≡ Some n → IsIdle new j n.chain → ⊥) id i
        (λ n e over. none-is-none n (sym (chain-here back new id None (dropped idle).chains) ∙ e))
        (λ ne n e over. (let was = dropped-beside (dropped idle) i ne n e over in other-used i was.0 ne was.1 was.2))

    -- nor is one where the chain stays
    kept-used : (IsIdle back id k.chain → ⊥) → AreInUse back
    kept-used busy i = here-or-beside (λ j. (n : KeptChain) → chain_at back j ≡ Some n → IsIdle back j n.chain → ⊥) id i
        (λ n e over. busy (subst (λ (q : KeptChain). IsIdle back id q.chain) (same_some n k (sym e ∙ there)) over))
        (λ ne n e over. other-used i n ne e over)

    pub used-swept : AreInUse new
    used-swept i n e over =
        let busy : IsIdle back id k.chain → ⊥ = λ idle. gone-used idle i n e over in
        subst AreInUse (sym (kept busy)) (kept-used busy) i n e over

pub used-dropped : (id : ℕ) (old new : Memory) → IsChainDropped id old.recency old new → AreInUse old → AreInUse new
used-dropped id old new d = used-put old new id None d.chains (λ k e. absurd (none-is-none k e)) (λ i ne. list-same i old.recency new.recency d.recency)

-- ---- evictions

-- what evictions leave of the use of a chain
pub record EvictionLaws : Type 0 where
  pub kind : (id : ℕ) (went : List Member) (k : KeptChain) → (evicted_of id went k).chain.kind ≡ k.chain.kind
  pub updating : (id : ℕ) (went : List Member) (k : KeptChain) → (evicted_of id went k).chain.updating ≡ k.chain.updating
  pub pins : (id : ℕ) (went : List Member) (k : KeptChain) → (evicted_of id went k).chain.pins ≡ k.chain.pins

-- one of these objects is of a chain, or none is
own-or-none : (ws : List Member) (id : ℕ) → ((w : Member) × Contains ws w × (w.chain ≡ id)) ⊎ ((w : Member) → Contains ws w → w.chain ≢ id)
own-or-none [] id = inr (λ w on. absurd (elem-none w on))
own-or-none (x ∷ ws) id = elim (decided x.chain id) [
  | inl e ↦ inl (x, elem-first x ws, e)
  | inr ne ↦ elim (own-or-none ws id) [
    | inl k ↦ inl (k.0, elem-later x k.0 ws k.1, k.2)
    | inr none ↦ inr (λ w on. elim (elem-cases x w ws on) [ inl same ↦ (λ e. ne (ap (λ (y : Member). y.chain) same ∙ e)) | inr later ↦ none w later ])
  ]
]

module _ (laws : EvictionLaws) (went : List Member) (gone : List ℕ) (old new : Memory) (a : AreEvicted went gone old new) where
  use-left : (id : ℕ) (k : KeptChain) → IsUsedSame k (evicted_of id went k)
  use-left id k = record { kind = laws.kind id went k; updating = laws.updating id went k; pins = laws.pins id went k }

  -- of a chain of which nothing went, the list has what it had
  still-listed : (id : ℕ) → ((w : Member) → Contains went w → w.chain ≢ id) → StaysListed id old.recency new.recency
  still-listed id none j at on = elim (Contains-append_cases went new.recency (member_at id j at) (subst (λ l. Contains l (member_at id j at)) a.recency on)) [ inl gone_first ↦ absurd (none (member_at id j at) gone_first refl) | inr left ↦ left ]

  -- a chain of which something went, and which stays, is not to be dropped
  busy : (w : Member) (id : ℕ) (k : KeptChain) → Contains went w → w.chain ≡ id → (Contains gone id → ⊥) → chain_at old id ≡ Some k → IsIdle new id k.chain → ⊥
  busy w id k on same off there idle = a.kept w k on (subst (λ i. Contains gone i → ⊥) (sym same) off) (ap (chain_at old) same ∙ there) (subst (λ i. IsIdle new i k.chain) (sym same) idle)

  evicted-idle : (id : ℕ) → WasIdle old new id
  evicted-idle id n e idle = elim (among-or gone id) [
    | inl on ↦ absurd (none-is-none n (sym (a.absent id on) ∙ e))
    | inr off ↦ (
        let was = mapped (evicted_of id went) (chain_at old id) n (sym (a.chains id off) ∙ e) in
        let same = subst (IsUsedSame was.0) was.2 (use-left id was.0) in
        elim (own-or-none went id) [
          | inl own ↦ absurd (busy own.0 id was.0 own.1 own.2 off was.1 (idle-was new new id was.0 n same (λ j at on. on) idle))
          | inr none ↦ (was.0, was.1, idle-was old new id was.0 n same (still-listed id none) idle)
        ])
  ]

  pub used-evicted : AreInUse old → AreInUse new
  used-evicted = used-by old new evicted-idle

-- ---- an entry is opened, and something is filled

first-place : (id : ℕ) (statics : Option Row) → Contains (opened_places id statics) (member_at id 0 (Some end_position))
first-place id None = elem-first (member_at id 0 (Some end_position)) []
first-place id (Some row) = elem-first (member_at id 0 (Some end_position)) (member_at id 0 None ∷ [])

pub used-opened : (id : ℕ) (pt : Option Tomb) (statics : Option Row) (phase : ℕ) (old new : Memory) → IsEntryOpened id pt statics phase old new → AreInUse old → AreInUse new
used-opened id pt statics phase old new o = used-put old new id (Some (chain_opened pt statics phase)) o.chains
    (λ k e idle. idle.unlisted 0 (Some end_position) (subst (λ l. Contains l (member_at id 0 (Some end_position))) (sym o.recency) (Contains-append_right old.recency (opened_places id statics) (member_at id 0 (Some end_position)) (first-place id statics))))
    (λ i ne j at on. subst (λ l. Contains l (member_at i j at)) (sym o.recency) (elem-left old.recency (opened_places id statics) (member_at i j at) on))

pub used-filled : (portion : Portion) (id pin : ℕ) (old new : Memory) → IsPortionFilled portion id pin old new → AreInUse old → AreInUse new
used-filled portion id pin old new f = used-kept old new id (on_shown (on_newest_of (filled_with portion))) f.filled.chains
    (λ k e idle. (let same = same_some k f.snapshot.chain (sym e ∙ f.snapshot.there) in
    idle.unpinned f.snapshot.number (pin-is-pinned k.chain.pins pin f.snapshot.number (ap (λ (q : KeptChain). pin_at q.chain.pins pin) same ∙ f.snapshot.pinned))))
    (λ i ne j at on. f.stay (member_at i j at) on)

-- ---- partitions leave the cache

detached-use : (k : KeptChain) → k.chain.updating ≡ false → IsUsedSame k (on_shown shown_detached k)
detached-use k settled = record { kind = refl; updating = sym settled; pins = refl }

pub used-detached : (id : ℕ) (old new : Memory) → ((k : KeptChain) → chain_at old id ≡ Some k → k.chain.updating ≡ false) → IsDetached id old new → AreInUse old → AreInUse new
used-detached id old new settled d = there-or-not (chain_at old id)
    (λ none. used-same old new (ap (λ (m : Memory). m.chains) (d.gone none)) (ap (λ (m : Memory). m.recency) (d.gone none)))
    (λ k there. (let left = d.there k there in
    used-changed old new id (on_shown shown_detached) left.2.chains (λ q e. detached-use q (settled q e)) (λ i. list-same i old.recency new.recency (left.2.recency ∙ left.1.settled (settled k there)))))

-- what is left where partitions are invalidated
pub record LeftLaws : Type 0 where
  pub gone : (ids : List ℕ) (phase id : ℕ) (k : KeptChain) (old new : Memory) → IsInvalidated ids phase old new → IsNumberIn ids id → chain_at old id ≡ Some k → chain_at new id ≡ Some (on_shown shown_detached k)
  pub others : (ids : List ℕ) (phase id : ℕ) (k : KeptChain) (old new : Memory) → IsInvalidated ids phase old new → (IsNumberIn ids id → ⊥) → chain_at old id ≡ Some k → chain_at new id ≡ Some (relabelled_chain phase k)
  pub none : (ids : List ℕ) (phase id : ℕ) (old new : Memory) → IsInvalidated ids phase old new → chain_at old id ≡ None → chain_at new id ≡ None
  pub recency : (ids : List ℕ) (phase : ℕ) (old new : Memory) → IsInvalidated ids phase old new → ((id : ℕ) (k : KeptChain) → IsNumberIn ids id → chain_at old id ≡ Some k → k.chain.updating ≡ false) → new.recency ≡ old.recency

number-or : (ids : List ℕ) (id : ℕ) → IsNumberIn ids id ⊎ (IsNumberIn ids id → ⊥)
number-or [] id = inr (λ on. on)
number-or (n ∷ ids) id = elim (decided n id) [
  | inl here ↦ inl (inl here)
  | inr ne ↦ elim (number-or ids id) [ inl later ↦ inl (inr later) | inr out ↦ inr (λ on. elim on [ inl e ↦ ne e | inr later ↦ out later ]) ]
]

module _ (laws : LeftLaws) (ids : List ℕ) (phase : ℕ) (old new : Memory) (settled : (id : ℕ) (k : KeptChain) → IsNumberIn ids id → chain_at old id ≡ Some k → k.chain.updating ≡ false) (h : IsInvalidated ids phase old new) where
  relabelled-use : (k : KeptChain) → IsUsedSame k (relabelled_chain phase k)
  relabelled-use k = elim k.chain.attached as (λ b. IsUsedSame k (cond b (on_shown (λ c. shown_with (on_newest (with_phase phase) c.versions) c) k) k)) [ true ↦ record { kind = refl; updating = refl; pins = refl } | false ↦ used-itself k ]

  left-use : (id : ℕ) (k n : KeptChain) → chain_at old id ≡ Some k → chain_at new id ≡ Some n → IsUsedSame k n
  left-use id k n there e = elim (number-or ids id) [
    | inl on ↦ subst (IsUsedSame k) (same_some (on_shown shown_detached k) n (sym (laws.gone ids phase id k old new h on there) ∙ e)) (detached-use k (settled id k on there))
    | inr off ↦ subst (IsUsedSame k) (same_some (relabelled_chain phase k) n (sym (laws.others ids phase id k old new h off there) ∙ e)) (relabelled-use k)
  ]

  pub used-invalidated : AreInUse old → AreInUse new
  used-invalidated = used-by old new (λ id n e idle. there-or-not (chain_at old id)
      (λ none. absurd (none-is-none n (sym (laws.none ids phase id old new h none) ∙ e)))
      (λ k there. (k, there, idle-was old new id k n (left-use id k n there e) (list-same id old.recency new.recency (laws.recency ids phase old new h settled)) idle)))

-- ---- the chains of the cache are as they were

pub used-beside : (old new : Memory) → AreCachesSame old new → new.recency ≡ old.recency → AreInUse old → AreInUse new
used-beside old new same list = used-by old new (λ id n e idle. (n, same.none id n idle.cached e, idle-was old new id n n (used-itself n) (list-same id old.recency new.recency list) idle))

-- where each chain is read by a snapshot that is taken back, what was pinned is
pub used-before : (old new : Memory) → AreAsBefore old new → AreInUse old → AreInUse new
used-before old new b = used-by old new (λ id n e idle. there-or-not (chain_at old id)
    (λ none. absurd (none-is-none n (sym (b.absent id none) ∙ e)))
    (λ k there. (let was = b.there id k there in (k, there, idle-before id k n (subst (IsAsBefore k) (same_some was.0 n (sym was.1 ∙ e)) was.2) idle))))
  where
    idle-before : (id : ℕ) (k n : KeptChain) → IsAsBefore k n → IsIdle new id n.chain → IsIdle old id k.chain
    idle-before id k n a i = record {
      cached = sym a.kind ∙ i.cached;
      settled = sym a.updating ∙ i.settled;
      unpinned = λ j on. (let pin = pinned-by-number k.chain.pins j on in i.unpinned j (pin-is-pinned n.chain.pins pin.0 j (a.pins pin.0 ∙ pin.1)));
      unlisted = λ j at on. i.unlisted j at (list-same id old.recency new.recency b.recency j at on);
    }

-- ---- what being in use is

pin-or-free : (ps : List (Option ℕ)) → ((j : ℕ) × IsPinned ps j) ⊎ AreFree ps
pin-or-free [] = inr (λ j on. on)
pin-or-free (Some j ∷ ps) = inl (j, inl refl)
pin-or-free (None ∷ ps) = elim (pin-or-free ps) [
  | inl later ↦ inl (later.0, inr later.1)
  | inr free ↦ inr (λ j on. elim on [ inl e ↦ cc e | inr later ↦ free j later ])
]

pub in-use-is : (m : Memory) (id : ℕ) (k : KeptChain) → AreInUse m → chain_at m id ≡ Some k → k.chain.kind ≡ Cache → k.chain.updating ≡ false → ((j : ℕ) × IsPinned k.chain.pins j) ⊎ ((j : ℕ) × (at : Option Pos) × Contains m.recency (member_at id j at))
in-use-is m id k used there cached settled = elim (pin-or-free k.chain.pins) [
  | inl pin ↦ inl pin
  | inr free ↦ elim (own-or-none m.recency id) [
    | inl own ↦ inr (own.0.version, own.0.position, subst (Contains m.recency) (λ i. record { chain = own.2 i; version = own.0.version; position = own.0.position }) own.1)
    | inr none ↦ absurd (used id k there (record { cached = cached; settled = settled; unpinned = free; unlisted = λ j at on. none (member_at id j at) on refl }))
  ]
]

pub in-use-by : (m : Memory) → ((id : ℕ) (k : KeptChain) → chain_at m id ≡ Some k → k.chain.kind ≡ Cache → k.chain.updating ≡ false → ((j : ℕ) × IsPinned k.chain.pins j) ⊎ ((j : ℕ) × (at : Option Pos) × Contains m.recency (member_at id j at))) → AreInUse m
in-use-by m h id k there idle = elim (h id k there idle.cached idle.settled) [ inl pin ↦ idle.unpinned pin.0 pin.1 | inr own ↦ idle.unlisted own.0 own.1 own.2 ]
