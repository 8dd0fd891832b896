-- A snapshot of a chain of the cache is taken back, and then the chain is dropped where it is to be.
use Rattle.std.proofs.Common.{inl, inr, ◌≡◌, ◌≢◌, ◌⊎◌, ◌≤◌, ◌+◌, ℕ, Bool, true, false, List, [], ◌∷◌, Option, Some, None, IsSome, length, refl, sym, ap, ◌∙◌, subst, arith}
use Rattle.std.specs.Prelude.{Contains, IsSomeAnd, IsTrue, take}
use Rattle.lsa_pool.specs.laws.Usages.{decided}
use Rattle.rc_core.specs.Chain.{has_flag}
use Rattle.rc_core.specs.Continuity.{static_states}
use Rattle.rc_core.specs.declared.entries.ChainKind.{ChainKind}
use Rattle.rc_core.specs.declared.entries.ChainKind.TheVariants.{Cache, Memtable}
use Rattle.rc_position.specs.Position.{Head}
use Rattle.rc_core.specs.Chains.{IsPinned, at_place}
use Rattle.rc_core.specs.Steps.{MayPopulate, pin_at}
use Rattle.rc_core.specs.Version.{Version, end_position}
use Rattle.rc_core.specs.laws.Pins.{pin-freed, pin-is-pinned, pin-kept}
use Rattle.rc_registry.specs.Registry.{AreFree}
use Rattle.rc_memory.specs.Changes.{member_at}
use Rattle.rc_memory.specs.Lists.{elem-cases, elem-first, elem-later, elem-none}
use Rattle.rc_memory.specs.Memory.{HasPin, KeptChain, Member, Memory, chain_at, without_snapshot}
use Rattle.rc_memory.specs.laws.Places.{same_some}
use Rattle.rc_chain.specs.declared.chains.Snap.{Snap}
use Rattle.rc_cached.specs.LetGo.{NoCountFell}
use Rattle.rc_cached.specs.NoMore.{counts-then}
use Rattle.rc_cached.specs.Lives.{IsChainDropped, IsIdle}
use Rattle.rc_cached.specs.Filling.{MayFill}
use Rattle.rc_cursor.specs.Snapshots.{kind_in, kind_seen, versions_in, versions_seen, versions_upto}
use Rattle.rc_row_cache.specs.Fillers.{losses}
use Rattle.rc_cached.specs.Stands.{HasCacheSnapshot}
use Rattle.rc_snapshots.specs.Seeing.{AllStillSee, HasSnap, StillSees}
use Rattle.rc_snapshots.specs.laws.Seeing.{snap-then}
use Rattle.rc_row_cache.specs.Footprint.{AreInUse, HaveOneVersion, cache_snapshots, memtable_bytes}
use Rattle.rc_lookup.specs.Known.{IsChainKnown, IsPartitionKnown}
use Rattle.rc_lookup.specs.Rest.{LeavesBut, LeavesRest}
use Rattle.rc_lookup.specs.Held.{IsHeldWhole}
use Rattle.rc_lookup.specs.calls.Reading.{without_snap}
use Rattle.rc_lookup.proofs.Kept.{has-pin, here-or-beside}
use Rattle.rc_lookup.proofs.Numbered.{chain-beside, chain-here, changed-beside, changed-now}
use Rattle.rc_lookup.proofs.Rest.{KeepsPins, Pins, some-of}

-- ---- whether a chain is to be dropped

pin-or-free : (ps : List (Option ℕ)) → ((j : ℕ) × IsPinned ps j) ⊎ AreFree ps
pin-or-free [] = inr (λ j on. on)
pin-or-free (Some j ∷ ps) = inl (j, inl refl)
pin-or-free (None ∷ ps) = elim (pin-or-free ps) [
  | inl later ↦ inl (later.0, inr later.1)
  | inr free ↦ inr (λ j on. elim on [ inl e ↦ cc e | inr later ↦ free j later ])
]

-- one of these objects is of a chain, or none is
own-or-none : (ws : List Member) (id : ℕ) → ((w : Member) × Contains ws w × (w.chain ≡ id)) ⊎ ((w : Member) → Contains ws w → w.chain ≢ id)
own-or-none [] id = inr (λ w on. absurd (elem-none w on))
own-or-none (x ∷ ws) id = elim (decided x.chain id) [
  | inl e ↦ inl (x, elem-first x ws, e)
  | inr ne ↦ elim (own-or-none ws id) [
    | inl k ↦ inl (k.0, elem-later x k.0 ws k.1, k.2)
    | inr none ↦ inr (λ w on. elim (elem-cases x w ws on) [ inl same ↦ (λ e. ne (ap (λ (y : Member). y.chain) same ∙ e)) | inr later ↦ none w later ])
  ]
]

busy-by : (m : Memory) (id : ℕ) (k : KeptChain) (b : Bool) → k.chain.updating ≡ b → k.chain.kind ≡ Cache → IsIdle m id k.chain ⊎ (IsIdle m id k.chain → ⊥)
busy-by m id k true updating cached = inr (λ idle. (let clash : true ≡ false = sym updating ∙ idle.settled in cc clash))
busy-by m id k false settled cached = elim (pin-or-free k.chain.pins) [
  | inl pin ↦ inr (λ idle. idle.unpinned pin.0 pin.1)
  | inr free ↦ elim (own-or-none m.recency id) [
    | inl own ↦ inr (λ idle. idle.unlisted own.0.version own.0.position (subst (Contains m.recency) (λ i. record { chain = own.2 i; version = own.0.version; position = own.0.position }) own.1))
    | inr none ↦ inl (record { cached = cached; settled = settled; unpinned = free; unlisted = λ j at on. none (member_at id j at) on refl })
  ]
]

idle-or-not : (m : Memory) (id : ℕ) (k : KeptChain) → k.chain.kind ≡ Cache → IsIdle m id k.chain ⊎ (IsIdle m id k.chain → ⊥)
idle-or-not m id k cached = busy-by m id k k.chain.updating refl cached

none-some : (o : Option ℕ) → o ≡ None → IsSome o → ⊥
none-some None e on = cc
none-some (Some j) e on = cc

-- ---- what is left

-- what is left where a snapshot is taken back, and where a chain is gone
pub record SweepLaws : Type 0 where
  pub bytes_back : (s : Snap) (m : Memory) → memtable_bytes (without_snap s m) ≡ memtable_bytes m
  pub bytes_gone : (id : ℕ) (list : List Member) (old new : Memory) → IsChainDropped id list old new → memtable_bytes new ≤ memtable_bytes old
  pub one_back : (s : Snap) (m : Memory) → HaveOneVersion m → HaveOneVersion (without_snap s m)
  pub one_gone : (id : ℕ) (list : List Member) (old new : Memory) → IsChainDropped id list old new → HaveOneVersion old → HaveOneVersion new
  pub swept : (s : Snap) (old new : Memory) (k : KeptChain) → chain_at (without_snap s old) s.chain ≡ Some k → (IsIdle (without_snap s old) s.chain k.chain → IsChainDropped s.chain old.recency (without_snap s old) new) →
      ((IsIdle (without_snap s old) s.chain k.chain → ⊥) → new ≡ without_snap s old) → AreInUse old → AreInUse new
  pub held_back : (s : Snap) (m : Memory) (id pin : ℕ) → (id ≡ s.chain → pin ≡ s.pin → ⊥) → HasCacheSnapshot m id pin → HasCacheSnapshot (without_snap s m) id pin
  pub held_gone : (id : ℕ) (list : List Member) (old new : Memory) → IsChainDropped id list old new → ((k : KeptChain) → chain_at old id ≡ Some k → AreFree k.chain.pins) → KeepsPins old new
  pub one_less : (s : Snap) (m : Memory) → HasCacheSnapshot m s.chain s.pin → cache_snapshots (without_snap s m) + 1 ≤ cache_snapshots m
  pub snapshots_gone : (id : ℕ) (list : List Member) (old new : Memory) → IsChainDropped id list old new → cache_snapshots new ≤ cache_snapshots old

module _ (s : Snap) (x new : Memory) (k : KeptChain) (there : chain_at x s.chain ≡ Some k) (cached : k.chain.kind ≡ Cache) where
  abbrev pub back : Memory
  back = without_snap s x

  abbrev pub left_chain : KeptChain
  left_chain = without_snapshot s.pin k

  pub back-there : chain_at back s.chain ≡ Some left_chain
  back-there = changed-now x back s.chain (without_snapshot s.pin) refl k there

  back-beside : (i : ℕ) → (i ≡ s.chain → ⊥) → chain_at back i ≡ chain_at x i
  back-beside = changed-beside x back s.chain (without_snapshot s.pin) refl

  -- the chain is dropped where it is to be
  abbrev pub IsSweptThen : Type 0
  IsSweptThen = (IsIdle back s.chain left_chain.chain × IsChainDropped s.chain x.recency back new) ⊎ ((IsIdle back s.chain left_chain.chain → ⊥) × (new ≡ back))

  pub swept-then : ((q : KeptChain) → chain_at back s.chain ≡ Some q → IsIdle back s.chain q.chain → IsChainDropped s.chain x.recency back new) → ((q : KeptChain) → chain_at back s.chain ≡ Some q → (IsIdle back s.chain q.chain → ⊥) → new ≡ back) → IsSweptThen
  swept-then dropped kept = elim (idle-or-not back s.chain left_chain cached) [ inl idle ↦ inl (idle, dropped left_chain back-there idle) | inr busy ↦ inr (busy, kept left_chain back-there busy) ]

  module _ (swept : IsSweptThen) where
    pub swept-beside : (i : ℕ) → (i ≡ s.chain → ⊥) → chain_at new i ≡ chain_at x i
    swept-beside i ne = elim swept [ inl gone ↦ chain-beside back new s.chain None gone.1.chains i ne ∙ back-beside i ne | inr kept ↦ ap (λ (m : Memory). chain_at m i) kept.1 ∙ back-beside i ne ]

    -- nothing is counted as lost
    pub swept-lost : losses new ≡ losses x
    swept-lost = elim swept [ inl gone ↦ (λ i. (gone.1.counts i).evicted + (gone.1.counts i).skipped) | inr kept ↦ ap losses kept.1 ]

    beside-sees : (t : Snap) → HasPin x t.chain t.pin → (t.chain ≡ s.chain → ⊥) → StillSees t x new
    beside-sees t on ne = (let same = swept-beside t.chain ne in record { pin = subst (Pins t.pin) (sym same) on; versions = ap (λ o. versions_in o t.pin) same; kind = ap kind_in same })

    -- another snapshot of its chain
    mine-there : (t : Snap) → HasPin x t.chain t.pin → t.chain ≡ s.chain → (t.pin ≡ s.pin → ⊥) → HasPin new t.chain t.pin
    mine-there t on same ne =
        let was : IsSome (pin_at k.chain.pins t.pin) = subst (Pins t.pin) (ap (chain_at x) same ∙ there) on in
        let now : IsSome (pin_at left_chain.chain.pins t.pin) = subst (λ (o : Option ℕ). IsSome o) (sym (pin-kept s.pin t.pin k.chain.pins ne)) was in
        elim swept [
          | inl gone ↦ (let j = some-of (pin_at left_chain.chain.pins t.pin) now in absurd (gone.0.unpinned j.0 (pin-is-pinned left_chain.chain.pins t.pin j.0 j.1)))
          | inr kept ↦ subst (Pins t.pin) (sym (ap (λ (m : Memory). chain_at m t.chain) kept.1 ∙ ap (chain_at back) same ∙ back-there)) now
        ]

    -- of its chain none is there but those that were
    mine-was : (t : Snap) → HasPin new t.chain t.pin → t.chain ≡ s.chain → HasPin x t.chain t.pin × (t.pin ≡ s.pin → ⊥)
    mine-was t on same = elim swept [
      | inl gone ↦ absurd (subst (Pins t.pin) (ap (chain_at new) same ∙ chain-here back new s.chain None gone.1.chains) on)
      | inr kept ↦
          let now : IsSome (pin_at left_chain.chain.pins t.pin) = subst (Pins t.pin) (ap (λ (m : Memory). chain_at m t.chain) kept.1 ∙ ap (chain_at back) same ∙ back-there) on in
          let ne : t.pin ≡ s.pin → ⊥ = λ e. none-some (pin_at left_chain.chain.pins t.pin) (ap (pin_at left_chain.chain.pins) e ∙ pin-freed s.pin k.chain.pins) now in
          (subst (Pins t.pin) (sym (ap (chain_at x) same ∙ there)) (subst (λ (o : Option ℕ). IsSome o) (pin-kept s.pin t.pin k.chain.pins ne) now), ne)
    ]

    module _ (laws : SweepLaws) (m : Memory) (b : LeavesBut s m x) (fresh : HasPin m s.chain s.pin → ⊥) (own : HasCacheSnapshot x s.chain s.pin) where
      its-own : (t : Snap) → HasSnap x t → t.chain ≡ s.chain → ⊥
      its-own t h same = (let clash : Memtable ≡ Cache = sym h.kind ∙ ap kind_in (ap (chain_at x) same ∙ there) ∙ cached in cc clash)

      seen-still : AllStillSee m new
      seen-still = record {
        see = λ t h. (let a = b.seen.see t h in let then_ = snap-then m x t h a in let b_ = beside-sees t then_.pin (its-own t then_) in record { pin = b_.pin; versions = b_.versions ∙ a.versions; kind = b_.kind ∙ a.kind });
        there = λ t on. here-or-beside s.chain t.chain
            (λ same. mine-there t (b.seen.there t on) same (λ pin. fresh (subst (λ id. HasPin m id s.pin) same (subst (λ p. HasPin m t.chain p) pin on))))
            (λ ne. (beside-sees t (b.seen.there t on) ne).pin);
      }

      none-more-then : (t : Snap) → HasPin new t.chain t.pin → HasPin m t.chain t.pin
      none-more-then t on = here-or-beside s.chain t.chain
          (λ same. (let was = mine-was t on same in elim (b.none_more t was.0) [ inl old ↦ old | inr mine ↦ absurd (was.1 mine.1) ]))
          (λ ne. elim (b.none_more t (subst (Pins t.pin) (swept-beside t.chain ne) on)) [ inl old ↦ old | inr mine ↦ absurd (ne mine.0) ])

      held-still : KeepsPins m new
      held-still id pin h =
          let x_held = b.pins id pin h in
          let back_held = laws.held_back s x id pin (λ chain same. fresh (subst (λ i. HasPin m i s.pin) chain (subst (λ p. HasPin m id p) same (has-pin m id pin h)))) x_held in
          elim swept [
            | inl gone ↦ laws.held_gone s.chain x.recency back new gone.1 (λ q e. subst (λ (c : KeptChain). AreFree c.chain.pins) (same_some left_chain q (sym back-there ∙ e)) gone.0.unpinned) id pin back_held
            | inr kept ↦ subst (λ (y : Memory). HasCacheSnapshot y id pin) (sym kept.1) back_held
          ]

      -- all else is left
      pub rest-swept : LeavesRest m new
      rest-swept = record {
        memtables = λ id q e kind. (let t = b.memtables id q e kind in swept-beside id (λ same. (let clash : Memtable ≡ Cache = sym kind ∙ ap (λ (y : KeptChain). y.chain.kind) (same_some q k (sym t ∙ ap (chain_at x) same ∙ there)) ∙ cached in cc clash)) ∙ t);
        seen = seen-still;
        none_more = none-more-then;
        segments = elim swept [ inl gone ↦ gone.1.region.budget | inr kept ↦ ap (λ (y : Memory). length y.region.usages) kept.1 ] ∙ b.segments;
        counts = counts-then m x new b.counts (elim swept [
          | inl gone ↦ (let evicted : new.counts.evicted ≡ x.counts.evicted = ap (λ c. c.evicted) gone.1.counts in let skipped : new.counts.skipped ≡ x.counts.skipped = ap (λ c. c.skipped) gone.1.counts in let moved : new.region.moved ≡ x.region.moved = gone.1.region.moved in
              record { evicted = omega (arith, evicted); moved = omega (arith, moved); skipped = omega (arith, skipped) })
          | inr kept ↦ subst (NoCountFell x) (sym kept.1) (record { evicted = omega arith; moved = omega arith; skipped = omega arith })
        ]);
        bytes = (let back_same = laws.bytes_back s x in let less = b.bytes in elim swept [
          | inl gone ↦ (let gone_less = laws.bytes_gone s.chain x.recency back new gone.1 in omega (arith, back_same, less, gone_less))
          | inr kept ↦ (let same : memtable_bytes new ≡ memtable_bytes back = ap memtable_bytes kept.1 in omega (arith, back_same, less, same))
        ]);
        one = λ h. (let then_ = laws.one_back s x (b.one h) in elim swept [ inl gone ↦ laws.one_gone s.chain x.recency back new gone.1 then_ | inr kept ↦ subst HaveOneVersion (sym kept.1) then_ ]);
        used = λ h u. laws.swept s x new left_chain back-there
            (λ idle. elim swept [ inl gone ↦ gone.1 | inr kept ↦ absurd (kept.0 idle) ])
            (λ busy. elim swept [ inl gone ↦ absurd (busy gone.0) | inr kept ↦ kept.1 ])
            (b.used h u);
        pins = held-still;
        snapshots = (let one = laws.one_less s x own in let more = b.snapshots in elim swept [
          | inl gone ↦ (let less = laws.snapshots_gone s.chain x.recency back new gone.1 in omega (arith, one, more, less))
          | inr kept ↦ (let same : cache_snapshots new ≡ cache_snapshots back = ap cache_snapshots kept.1 in omega (arith, one, more, same))
        ]);
      }

-- ---- all of its partition is known

take-all : (vs : List Version) → take (length vs) vs ≡ vs
take-all [] = refl
take-all (v ∷ vs) = ap (λ us. v ∷ us) (take-all vs)

-- in versions the static row is known
abbrev pub KnowsStatics : ChainKind → List Version → Type 0
KnowsStatics kind versions = IsTrue (has_flag kind (static_states versions))

-- what holds by what a snapshot sees that may be filled holds of its chain, of which it pins the newest version
pub held-known : (P : ChainKind → List Version → Type 0) (s : Snap) (x : Memory) (h : HasCacheSnapshot x s.chain s.pin) → P (kind_seen x s) (versions_seen x s) → MayFill x s.chain s.pin → P h.chain.chain.kind h.chain.chain.versions
held-known P s x h known may =
    let fills : MayPopulate (at_place Head h.chain.chain) h.number =
    subst (λ (o : Option ℕ). IsSomeAnd o (MayPopulate (at_place Head h.chain.chain))) h.pinned (subst (λ (o : Option KeptChain). IsSomeAnd o (λ q. IsSomeAnd (pin_at q.chain.pins s.pin) (MayPopulate (at_place Head q.chain)))) h.there may) in
    let versions : versions_seen x s ≡ h.chain.chain.versions =
    ap (λ o. versions_in o s.pin) h.there ∙ ap (versions_upto h.chain.chain.versions) h.pinned ∙ ap (λ n. take n h.chain.chain.versions) fills.newest ∙ take-all h.chain.chain.versions in
    let kind : kind_seen x s ≡ h.chain.chain.kind = ap kind_in h.there in
    subst (λ q. P q h.chain.chain.versions) kind (subst (P (kind_seen x s)) versions known)

pub chain-held : (P : ChainKind → List Version → Type 0) (s : Snap) (x : Memory) → HasCacheSnapshot x s.chain s.pin → P (kind_seen x s) (versions_seen x s) → MayFill x s.chain s.pin → IsSomeAnd (chain_at x s.chain) (λ k. P k.chain.kind k.chain.versions)
chain-held P s x h known may = subst (λ (o : Option KeptChain). IsSomeAnd o (λ q. P q.chain.kind q.chain.versions)) (sym h.there) (held-known P s x h known may)

-- where all of it is known to a snapshot that may be filled, and something of the chain is listed, the chain stays, to whose newest version it is known
pub known-swept : (s : Snap) (x new : Memory) (h : HasCacheSnapshot x s.chain s.pin) → IsSweptThen s x new h.chain h.there h.cached → IsHeldWhole x s → IsChainKnown new s.chain
known-swept s x new h swept w = elim swept [
  | inl gone ↦ absurd (gone.0.unlisted 0 (Some end_position) w.listed)
  | inr kept ↦
      let there : chain_at new s.chain ≡ Some (without_snapshot s.pin h.chain) = ap (λ (m : Memory). chain_at m s.chain) kept.1 ∙ back-there s x new h.chain h.there h.cached in
      subst (λ (o : Option KeptChain). IsSomeAnd o (λ q. IsPartitionKnown q.chain.kind q.chain.versions)) (sym there) (held-known IsPartitionKnown s x h w.known w.may)
]
