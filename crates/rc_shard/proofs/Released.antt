-- A snapshot of a chain of the cache is taken back, and then the chain is dropped where it is to be.
use Rattle.std.proofs.Common.{inl, inr, ◌≡◌, ◌≢◌, ◌⊎◌, ◌≤◌, ◌+◌, ℕ, Bool, true, false, List, [], ◌∷◌, Option, Some, None, IsSome, refl, sym, ap, ◌∙◌, subst, le_refl, length, arith}
use Rattle.std.specs.Prelude.{Contains, IsSomeAnd}
use Rattle.lsa_pool.specs.laws.Usages.{decided}
use Rattle.rc_schema.specs.SchemaValue.{SchemaValue}
use Rattle.rc_core.specs.laws.Pins.{pin-freed, pin-is-pinned, pin-kept}
use Rattle.rc_registry.specs.ChainKind.TheVariants.{Cache, Memtable}
use Rattle.rc_registry.specs.Chains.{IsPinned}
use Rattle.rc_registry.specs.Registry.{AreFree}
use Rattle.rc_registry.specs.Steps.{pin_at}
use Rattle.rc_registry.specs.Version.{IsVersion}
use Rattle.rc_memory.specs.Changes.{OfVersion, member_at}
use Rattle.rc_memory.specs.Kept.{IsLiveInChains}
use Rattle.rc_memory.specs.Recency.{IsRecency}
use Rattle.rc_memory.specs.Lists.{elem-cases, elem-first, elem-later, elem-none}
use Rattle.rc_memory.specs.Memory.{HasPin, KeptChain, Member, Memory, chain_at, on_chain, with_chains, without_snapshot}
use Rattle.rc_memory.specs.laws.Places.{same_some}
use Rattle.rc_chain.specs.Lives.{IsChainDropped, IsIdle}
use Rattle.rc_chain.specs.declared.chains.Snap.{Snap}
use Rattle.rc_cached.specs.Stands.{HasCacheSnapshot}
use Rattle.rc_snapshots.specs.Seeing.{HasSnap, StillSees}
use Rattle.rc_snapshots.specs.Snapshots.{kind_in, versions_in}
use Rattle.rc_lookup.specs.NoMore.{counts-same}
use Rattle.rc_lookup.specs.Crowding.{LosesWhereCrowded}
use Rattle.rc_lookup.specs.Crowds.{loses-after, loses-nothing}
use Rattle.rc_lookup.specs.Losing.{loses-on}
use Rattle.rc_lookup.specs.Entries.{AreEntries, LeavesCached}
use Rattle.rc_lookup.specs.Footprint.{AreInUse, HaveOneVersion, cache_snapshots, memtable_bytes, snapshots_of}
use Rattle.rc_lookup.specs.Readers.{taken_back}
use Rattle.rc_lookup.specs.Saying.{Below, CacheSays}
use Rattle.rc_lookup.specs.Staying.{HasSameContent}
use Rattle.rc_shard.specs.Releasing.{IsCachedReleased, IsChainListed}
use Rattle.rc_shard.proofs.Chained.{chain-beside, chain-here, changed-beside, changed-now, none-is-none}
use Rattle.rc_shard.proofs.Pinning.{HaveNoMore, pins-less, snapshots-less}

-- ---- whether a chain is to be dropped

pin-or-free : (ps : List (Option ℕ)) → ((j : ℕ) × IsPinned ps j) ⊎ AreFree ps
pin-or-free [] = inr (λ j on. on)
pin-or-free (Some j ∷ ps) = inl (j, inl refl)
pin-or-free (None ∷ ps) = elim (pin-or-free ps) [
  | inl later ↦ inl (later.0, inr later.1)
  | inr free ↦ inr (λ j on. elim on [ inl e ↦ cc e | inr later ↦ free j later ])
]

-- one of these objects is of a chain, or none is
own-or-none : (ws : List Member) (id : ℕ) → ((w : Member) × Contains ws w × (w.chain ≡ id)) ⊎ ((w : Member) → Contains ws w → w.chain ≢ id)
own-or-none [] id = inr (λ w on. absurd (elem-none w on))
own-or-none (x ∷ ws) id = elim (decided x.chain id) [
  | inl e ↦ inl (x, elem-first x ws, e)
  | inr ne ↦ elim (own-or-none ws id) [
    | inl k ↦ inl (k.0, elem-later x k.0 ws k.1, k.2)
    | inr none ↦ inr (λ w on. elim (elem-cases x w ws on) [ inl same ↦ (λ e. ne (ap (λ (y : Member). y.chain) same ∙ e)) | inr later ↦ none w later ])
  ]
]

busy-by : (m : Memory) (id : ℕ) (k : KeptChain) (b : Bool) → k.chain.updating ≡ b → k.chain.kind ≡ Cache → IsIdle m id k.chain ⊎ (IsIdle m id k.chain → ⊥)
busy-by m id k true updating cached = inr (λ idle. (let clash : true ≡ false = sym updating ∙ idle.settled in cc clash))
busy-by m id k false settled cached = elim (pin-or-free k.chain.pins) [
  | inl pin ↦ inr (λ idle. idle.unpinned pin.0 pin.1)
  | inr free ↦ elim (own-or-none m.recency id) [
    | inl own ↦ inr (λ idle. idle.unlisted own.0.version own.0.position (subst (Contains m.recency) (λ i. record { chain = own.2 i; version = own.0.version; position = own.0.position }) own.1))
    | inr none ↦ inl (record { cached = cached; settled = settled; unpinned = free; unlisted = λ j at on. none (member_at id j at) on refl })
  ]
]

idle-or-not : (m : Memory) (id : ℕ) (k : KeptChain) → k.chain.kind ≡ Cache → IsIdle m id k.chain ⊎ (IsIdle m id k.chain → ⊥)
idle-or-not m id k cached = busy-by m id k k.chain.updating refl cached

none-some : (o : Option ℕ) → o ≡ None → IsSome o → ⊥
none-some None e on = cc
none-some (Some j) e on = cc

-- a chain has a snapshot of this number
abbrev Pins : ℕ → Option KeptChain → Type 0
Pins pin o = IsSomeAnd o (λ k. IsSome (pin_at k.chain.pins pin))

pub has-pin : (m : Memory) (id pin : ℕ) → HasCacheSnapshot m id pin → HasPin m id pin
has-pin m id pin h = subst (Pins pin) (sym h.there) (subst (λ (o : Option ℕ). IsSome o) (sym h.pinned) refl)

not-both : (k : KeptChain) → k.chain.kind ≡ Memtable → k.chain.kind ≡ Cache → ⊥
not-both k m c = (let clash : Memtable ≡ Cache = sym m ∙ c in cc clash)

-- what is left where a snapshot is taken back, and where a chain is gone
pub record ReleaseLaws : Type 0 where
  pub says_back : (schema : SchemaValue) (below : Below) (id pin : ℕ) (m : Memory) → CacheSays schema below m → CacheSays schema below (with_chains (on_chain id (without_snapshot pin) m.chains) m)
  pub says_gone : (schema : SchemaValue) (below : Below) (id : ℕ) (list : List Member) (old new : Memory) → IsChainDropped id list old new → CacheSays schema below old → CacheSays schema below new
  pub left_back : (id pin : ℕ) (m : Memory) → LeavesCached m (with_chains (on_chain id (without_snapshot pin) m.chains) m)
  pub left_gone : (id : ℕ) (list : List Member) (old new : Memory) → IsChainDropped id list old new → LeavesCached old new
  pub entries : (entries : List (List ℕ × ℕ)) (old new : Memory) → LeavesCached old new → AreEntries entries old → AreEntries entries new
  pub bytes_back : (s : Snap) (m : Memory) → memtable_bytes (taken_back s m) ≡ memtable_bytes m
  pub bytes_gone : (id : ℕ) (list : List Member) (old new : Memory) → IsChainDropped id list old new → memtable_bytes new ≤ memtable_bytes old
  pub one_back : (s : Snap) (m : Memory) → HaveOneVersion m → HaveOneVersion (taken_back s m)
  pub one_gone : (id : ℕ) (list : List Member) (old new : Memory) → IsChainDropped id list old new → HaveOneVersion old → HaveOneVersion new
  pub swept : (s : Snap) (old new : Memory) (k : KeptChain) → chain_at (taken_back s old) s.chain ≡ Some k → (IsIdle (taken_back s old) s.chain k.chain → IsChainDropped s.chain old.recency (taken_back s old) new) →
      ((IsIdle (taken_back s old) s.chain k.chain → ⊥) → new ≡ taken_back s old) → AreInUse old → AreInUse new

module _ (s : Snap) (old new : Memory) (h : HasCacheSnapshot old s.chain s.pin) where
  abbrev back : Memory
  back = taken_back s old

  abbrev left_chain : KeptChain
  left_chain = without_snapshot s.pin h.chain

  pub back-there : chain_at back s.chain ≡ Some left_chain
  back-there = changed-now old back s.chain (without_snapshot s.pin) refl h.chain h.there

  back-beside : (i : ℕ) → (i ≡ s.chain → ⊥) → chain_at back i ≡ chain_at old i
  back-beside = changed-beside old back s.chain (without_snapshot s.pin) refl

  -- the chain is dropped where it is to be
  abbrev pub IsSweptThen : Type 0
  IsSweptThen = (IsIdle back s.chain left_chain.chain × IsChainDropped s.chain old.recency back new) ⊎ ((IsIdle back s.chain left_chain.chain → ⊥) × (new ≡ back))

  pub swept-then : ((q : KeptChain) → chain_at back s.chain ≡ Some q → IsIdle back s.chain q.chain → IsChainDropped s.chain old.recency back new) → ((q : KeptChain) → chain_at back s.chain ≡ Some q → (IsIdle back s.chain q.chain → ⊥) → new ≡ back) → IsSweptThen
  swept-then dropped kept = elim (idle-or-not back s.chain left_chain h.cached) [ inl idle ↦ inl (idle, dropped left_chain back-there idle) | inr busy ↦ inr (busy, kept left_chain back-there busy) ]

  -- what is lost is lost in a crowded region
  pub swept-loses : (dropped : (S : ℕ) (old new : Memory) (id : ℕ) (list : List Member) (k : KeptChain) → chain_at old id ≡ Some k → IsRecency old → ((i j : ℕ) → OfVersion old i j (λ k v. IsVersion v)) → IsLiveInChains old → IsLiveInChains new → IsIdle old id k.chain → IsChainDropped id list old new → LosesWhereCrowded S 0 old new) →
      (mid : Memory) → mid ≡ back → IsSweptThen → IsRecency mid → ((i j : ℕ) → OfVersion mid i j (λ k v. IsVersion v)) → IsLiveInChains mid → IsLiveInChains new → LosesWhereCrowded 131072 0 old new
  swept-loses dropped mid is swept rule versions before now = loses-after 131072 0 old back new (loses-on 131072 s.chain (without_snapshot s.pin) old back (λ k. refl) refl) (elim swept [
    | inl gone ↦ dropped 131072 back new s.chain old.recency left_chain back-there (subst IsRecency is rule) (subst (λ (m : Memory). (i j : ℕ) → OfVersion m i j (λ k v. IsVersion v)) is versions) (subst IsLiveInChains is before) now gone.0 gone.1
    | inr kept ↦ subst (LosesWhereCrowded 131072 0 back) (sym kept.1) (loses-nothing 131072 back)
  ])

  module _ (swept : IsSweptThen) where
    swept-beside : (i : ℕ) → (i ≡ s.chain → ⊥) → chain_at new i ≡ chain_at old i
    swept-beside i ne = elim swept [ inl gone ↦ chain-beside back new s.chain None gone.1.chains i ne ∙ back-beside i ne | inr kept ↦ ap (λ (m : Memory). chain_at m i) kept.1 ∙ back-beside i ne ]

    -- what holds where the chain is gone, and where it is there without the snapshot
    here-by : (P : Type 0) → (IsIdle back s.chain left_chain.chain → chain_at new s.chain ≡ None → P) → (chain_at new s.chain ≡ Some left_chain → P) → P
    here-by P none some = elim swept [ inl gone ↦ none gone.0 (chain-here back new s.chain None gone.1.chains) | inr kept ↦ some (ap (λ (m : Memory). chain_at m s.chain) kept.1 ∙ back-there) ]

    -- another number pins what it pinned
    pin-still : (pin : ℕ) → (pin ≡ s.pin → ⊥) → pin_at left_chain.chain.pins pin ≡ pin_at h.chain.chain.pins pin
    pin-still pin ne = pin-kept s.pin pin h.chain.chain.pins ne

    pins-here : (pin : ℕ) → (pin ≡ s.pin → ⊥) → HasCacheSnapshot old s.chain pin → HasCacheSnapshot new s.chain pin
    pins-here pin ne p =
        let was : pin_at h.chain.chain.pins pin ≡ Some p.number = ap (λ (k : KeptChain). pin_at k.chain.pins pin) (same_some h.chain p.chain (sym h.there ∙ p.there)) ∙ p.pinned in
        here-by (HasCacheSnapshot new s.chain pin)
        (λ idle none. absurd (idle.unpinned p.number (pin-is-pinned left_chain.chain.pins pin p.number (pin-still pin ne ∙ was))))
        (λ some. record { chain = left_chain; number = p.number; there = some; pinned = pin-still pin ne ∙ was; cached = h.cached })

    pins-still : (id pin : ℕ) → (id ≡ s.chain → pin ≡ s.pin → ⊥) → HasCacheSnapshot old id pin → HasCacheSnapshot new id pin
    pins-still id pin apart p = elim (decided id s.chain) [
      | inl same ↦ subst (λ i. HasCacheSnapshot new i pin) (sym same) (pins-here pin (apart same) (subst (λ i. HasCacheSnapshot old i pin) same p))
      | inr ne ↦ record { chain = p.chain; number = p.number; there = swept-beside id ne ∙ p.there; pinned = p.pinned; cached = p.cached }
    ]

    -- of its chain none is there but those that were
    mine-was : (pin : ℕ) → HasPin new s.chain pin → HasPin old s.chain pin
    mine-was pin on = here-by (HasPin old s.chain pin)
        (λ idle none. absurd (subst (Pins pin) none on))
        (λ some.
        let now : IsSome (pin_at left_chain.chain.pins pin) = subst (Pins pin) some on in
        let ne : pin ≡ s.pin → ⊥ = λ e. none-some (pin_at left_chain.chain.pins pin) (ap (pin_at left_chain.chain.pins) e ∙ pin-freed s.pin h.chain.chain.pins) now in
        subst (Pins pin) (sym h.there) (subst (λ (o : Option ℕ). IsSome o) (pin-still pin ne) now))

    no-more : (t : Snap) → HasPin new t.chain t.pin → HasPin old t.chain t.pin
    no-more t on = elim (decided t.chain s.chain) [
      | inl same ↦ subst (λ i. HasPin old i t.pin) (sym same) (mine-was t.pin (subst (λ i. HasPin new i t.pin) same on))
      | inr ne ↦ subst (Pins t.pin) (swept-beside t.chain ne) on
    ]

    -- there is one less
    fewer : snapshots_of left_chain + 1 ≡ snapshots_of h.chain
    fewer = pins-less s.pin h.chain.chain.pins h.number h.pinned

    fewer-here : (n : KeptChain) → chain_at new s.chain ≡ Some n → snapshots_of n + 1 ≤ snapshots_of h.chain
    fewer-here n e = here-by (snapshots_of n + 1 ≤ snapshots_of h.chain)
        (λ idle none. absurd (none-is-none n (sym none ∙ e)))
        (λ some. subst (λ (q : KeptChain). snapshots_of q + 1 ≤ snapshots_of h.chain) (same_some left_chain n (sym some ∙ e)) (omega (arith, fewer)))

    none-have-more : HaveNoMore old new
    none-have-more id n e cached = elim (decided id s.chain) [
      | inl same ↦ (let less = fewer-here n (sym (ap (chain_at new) same) ∙ e) in (h.chain, ap (chain_at old) same ∙ h.there, h.cached, omega (arith, less)))
      | inr ne ↦ (n, sym (swept-beside id ne) ∙ e, cached, le_refl (snapshots_of n))
    ]

    one-less : cache_snapshots new + 1 ≤ cache_snapshots old
    one-less = snapshots-less old new none-have-more s.chain h.chain h.there h.cached fewer-here (omega (arith, fewer))

    -- memtables and their snapshots
    not-mine : (id : ℕ) (k : KeptChain) → chain_at old id ≡ Some k → k.chain.kind ≡ Memtable → id ≡ s.chain → ⊥
    not-mine id k e memtable same = not-both k memtable (ap (λ (q : KeptChain). q.chain.kind) (same_some k h.chain (sym e ∙ ap (chain_at old) same ∙ h.there)) ∙ h.cached)

    sees : (t : Snap) → HasSnap old t → StillSees t old new
    sees t there =
        let ne : t.chain ≡ s.chain → ⊥ = λ same. (let clash : Memtable ≡ Cache = sym there.kind ∙ ap kind_in (ap (chain_at old) same ∙ h.there) ∙ h.cached in cc clash) in
        let same = swept-beside t.chain ne in
        record { pin = subst (Pins t.pin) (sym same) there.pin; versions = ap (λ o. versions_in o t.pin) same; kind = ap kind_in same }

    -- a chain of which something is listed stays
    stays : (id : ℕ) (k : KeptChain) → chain_at old id ≡ Some k → IsChainListed old id → (now : KeptChain) × (chain_at new id ≡ Some now) × HasSameContent k now
    stays id k e listed = elim (decided id s.chain) [
      | inl same ↦ here-by ((now : KeptChain) × (chain_at new id ≡ Some now) × HasSameContent k now)
          (λ idle none. absurd (idle.unlisted listed.0 listed.1 (subst (λ i. Contains old.recency (member_at i listed.0 listed.1)) same listed.2)))
          (λ some. (
            left_chain,
            ap (chain_at new) same ∙ some,
            subst (λ (q : KeptChain). HasSameContent q left_chain) (same_some h.chain k (sym (ap (chain_at old) same ∙ h.there) ∙ e)) (record { kind = refl; attached = refl; versions = refl }),
          ))
      | inr ne ↦ (k, swept-beside id ne ∙ e, record { kind = refl; attached = refl; versions = refl })
    ]

    -- all of it
    pub released : ReleaseLaws → IsCachedReleased s old new
    released laws = record {
      says = λ schema below says. (let left = laws.says_back schema below s.chain s.pin old says in elim swept [ inl gone ↦ laws.says_gone schema below s.chain old.recency back new gone.1 left | inr kept ↦ subst (CacheSays schema below) (sym kept.1) left ]);
      entries = λ es are. (
          let left = laws.entries es old back (laws.left_back s.chain s.pin old) are in
          elim swept [ inl gone ↦ laws.entries es back new (laws.left_gone s.chain old.recency back new gone.1) left | inr kept ↦ subst (AreEntries es) (sym kept.1) left ]);
      one = λ one. (let left = laws.one_back s old one in elim swept [ inl gone ↦ laws.one_gone s.chain old.recency back new gone.1 left | inr kept ↦ subst HaveOneVersion (sym kept.1) left ]);
      used = laws.swept s old new left_chain back-there
          (λ idle. elim swept [ inl gone ↦ gone.1 | inr kept ↦ absurd (kept.0 idle) ])
          (λ busy. elim swept [ inl gone ↦ absurd (busy gone.0) | inr kept ↦ kept.1 ]);
      memtables = λ id k e memtable. swept-beside id (not-mine id k e memtable) ∙ e;
      seen = sees;
      pins = pins-still;
      none_more = no-more;
      snapshots = one-less;
      bytes = (let same = laws.bytes_back s old in elim swept [
        | inl gone ↦ (let less = laws.bytes_gone s.chain old.recency back new gone.1 in omega (arith, same, less))
        | inr kept ↦ (let is : memtable_bytes new ≡ memtable_bytes back = ap memtable_bytes kept.1 in omega (arith, same, is))
      ]);
      segments = elim swept [ inl gone ↦ gone.1.region.budget | inr kept ↦ ap (λ (m : Memory). length m.region.usages) kept.1 ];
      counts = elim swept [ inl gone ↦ gone.1.counts | inr kept ↦ ap (λ (m : Memory). m.counts) kept.1 ];
      fell = counts-same old new (elim swept [ inl gone ↦ gone.1.counts | inr kept ↦ ap (λ (m : Memory). m.counts) kept.1 ]) (elim swept [ inl gone ↦ gone.1.region.moved | inr kept ↦ ap (λ (m : Memory). m.region.moved) kept.1 ]);
      recency = elim swept [ inl gone ↦ gone.1.recency | inr kept ↦ ap (λ (m : Memory). m.recency) kept.1 ];
      still = λ id k e kind listed. stays id k e listed;
      beside = swept-beside;
    }
