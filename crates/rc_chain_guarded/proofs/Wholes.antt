-- What is known of the chains after the calls on chains as a whole.
use Rattle.std.proofs.Common.{◌≡◌, ◌≢◌, ◌⊎◌, ℕ, zero, suc, Bool, true, false, cond, List, [], ◌∷◌, ◌++◌, Option, Some, None, IsSome, length, inl, inr, refl, sym, ap, ◌∙◌, subst, slice_index_or, arith, take, drop, length-append}
use Rattle.std.specs.Prelude.{Contains, IfSome, IsSomeAnd, map as list_map}
use Rattle.std.specs.Option.{option_map}
use Rattle.lsa_pool.specs.laws.Usages.{decided}
use Rattle.rc_cell.specs.declared.writes.Tomb.{Tomb}
use Rattle.rc_core.specs.declared.entries.ChainKind.{ChainKind}
use Rattle.rc_core.specs.declared.entries.ChainKind.TheVariants.{Cache}
use Rattle.rc_core.specs.declared.entries.Flag.TheVariants.{Inherit}
use Rattle.rc_core.specs.AtPlace.{HasEntryAt}
use Rattle.rc_core.specs.Chains.{Shown}
use Rattle.rc_core.specs.Steps.{free_number, number_after_removal, on_newest, pin_at, pins_with, version_of, with_phase}
use Rattle.rc_core.specs.Version.{Version}
use Rattle.rc_core.specs.laws.Pins.{pin-given, pin-is-pinned, pin-kept, pin-others, pin-renumbered}
use Rattle.rc_partition.specs.laws.Lists.{elem-cases, elem-first, elem-later, elem-none, elem-pushed}
use Rattle.rc_registry.specs.Registry.{AreFree, put_at_number}
use Rattle.rc_memory.specs.Memory.{KeptChain, Member, Memory, HasChain, HasPin, IsSnapshotTaken, IsVersionAt, chain_at, on_chain, on_shown, shown_with, shown_without, snapshot_number, with_snapshot, without_snapshot}
use Rattle.rc_memory.specs.Changes.{member_at}
use Rattle.rc_memory.specs.laws.At.{number-low}
use Rattle.rc_memory.specs.laws.Places.{same_some}
use Rattle.rc_memory.specs.laws.Recent.{pushed-at}
use Rattle.rc_memory.specs.laws.Standing.{at-mapped}
use Rattle.rc_memory.specs.laws.Versions.{still-at}
use Rattle.rc_chain.specs.Lives.{chain_of_new, flag_of_new, is_cache, relabelled_chain, with_version_over}
use Rattle.rc_chain_guarded.specs.declared.known.Held.{Held}
use Rattle.rc_chain_guarded.specs.declared.known.Known.{Known}
use Rattle.rc_chain_guarded.specs.declared.known.Numbered.{Numbered}
use Rattle.rc_chain_guarded.specs.Guarded.{HaveCodedParts, HasBare, IsListedWhole, IsTracked, HasCodedParts}
use Rattle.rc_chain_guarded.specs.calls.Inner.{IsBegun}
use Rattle.rc_chain_guarded.proofs.Limits.{limits-new}
use Rattle.rc_chain_guarded.proofs.Steps.{bare-none, bare-on, from-if, from-some, full-none, if-on, known-on, put_beside, put_here, some-on, to-if, to-some}

-- ---- chains there and not

pub chain-there : (m : Memory) (id : ℕ) → HasChain m id → (k : KeptChain) × (chain_at m id ≡ Some k)
chain-there m id has = of (chain_at m id) has
  where
    of : (o : Option KeptChain) → IsSome o → (k : KeptChain) × (o ≡ Some k)
    of None h = cc h
    of (Some k) h = (k, refl)

-- ---- an update ends, and a chain is found no longer

module _ (m n : Memory) (id : ℕ) (g : KeptChain → KeptChain) (is : n.chains ≡ on_chain id g m.chains)
    (versions : (k : KeptChain) → (g k).chain.versions ≡ k.chain.versions) (pins : (k : KeptChain) → (g k).chain.pins ≡ k.chain.pins) where
  pub known-settled : (known new : Known) → IsTracked m known → new.held ≡ known.held → new.full ≡ None → new.bare ≡ known.bare → IsTracked n new
  known-settled known new h held full bare = known-on m n id g is known new h held
      (λ k at p v on. p v (subst (λ l. Contains l v) (versions k) on))
      (λ k pin at p. subst (λ ps. IsSome (pin_at ps pin)) (sym (pins k)) p)
      (full-none known new _ full)
      (bare-on m n id g is known new h (λ b e. (sym bare ∙ e, λ k same at p. (p.0, subst (λ vs. IsVersionAt vs b.version p.0) (sym (versions k)) p.1, p.2))))

-- ---- a version is put over others

module _ (m n : Memory) (id phase : ℕ) (k : KeptChain) (there : chain_at m id ≡ Some k) (is : n.chains ≡ on_chain id (on_shown (with_version_over phase)) m.chains) where
  abbrev over : Version
  over = version_of Inherit None phase

  over_limits : (q : KeptChain) → HaveCodedParts q → HaveCodedParts (on_shown (with_version_over phase) q)
  over_limits q h v on = elim (elem-pushed q.chain.versions over v on) [ inl old ↦ h v old | inr new ↦ subst HasCodedParts new (limits-new Inherit None phase) ]

  over_full : (list : List Member) → IsListedWhole id list (on_shown (with_version_over phase) k)
  over_full list j v x u number on inner = elim (pushed-at k.chain.versions over j v number.older number.newer number.split number.number) [
    | inl old ↦ let low = number-low k.chain.versions j v old in let size = length-append k.chain.versions (over ∷ []) in let last = u.1 in absurd (omega (arith, low, size, last))
    | inr new ↦ absurd (none (subst (λ (w : Version). HasEntryAt x w.entries) (sym new) on))
  ] where
    none : HasEntryAt x over.entries → ⊥
    none (inl here) = inner (sym here)
    none (inr later) = later

  over_here : chain_at n id ≡ Some (on_shown (with_version_over phase) k)
  over_here = put_here m n id _ is ∙ ap (option_map (on_shown (with_version_over phase))) there

  over_bare : HasBare (length k.chain.versions) (on_shown (with_version_over phase) k)
  over_bare = (over, record { older = k.chain.versions; newer = []; split = refl; number = refl }, record { statics = refl; alone = (_, refl) })

  pub known-over : (known new : Known) → IsTracked m known → new.held ≡ known.held → new.full ≡ Some id
      → ((b : Numbered) → new.bare ≡ Some b → (known.bare ≡ Some b) ⊎ ((b.chain ≡ id) × (b.version ≡ length k.chain.versions))) → IsTracked n new
  known-over known new h held full bare = known-on m n id (on_shown (with_version_over phase)) is known new h held (λ q at p. over_limits q p) (λ q pin at p. p)
      (subst (λ o. IfSome o (λ i. IfSome (chain_at n i) (IsListedWhole i n.recency))) (sym full) (subst (λ o. IfSome o (IsListedWhole id n.recency)) (sym over_here) (over_full n.recency)))
      (to-if (λ b. IsSomeAnd (chain_at n b.chain) (HasBare b.version)) new.bare (λ b e. elim (bare b e) [
        | inl old ↦ elim (decided b.chain id) [
          | inl same ↦
              let p = from-some (HasBare b.version) (chain_at m b.chain) (from-if (λ b. IsSomeAnd (chain_at m b.chain) (HasBare b.version)) known.bare b h.bare old) in
              let one : p.0 ≡ k = same_some p.0 k (sym p.1 ∙ ap (chain_at m) same ∙ there) in let q = subst (HasBare b.version) one p.2 in
              to-some (HasBare b.version) (chain_at n b.chain) (on_shown (with_version_over phase) k) (ap (chain_at n) same ∙ over_here) (q.0, still-at k.chain.versions (over ∷ []) b.version q.0 q.1, q.2)
          | inr ne ↦ subst (λ o. IsSomeAnd o (HasBare b.version)) (sym (put_beside m n id _ is b.chain ne)) (from-if (λ b. IsSomeAnd (chain_at m b.chain) (HasBare b.version)) known.bare b h.bare old)
        ]
        | inr this ↦ to-some (HasBare b.version) (chain_at n b.chain) (on_shown (with_version_over phase) k) (ap (chain_at n) this.0 ∙ over_here) (subst (λ j. HasBare j (on_shown (with_version_over phase) k)) (sym this.1) over_bare)
      ]))

  pub known-over_less : (known new : Known) → IsTracked m known → new.held ≡ known.held → new.full ≡ None → new.bare ≡ None → IsTracked n new
  known-over_less known new h held full bare = known-on m n id (on_shown (with_version_over phase)) is known new h held (λ q at p. over_limits q p) (λ q pin at p. p) (full-none known new _ full) (bare-none known new _ bare)

  pub over-fresh : k.chain.kind ≡ Cache → IsBegun id (length k.chain.versions) phase n
  over-fresh cached = to-some _ (chain_at n id) (on_shown (with_version_over phase) k) over_here
      (cached, (ap is_cache cached, (let size = length-append k.chain.versions (over ∷ []) in omega (arith, size))), record { older = k.chain.versions; newer = []; split = refl; number = refl })

-- ---- a chain comes to be, or goes

module _ (m n : Memory) (id : ℕ) (c : Option KeptChain) (is : n.chains ≡ put_at_number id c m.chains) where
  -- another chain than this one is as it was; of this one no snapshot is held
  pub known-put : (known new : Known) → IsTracked m known → new.held ≡ known.held → new.full ≡ None → ((b : Numbered) → new.bare ≡ Some b → (known.bare ≡ Some b) × (b.chain ≢ id)) → IfSome c HaveCodedParts
      → ((pin : ℕ) → HasPin m id pin → ⊥) → IsTracked n new
  known-put known new h held full bare limits free = record {
    limits = λ i. elim (decided i id) [
      | inl same ↦ subst (λ o. IfSome o HaveCodedParts) (sym (ap (chain_at n) same ∙ put_here m n id c is)) limits
      | inr ne ↦ subst (λ o. IfSome o HaveCodedParts) (sym (put_beside m n id c is i ne)) (h.limits i)
    ];
    held = λ s on. let p = h.held s (subst (λ l. Contains l s) (λ i. (held i).items) on) in elim (decided s.chain id) [
      | inl same ↦ absurd (free s.pin (subst (λ i. HasPin m i s.pin) same p))
      | inr ne ↦ subst (λ (o : Option KeptChain). IsSomeAnd o (λ k. IsSome (pin_at k.chain.pins s.pin))) (sym (put_beside m n id c is s.chain ne)) p
    ];
    full = full-none known new _ full;
    bare = to-if (λ b. IsSomeAnd (chain_at n b.chain) (HasBare b.version)) new.bare (λ b e. let told = bare b e in
        subst (λ o. IsSomeAnd o (HasBare b.version)) (sym (put_beside m n id c is b.chain told.1)) (from-if (λ b. IsSomeAnd (chain_at m b.chain) (HasBare b.version)) known.bare b h.bare told.0));
  }

-- a chain that is not there has no snapshot, nor one that nobody pins
pub no-chain_pin : (m : Memory) (id pin : ℕ) → chain_at m id ≡ None → HasPin m id pin → ⊥
no-chain_pin m id pin none has = subst (λ (o : Option KeptChain). IsSomeAnd o (λ k. IsSome (pin_at k.chain.pins pin))) none has

pub some-number : (o : Option ℕ) → IsSome o → (j : ℕ) × (o ≡ Some j)
some-number None h = cc h
some-number (Some j) h = (j, refl)

pub free-pin : (m : Memory) (id pin : ℕ) (k : KeptChain) → chain_at m id ≡ Some k → AreFree k.chain.pins → HasPin m id pin → ⊥
free-pin m id pin k there free has =
    let p = subst (λ (o : Option KeptChain). IsSomeAnd o (λ k. IsSome (pin_at k.chain.pins pin))) there has in let j = some-number (pin_at k.chain.pins pin) p in free j.0 (pin-is-pinned k.chain.pins pin j.0 j.1)

pub new-limits : (kind : ChainKind) (pt : Option Tomb) (phase : ℕ) → HaveCodedParts (chain_of_new kind pt phase)
new-limits kind pt phase v on = elim (elem-cases _ v [] on) [ inl same ↦ subst HasCodedParts same (limits-new (flag_of_new kind) pt phase) | inr none ↦ absurd (elem-none v none) ]

-- a bare version is of another chain than one that is not there
pub bare-other : (m : Memory) (known : Known) (id : ℕ) → IsTracked m known → chain_at m id ≡ None → (b : Numbered) → known.bare ≡ Some b → b.chain ≢ id
bare-other m known id h none b e same = absurd (subst (λ o. IsSomeAnd o (HasBare b.version)) (ap (chain_at m) same ∙ none) (from-if (λ b. IsSomeAnd (chain_at m b.chain) (HasBare b.version)) known.bare b h.bare e))

-- ---- a version goes

elem_taken : (j : ℕ) (vs : List Version) (v : Version) → Contains (take j vs ++ drop (suc j) vs) v → Contains vs v
elem_taken zero [] v on = on
elem_taken (suc j) [] v on = on
elem_taken zero (w ∷ vs) v on = elem-later w v vs on
elem_taken (suc j) (w ∷ vs) v on = elim (elem-cases w v (take j vs ++ drop (suc j) vs) on) [ inl same ↦ subst (Contains (w ∷ vs)) same (elem-first w vs) | inr later ↦ elem-later w v vs (elem_taken j vs v later) ]

some_mapped : (f : ℕ → ℕ) (o : Option ℕ) → IsSome o → IsSome (option_map f o)
some_mapped f None h = cc h
some_mapped f (Some j) h = refl

module _ (m n : Memory) (id j : ℕ) (is : n.chains ≡ on_chain id (on_shown (shown_without j)) m.chains) where
  pub known-without : (known new : Known) → IsTracked m known → new.held ≡ known.held → new.full ≡ None → ((b : Numbered) → new.bare ≡ Some b → (known.bare ≡ Some b) × (b.chain ≢ id)) → IsTracked n new
  known-without known new h held full bare = known-on m n id (on_shown (shown_without j)) is known new h held (λ k at p v on. p v (elem_taken j k.chain.versions v on))
      (λ k pin at p. subst IsSome (sym (pin-renumbered j pin k.chain.pins)) (some_mapped (number_after_removal j) (pin_at k.chain.pins pin) p)) (full-none known new _ full)
      (bare-on m n id (on_shown (shown_without j)) is known new h (λ b e. ((bare b e).0, λ k same at p. absurd ((bare b e).1 same))))

-- ---- each chain has another phase

module _ (m n : Memory) (phase : ℕ) (is : n.chains ≡ list_map (option_map (relabelled_chain phase)) m.chains) where
  newest_limits : (vs : List Version) → ((v : Version) → Contains vs v → HasCodedParts v) → (v : Version) → Contains (on_newest (with_phase phase) vs) v → HasCodedParts v
  newest_limits [] h v on = h v on
  newest_limits (w ∷ []) h v on = elim (elem-cases _ v [] on) [
    | inl same ↦ subst HasCodedParts same (let p = h w (elem-first w []) in record { positions = p.positions; rows = p.rows; statics = p.statics })
    | inr none ↦ absurd (elem-none v none)
  ]
  newest_limits (w ∷ x ∷ vs) h v on = elim (elem-cases w v (on_newest (with_phase phase) (x ∷ vs)) on) [
    | inl same ↦ subst HasCodedParts same (h w (elem-first w (x ∷ vs)))
    | inr later ↦ newest_limits (x ∷ vs) (λ y inside. h y (elem-later w y (x ∷ vs) inside)) v later
  ]

  phase_limits : (b : Bool) (k : KeptChain) → HaveCodedParts k → HaveCodedParts (cond b (on_shown (λ (c : Shown). shown_with (on_newest (with_phase phase) c.versions) c) k) k)
  phase_limits true k h v on = newest_limits k.chain.versions h v on
  phase_limits false k h v on = h v on

  phase_pins : (b : Bool) (k : KeptChain) (pin : ℕ) → IsSome (pin_at k.chain.pins pin) → IsSome (pin_at (cond b (on_shown (λ (c : Shown). shown_with (on_newest (with_phase phase) c.versions) c) k) k).chain.pins pin)
  phase_pins true k pin h = h
  phase_pins false k pin h = h

  mapped : (i : ℕ) → chain_at n i ≡ option_map (relabelled_chain phase) (chain_at m i)
  mapped i = ap (λ cs. slice_index_or cs i None) is ∙ at-mapped (relabelled_chain phase) m.chains i

  if_mapped : (o : Option KeptChain) → IfSome o HaveCodedParts → IfSome (option_map (relabelled_chain phase) o) HaveCodedParts
  if_mapped None h = tt
  if_mapped (Some k) h = phase_limits k.chain.attached k h

  some_pinned : (pin : ℕ) (o : Option KeptChain) → IsSomeAnd o (λ k. IsSome (pin_at k.chain.pins pin)) → IsSomeAnd (option_map (relabelled_chain phase) o) (λ k. IsSome (pin_at k.chain.pins pin))
  some_pinned pin None h = h
  some_pinned pin (Some k) h = phase_pins k.chain.attached k pin h

  pub known-relabelled : (known new : Known) → IsTracked m known → new.held ≡ known.held → new.full ≡ None → new.bare ≡ None → IsTracked n new
  known-relabelled known new h held full bare = record {
    limits = λ i. subst (λ o. IfSome o HaveCodedParts) (sym (mapped i)) (if_mapped (chain_at m i) (h.limits i));
    held = λ s on. subst (λ (o : Option KeptChain). IsSomeAnd o (λ k. IsSome (pin_at k.chain.pins s.pin))) (sym (mapped s.chain)) (some_pinned s.pin (chain_at m s.chain) (h.held s (subst (λ l. Contains l s) (λ i. (held i).items) on)));
    full = full-none known new _ full;
    bare = bare-none known new _ bare;
  }

-- ---- snapshots

pinned_still : (version : ℕ) (pins : List (Option ℕ)) (pin : ℕ) → IsSome (pin_at pins pin) → IsSome (pin_at (pins_with version pins) pin)
pinned_still version pins pin h = elim (decided pin (free_number pins)) [
  | inl e ↦ subst IsSome (sym (ap (pin_at (pins_with version pins)) e ∙ pin-given version pins)) refl
  | inr ne ↦ subst IsSome (sym (pin-others version pins pin ne)) h
]

module _ (m n : Memory) (id : ℕ) (g : KeptChain → KeptChain) (is : n.chains ≡ on_chain id g m.chains) (list : n.recency ≡ m.recency) (versions : (k : KeptChain) → (g k).chain.versions ≡ k.chain.versions) (updating : (k : KeptChain) → (g k).chain.updating ≡ k.chain.updating) where
  full_alike : (i : ℕ) → IfSome (chain_at m i) (IsListedWhole i m.recency) → IfSome (chain_at n i) (IsListedWhole i n.recency)
  full_alike i h = if-on m n id g is (IsListedWhole i m.recency) (IsListedWhole i n.recency) i h
      (λ k same at p j v x u number on inner. subst (λ l. Contains l (member_at i j (Some x))) (sym list)
      (p j v x (sym (updating k) ∙ u.0, u.1 ∙ ap length (versions k)) (subst (λ vs. IsVersionAt vs j v) (versions k) number) on inner))
      (λ k ne p j v x u number on inner. subst (λ l. Contains l (member_at i j (Some x))) (sym list) (p j v x u number on inner))

  -- where versions and update of a chain stay, and its snapshots
  pub known-alike : ((k : KeptChain) (pin : ℕ) → chain_at m id ≡ Some k → IsSome (pin_at k.chain.pins pin) → IsSome (pin_at (g k).chain.pins pin)) → (known : Known) → IsTracked m known → IsTracked n known
  known-alike pins known h = known-on m n id g is known known h refl (λ k at p v on. p v (subst (λ l. Contains l v) (versions k) on)) pins
      (to-if _ known.full (λ i e. full_alike i (from-if (λ i. IfSome (chain_at m i) (IsListedWhole i m.recency)) known.full i h.full e)))
      (bare-on m n id g is known known h (λ b e. (e, λ k same at p. (p.0, subst (λ vs. IsVersionAt vs b.version p.0) (sym (versions k)) p.1, p.2))))

  -- where the snapshots that are held are others
  pub known-released : (pin : ℕ) → ((k : KeptChain) (other : ℕ) → (other ≡ pin → ⊥) → IsSome (pin_at k.chain.pins other) → IsSome (pin_at (g k).chain.pins other)) → (known new : Known) → IsTracked m known
      → ((s : Held) → Contains new.held.items s → Contains known.held.items s × (s.chain ≡ id → s.pin ≡ pin → ⊥)) → new.full ≡ known.full → new.bare ≡ known.bare → IsTracked n new
  known-released pin pins known new h others full bare = record {
    limits = λ i. if-on m n id g is HaveCodedParts HaveCodedParts i (h.limits i) (λ k same at p v on. p v (subst (λ l. Contains l v) (versions k) on)) (λ k ne p. p);
    held = λ s on. let o = others s on in some-on m n id g is (λ k. IsSome (pin_at k.chain.pins s.pin)) s.chain (h.held s o.0) (λ k same at p. pins k s.pin (o.1 same) p);
    full = to-if _ new.full (λ i e. full_alike i (from-if (λ i. IfSome (chain_at m i) (IsListedWhole i m.recency)) known.full i h.full (sym full ∙ e)));
    bare = bare-on m n id g is known new h (λ b e. (sym bare ∙ e, λ k same at p. (p.0, subst (λ vs. IsVersionAt vs b.version p.0) (sym (versions k)) p.1, p.2)));
  }

-- a snapshot more
pub known-pinned : (m n : Memory) (id pin phase : ℕ) → IsSnapshotTaken m n id pin phase → (known : Known) → IsTracked m known → IsTracked n known
known-pinned m n id pin phase taken known h = known-alike m n id (λ k. with_snapshot (snapshot_number k.chain) k) (ap (λ (x : Memory). x.chains) taken.now) (ap (λ (x : Memory). x.recency) taken.now) (λ k. refl) (λ k. refl)
    (λ k other at p. pinned_still (snapshot_number k.chain) k.chain.pins other p) known h

pub taken-there : (m n : Memory) (id pin phase : ℕ) → IsSnapshotTaken m n id pin phase → (k : KeptChain) → chain_at m id ≡ Some k → HasPin n id pin
taken-there m n id pin phase taken k there =
    let number : pin ≡ free_number k.chain.pins = from-if (λ (q : KeptChain). pin ≡ free_number q.chain.pins) (chain_at m id) k taken.number there in
    let at : chain_at n id ≡ Some (with_snapshot (snapshot_number k.chain) k) = put_here m n id _ (ap (λ (x : Memory). x.chains) taken.now) ∙ ap (option_map (λ (q : KeptChain). with_snapshot (snapshot_number q.chain) q)) there in
    to-some (λ (q : KeptChain). IsSome (pin_at q.chain.pins pin)) (chain_at n id) (with_snapshot (snapshot_number k.chain) k) at
    (subst (λ i. IsSome (pin_at (pins_with (snapshot_number k.chain) k.chain.pins) i)) (sym number) (subst IsSome (sym (pin-given (snapshot_number k.chain) k.chain.pins)) refl))

-- one more that is held
pub known-held : (m : Memory) (known new : Known) (s : Held) → IsTracked m known → new.held.items ≡ known.held.items ++ (s ∷ []) → HasPin m s.chain s.pin → new.full ≡ known.full → new.bare ≡ known.bare → IsTracked m new
known-held m known new s h items pin full bare = record {
  limits = h.limits;
  held = λ t on. elim (elem-pushed known.held.items s t (subst (λ l. Contains l t) items on)) [ inl old ↦ h.held t old | inr same ↦ subst (λ (u : Held). HasPin m u.chain u.pin) same pin ];
  full = subst (λ o. IfSome o (λ i. IfSome (chain_at m i) (IsListedWhole i m.recency))) (sym full) h.full;
  bare = subst (λ o. IfSome o (λ (b : Numbered). IsSomeAnd (chain_at m b.chain) (HasBare b.version))) (sym bare) h.bare;
}

pub released-still : (pin : ℕ) (k : KeptChain) (other : ℕ) → (other ≡ pin → ⊥) → IsSome (pin_at k.chain.pins other) → IsSome (pin_at (without_snapshot pin k).chain.pins other)
released-still pin k other ne p = subst IsSome (sym (pin-kept pin other k.chain.pins ne)) p
