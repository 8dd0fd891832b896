-- What is known of the chains from one call to the next, after each sort of call.
use Rattle.std.proofs.Common.{◌≡◌, ◌≢◌, ◌⊎◌, ◌<◌, ℕ, zero, suc, List, [], ◌∷◌, Option, Some, None, IsSome, length, inl, inr, refl, sym, ap, ◌∙◌, subst, slice_index_or}
use Rattle.std.specs.Prelude.{Contains, IfSome, IsSomeAnd}
use Rattle.std.specs.Option.{option_map}
use Rattle.lsa_pool.specs.laws.Usages.{decided}
use Rattle.rc_position.specs.declared.positions.Pos.{Pos}
use Rattle.rc_core.specs.AtPlace.{HasEntryAt}
use Rattle.rc_core.specs.Steps.{on_version, pin_at}
use Rattle.rc_core.specs.Version.{Version, end_position}
use Rattle.rc_partition.specs.laws.Lists.{elem-cases, elem-first, elem-here, elem-later}
use Rattle.rc_registry.specs.Registry.{put_at_number}
use Rattle.rc_memory.specs.Memory.{KeptChain, Memory, HasVersion, IsTold, IsVersionAt, chain_at, on_chain, on_shown, on_version_of}
use Rattle.rc_memory.specs.Changes.{member_at}
use Rattle.rc_memory.specs.Recency.{IsUnderUpdate}
use Rattle.rc_memory.specs.laws.At.{found-version}
use Rattle.rc_memory.specs.laws.Listed.{one-at}
use Rattle.rc_memory.specs.laws.Places.{no_some, same_some}
use Rattle.rc_memory.specs.laws.Put.{put-at, put-beside}
use Rattle.rc_memory.specs.laws.Recent.{beside-on, on-at, on-beside}
use Rattle.rc_memory.specs.laws.Rules.{length-on}
use Rattle.rc_chain_guarded.specs.declared.known.Held.{Held}
use Rattle.rc_chain_guarded.specs.declared.known.Known.{Known}
use Rattle.rc_chain_guarded.specs.declared.known.Numbered.{Numbered}
use Rattle.rc_chain_guarded.specs.Guarded.{HaveCodedParts, HasBare, IsListedWhole, IsTracked, HasCodedParts}
use Rattle.rc_chain_guarded.specs.calls.Inner.{IsKnownBeside}

-- ---- options

module _ {X : Type 0} where
  pub from-some : (P : X → Type 0) (o : Option X) → IsSomeAnd o P → (x : X) × (o ≡ Some x) × P x
  from-some P None h = absurd h
  from-some P (Some x) h = (x, refl, h)

  pub to-some : (P : X → Type 0) (o : Option X) (x : X) → o ≡ Some x → P x → IsSomeAnd o P
  to-some P o x e h = subst (λ y. IsSomeAnd y P) (sym e) h

  pub to-if : (P : X → Type 0) (o : Option X) → ((x : X) → o ≡ Some x → P x) → IfSome o P
  to-if P None f = tt
  to-if P (Some x) f = f x refl

  pub from-if : (P : X → Type 0) (o : Option X) (x : X) → IfSome o P → o ≡ Some x → P x
  from-if P o x h e = subst (λ y. IfSome y P) e h

-- the other of what is known stays
module _ (known new : Known) where
  pub full-none : (P : ℕ → Type 0) → new.full ≡ None → IfSome new.full P
  full-none P e = subst (λ o. IfSome o P) (sym e) tt

  pub bare-none : (P : Numbered → Type 0) → new.bare ≡ None → IfSome new.bare P
  bare-none P e = subst (λ o. IfSome o P) (sym e) tt

-- each entry that was listed is still, but end dummies
abbrev pub KeepsListed : Memory → Memory → Type 0
KeepsListed m n = (i l : ℕ) (x : Pos) → x ≢ end_position → Contains m.recency (member_at i l (Some x)) → Contains n.recency (member_at i l (Some x))

-- ---- the list alone changed

module _ (m n : Memory) (same : n.chains ≡ m.chains) where
  at_same : (i : ℕ) → chain_at n i ≡ chain_at m i
  at_same i = ap (λ cs. slice_index_or cs i None) same

  -- where all that was listed is still
  pub known-listed : (known : Known) → KeepsListed m n → IsTracked m known → IsTracked n known
  known-listed known more h = record {
    limits = λ i. subst (λ o. IfSome o HaveCodedParts) (sym (at_same i)) (h.limits i);
    held = λ s on. subst (λ (o : Option KeptChain). IsSomeAnd o (λ k. IsSome (pin_at k.chain.pins s.pin))) (sym (at_same s.chain)) (h.held s on);
    full = to-if (λ i. IfSome (chain_at n i) (IsListedWhole i n.recency)) known.full (λ i e. to-if (IsListedWhole i n.recency) (chain_at n i) (λ k there j v x u number on inner.
        more i j x inner (from-if (IsListedWhole i m.recency) (chain_at m i) k (from-if (λ i. IfSome (chain_at m i) (IsListedWhole i m.recency)) known.full i h.full e) (sym (at_same i) ∙ there) j v x u number on inner)));
    bare = to-if (λ b. IsSomeAnd (chain_at n b.chain) (HasBare b.version)) known.bare (λ b e. subst (λ o. IsSomeAnd o (HasBare b.version)) (sym (at_same b.chain))
        (from-if (λ b. IsSomeAnd (chain_at m b.chain) (HasBare b.version)) known.bare b h.bare e));
  }

  pub known-same : (known : Known) → n.recency ≡ m.recency → IsTracked m known → IsTracked n known
  known-same known list = known-listed known (λ i j x inner on. subst (λ l. Contains l (member_at i j (Some x))) (sym list) on)

  -- where it is not known what is under update
  pub known-chains : (known : Known) → known.full ≡ None → IsTracked m known → IsTracked n known
  known-chains known full h = record {
    limits = λ i. subst (λ o. IfSome o HaveCodedParts) (sym (at_same i)) (h.limits i);
    held = λ s on. subst (λ (o : Option KeptChain). IsSomeAnd o (λ k. IsSome (pin_at k.chain.pins s.pin))) (sym (at_same s.chain)) (h.held s on);
    full = full-none known known (λ i. IfSome (chain_at n i) (IsListedWhole i n.recency)) full;
    bare = to-if (λ b. IsSomeAnd (chain_at n b.chain) (HasBare b.version)) known.bare (λ b e. subst (λ o. IsSomeAnd o (HasBare b.version)) (sym (at_same b.chain))
        (from-if (λ b. IsSomeAnd (chain_at m b.chain) (HasBare b.version)) known.bare b h.bare e));
  }

-- less is known
pub known-less : (m : Memory) (known new : Known) → new.held ≡ known.held → new.full ≡ None → new.bare ≡ None → IsTracked m known → IsTracked m new
known-less m known new held full bare h = record {
  limits = h.limits;
  held = λ s on. h.held s (subst (λ l. Contains l s) (λ i. (held i).items) on);
  full = full-none known new (λ i. IfSome (chain_at m i) (IsListedWhole i m.recency)) full;
  bare = bare-none known new (λ b. IsSomeAnd (chain_at m b.chain) (HasBare b.version)) bare;
}

-- which version is bare is as it was, or unknown
pub known-fewer : (m : Memory) (known new : Known) → new.held ≡ known.held → new.full ≡ None → ((b : Numbered) → new.bare ≡ Some b → known.bare ≡ Some b) → IsTracked m known → IsTracked m new
known-fewer m known new held full bare h = record {
  limits = h.limits;
  held = λ s on. h.held s (subst (λ l. Contains l s) (λ i. (held i).items) on);
  full = full-none known new (λ i. IfSome (chain_at m i) (IsListedWhole i m.recency)) full;
  bare = to-if (λ b. IsSomeAnd (chain_at m b.chain) (HasBare b.version)) new.bare (λ b e. from-if (λ b. IsSomeAnd (chain_at m b.chain) (HasBare b.version)) known.bare b h.bare (bare b e));
}

pub told-same : (m n : Memory) (o : Option ℕ) → IsTold m n o → (n.chains ≡ m.chains) × (n.recency ≡ m.recency)
told-same m n None is = (ap (λ (x : Memory). x.chains) is.1, ap (λ (x : Memory). x.recency) is.1)
told-same m n (Some id) is = (ap (λ (x : Memory). x.chains) is.1, ap (λ (x : Memory). x.recency) is.1)

-- ---- one chain changed

module _ (m n : Memory) (id : ℕ) (c : Option KeptChain) (is : n.chains ≡ put_at_number id c m.chains) where
  pub put_here : chain_at n id ≡ c
  put_here = ap (λ cs. slice_index_or cs id None) is ∙ put-at m.chains id c

  pub put_beside : (i : ℕ) → i ≢ id → chain_at n i ≡ chain_at m i
  put_beside i ne = ap (λ cs. slice_index_or cs i None) is ∙ put-beside m.chains id c i ne

module _ (m n : Memory) (id : ℕ) (g : KeptChain → KeptChain) (is : n.chains ≡ on_chain id g m.chains) where
  on_here : (k : KeptChain) → chain_at m id ≡ Some k → chain_at n id ≡ Some (g k)
  on_here k e = put_here m n id (option_map g (chain_at m id)) is ∙ ap (option_map g) e

  on_beside : (i : ℕ) → i ≢ id → chain_at n i ≡ chain_at m i
  on_beside i ne = put_beside m n id (option_map g (chain_at m id)) is i ne

  -- what a chain then was before
  was : (q : KeptChain) → chain_at n id ≡ Some q → (k : KeptChain) × (chain_at m id ≡ Some k) × (q ≡ g k)
  was q e = of (chain_at m id) (sym (put_here m n id (option_map g (chain_at m id)) is) ∙ e)
    where
      of : (o : Option KeptChain) → option_map g o ≡ Some q → (k : KeptChain) × (o ≡ Some k) × (q ≡ g k)
      of None clash = absurd (no_some q clash)
      of (Some k) same = (k, refl, sym (same_some (g k) q same))

  -- what held of each chain
  pub if-on : (P Q : KeptChain → Type 0) (i : ℕ) → IfSome (chain_at m i) P → ((k : KeptChain) → i ≡ id → chain_at m id ≡ Some k → P k → Q (g k)) → ((k : KeptChain) → i ≢ id → P k → Q k) → IfSome (chain_at n i) Q
  if-on P Q i h this beside = to-if Q (chain_at n i) (λ q e. elim (decided i id) [
    | inl same ↦ let k = was q (ap (chain_at n) (sym same) ∙ e) in subst Q (sym k.2) (this k.0 same k.1 (from-if P (chain_at m i) k.0 h (ap (chain_at m) same ∙ k.1)))
    | inr ne ↦ beside q ne (from-if P (chain_at m i) q h (sym (on_beside i ne) ∙ e))
  ])

  -- what held of a chain that is there
  pub some-on : (P : KeptChain → Type 0) (i : ℕ) → IsSomeAnd (chain_at m i) P → ((k : KeptChain) → i ≡ id → chain_at m id ≡ Some k → P k → P (g k)) → IsSomeAnd (chain_at n i) P
  some-on P i h this = elim (decided i id) [
    | inl same ↦ let k = from-some P (chain_at m i) h in let there = ap (chain_at m) (sym same) ∙ k.1 in to-some P (chain_at n i) (g k.0) (ap (chain_at n) same ∙ on_here k.0 there) (this k.0 same there k.2)
    | inr ne ↦ subst (λ o. IsSomeAnd o P) (sym (on_beside i ne)) h
  ]

  -- all but what is known of one version
  pub known-on : (known new : Known) → IsTracked m known → new.held ≡ known.held
      → ((k : KeptChain) → chain_at m id ≡ Some k → HaveCodedParts k → HaveCodedParts (g k))
      → ((k : KeptChain) (pin : ℕ) → chain_at m id ≡ Some k → IsSome (pin_at k.chain.pins pin) → IsSome (pin_at (g k).chain.pins pin))
      → IfSome new.full (λ i. IfSome (chain_at n i) (IsListedWhole i n.recency)) → IfSome new.bare (λ b. IsSomeAnd (chain_at n b.chain) (HasBare b.version)) → IsTracked n new
  known-on known new h held limits pins full bare = record {
    limits = λ i. if-on HaveCodedParts HaveCodedParts i (h.limits i) (λ k same there p. limits k there p) (λ k ne p. p);
    held = λ s on. some-on (λ k. IsSome (pin_at k.chain.pins s.pin)) s.chain (h.held s (subst (λ l. Contains l s) (λ i. (held i).items) on)) (λ k same there p. pins k s.pin there p);
    full = full;
    bare = bare;
  }

  -- a version that was bare is
  pub bare-on : (known new : Known) → IsTracked m known → ((b : Numbered) → new.bare ≡ Some b → (known.bare ≡ Some b) × ((k : KeptChain) → b.chain ≡ id → chain_at m id ≡ Some k → HasBare b.version k → HasBare b.version (g k)))
      → IfSome new.bare (λ b. IsSomeAnd (chain_at n b.chain) (HasBare b.version))
  bare-on known new h told = to-if (λ b. IsSomeAnd (chain_at n b.chain) (HasBare b.version)) new.bare (λ b e.
      some-on (HasBare b.version) b.chain (from-if (λ b. IsSomeAnd (chain_at m b.chain) (HasBare b.version)) known.bare b h.bare (told b e).0) (λ k same there p. (told b e).1 k same there p))

-- less of what is held
pub known-sub : (m : Memory) (known new : Known) → ((s : Held) → Contains new.held.items s → Contains known.held.items s) → new.full ≡ known.full → new.bare ≡ known.bare → IsTracked m known → IsTracked m new
known-sub m known new less full bare h = record {
  limits = h.limits;
  held = λ s on. h.held s (less s on);
  full = subst (λ o. IfSome o (λ i. IfSome (chain_at m i) (IsListedWhole i m.recency))) (sym full) h.full;
  bare = subst (λ o. IfSome o (λ (b : Numbered). IsSomeAnd (chain_at m b.chain) (HasBare b.version))) (sym bare) h.bare;
}

pub beside-same : (id j : ℕ) (known new : Known) → new.bare ≡ known.bare → IsKnownBeside id j known known → IsKnownBeside id j known new
beside-same id j known new e h = subst (λ o. IfSome o (λ (b : Numbered). (known.bare ≡ Some b) × (b.chain ≡ id → b.version ≡ j → ⊥))) (sym e) h

-- ---- one version changed

pub version-among : (vs : List Version) (j : ℕ) (v : Version) → IsVersionAt vs j v → Contains vs v
version-among vs j v number = subst (λ l. Contains l v) (sym number.split) (elem-here number.older number.newer v)

-- a version that was there is
pub has-still : (m n : Memory) (id j : ℕ) (f : Version → Version) → n.chains ≡ on_chain id (on_shown (on_version_of j f)) m.chains → (i l : ℕ) → HasVersion m i l → HasVersion n i l
has-still m n id j f is i l there = some-on m n id (on_shown (on_version_of j f)) is (λ (k : KeptChain). l < length k.chain.versions) i there (λ k same at p. subst (λ z. l < z) (sym (length-on j f k.chain.versions)) p)

-- what is said of the entries of a version, and of those listed at its places
abbrev pub KeepsEntries : ℕ → ℕ → (Version → Version) → Memory → Memory → Type 0
KeepsEntries id j f m n = (k : KeptChain) (v : Version) (x : Pos) → chain_at m id ≡ Some k → IsVersionAt k.chain.versions j v → HasEntryAt x (f v).entries → HasEntryAt x v.entries ⊎ (IsUnderUpdate k.chain j → Contains n.recency (member_at id j (Some x)))

on_each : (j : ℕ) (f : Version → Version) (vs : List Version) (w : Version) → Contains (on_version j f vs) w → Contains vs w ⊎ ((v : Version) × Contains vs v × (f v ≡ w))
on_each j f [] w on = inl on
on_each zero f (v ∷ vs) w on = elim (elem-cases (f v) w vs on) [ inl same ↦ inr (v, elem-first v vs, same) | inr later ↦ inl (elem-later v w vs later) ]
on_each (suc j) f (v ∷ vs) w on = elim (elem-cases v w (on_version j f vs) on) [
  | inl same ↦ inl (subst (Contains (v ∷ vs)) same (elem-first v vs))
  | inr later ↦ elim (on_each j f vs w later) [
    | inl old ↦ inl (elem-later v w vs old)
    | inr made ↦ inr (made.0, elem-later v made.0 vs made.1, made.2)
  ]
]

pub limits-on : (j : ℕ) (f : Version → Version) (k : KeptChain) → ((v : Version) → HasCodedParts v → HasCodedParts (f v)) → HaveCodedParts k → HaveCodedParts (on_shown (on_version_of j f) k)
limits-on j f k keeps h w on = elim (on_each j f k.chain.versions w on) [ inl old ↦ h w old | inr made ↦ subst HasCodedParts made.2 (keeps made.0 (h made.0 made.1)) ]

module _ (m n : Memory) (id j : ℕ) (f : Version → Version) (is : n.chains ≡ on_chain id (on_shown (on_version_of j f)) m.chains) (there : HasVersion m id j) where
  full_on : KeepsListed m n → KeepsEntries id j f m n → (i : ℕ) → IfSome (chain_at m i) (IsListedWhole i m.recency) → IfSome (chain_at n i) (IsListedWhole i n.recency)
  full_on more only i h = if-on m n id (on_shown (on_version_of j f)) is (IsListedWhole i m.recency) (IsListedWhole i n.recency) i h here (λ k ne p l v x u number on inner. more i l x inner (p l v x u number on inner))
    where
      here : (k : KeptChain) → i ≡ id → chain_at m id ≡ Some k → IsListedWhole i m.recency k → IsListedWhole i n.recency (on_shown (on_version_of j f) k)
      here k same at p l v x u number on inner =
          let found = found-version m id j there in
          let version : IsVersionAt k.chain.versions j found.1 = subst (λ (q : KeptChain). IsVersionAt q.chain.versions j found.1) (same_some found.0 k (sym found.2 ∙ at)) found.3 in
          let under : IsUnderUpdate k.chain l = (u.0, u.1 ∙ length-on j f k.chain.versions) in
          elim (decided l j) [
            | inl e ↦
                let is_v : v ≡ f found.1 = one-at (on_version j f k.chain.versions) j v (f found.1) (subst (λ z. IsVersionAt (on_version j f k.chain.versions) z v) e number) (on-at k.chain.versions j found.1 f version) in
                elim (only k found.1 x at version (subst (λ (z : Version). HasEntryAt x z.entries) is_v on)) [
                  | inl old ↦ more i l x inner (p l found.1 x under (subst (λ z. IsVersionAt k.chain.versions z found.1) (sym e) version) old inner)
                  | inr made ↦ subst (Contains n.recency) (λ a. member_at (sym same a) (sym e a) (Some x)) (made (u.0, ap suc (sym e) ∙ under.1))
                ]
            | inr ne ↦ more i l x inner (p l v x under (beside-on k.chain.versions j found.1 f version l v ne number) on inner)
          ]

  bare_on : (k : KeptChain) (l : ℕ) → l ≢ j → chain_at m id ≡ Some k → HasBare l k → HasBare l (on_shown (on_version_of j f) k)
  bare_on k l ne at b =
      let found = found-version m id j there in
      let version : IsVersionAt k.chain.versions j found.1 = subst (λ (q : KeptChain). IsVersionAt q.chain.versions j found.1) (same_some found.0 k (sym found.2 ∙ at)) found.3 in
      (b.0, on-beside k.chain.versions j found.1 f version l b.0 ne b.1, b.2)

  bare_beside : (known new : Known) → IsTracked m known → IsKnownBeside id j known new → IfSome new.bare (λ b. IsSomeAnd (chain_at n b.chain) (HasBare b.version))
  bare_beside known new h beside = bare-on m n id (on_shown (on_version_of j f)) is known new h (λ b e. let told = from-if (λ (b : Numbered). (known.bare ≡ Some b) × (b.chain ≡ id → b.version ≡ j → ⊥)) new.bare b beside e in
      (told.0, λ k same at p. bare_on k b.version (told.1 same) at p))

  -- where all that was listed is still, and what is made is
  pub known-changed : (known new : Known) → IsTracked m known → new.held ≡ known.held → new.full ≡ known.full → IsKnownBeside id j known new → ((v : Version) → HasCodedParts v → HasCodedParts (f v))
      → KeepsListed m n → KeepsEntries id j f m n → IsTracked n new
  known-changed known new h held full beside limits more only = known-on m n id (on_shown (on_version_of j f)) is known new h held (λ k at p. limits-on j f k limits p) (λ k pin at p. p)
      (to-if _ new.full (λ i e. full_on more only i (from-if (λ i. IfSome (chain_at m i) (IsListedWhole i m.recency)) known.full i h.full (sym full ∙ e)))) (bare_beside known new h beside)

  -- where what is under update is known no longer
  pub known-lost : (known new : Known) → IsTracked m known → new.held ≡ known.held → new.full ≡ None → IsKnownBeside id j known new → ((v : Version) → HasCodedParts v → HasCodedParts (f v)) → IsTracked n new
  known-lost known new h held full beside limits = known-on m n id (on_shown (on_version_of j f)) is known new h held (λ k at p. limits-on j f k limits p) (λ k pin at p. p)
      (full-none known new _ full) (bare_beside known new h beside)
