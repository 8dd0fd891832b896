-- The recency list holds what it must, and nothing that it may not, after a chain or the list changed.
use Rattle.std.proofs.Common.{◌≡◌, ◌≢◌, ◌⊎◌, ℕ, suc, true, false, List, [], ◌∷◌, ◌++◌, Option, Some, None, length, inl, inr, refl, sym, ap, ◌∙◌, subst, slice_index_or, arith}
use Rattle.std.specs.Prelude.{AllPairs, Contains, IsSomeAnd}
use Rattle.std.specs.Option.{option_map}
use Rattle.std.proofs.lemmas.List.{append-nil, length-append}
use Rattle.lsa_pool.specs.laws.Usages.{decided}
use Rattle.rc_cell.specs.declared.writes.Tomb.{Tomb}
use Rattle.rc_position.specs.declared.positions.Pos.{Pos}
use Rattle.rc_registry.specs.ChainKind.TheVariants.{Cache}
use Rattle.rc_registry.specs.Flag.{Flag}
use Rattle.rc_registry.specs.Steps.{on_version, version_of}
use Rattle.rc_registry.specs.Version.{Version, end_position}
use Rattle.rc_registry.specs.Surgery.{version-at}
use Rattle.rc_partition.specs.laws.Lists.{elem-here, elem-left, elem-pushed, elem-replaced, elem-still, once-beside, once-with, once-without}
use Rattle.rc_registry.specs.Registry.{put_at_number}
use Rattle.rc_memory.specs.Memory.{KeptChain, Member, Memory, IsVersionAt, chain_at, on_chain, on_shown, on_version_of}
use Rattle.rc_memory.specs.Recency.{HasObject, IsLastInner, IsRecency, IsUnderUpdate, MayBeListed, MustBeListed}
use Rattle.rc_memory.specs.Changes.{member_at}
use Rattle.rc_memory.specs.laws.At.{number-low}
use Rattle.rc_memory.specs.laws.Listed.{one-at}
use Rattle.rc_memory.specs.laws.Places.{heads, tails}
use Rattle.rc_memory.specs.laws.Put.{beside-at, put-at, put-beside}
use Rattle.rc_memory.specs.laws.Rules.{length-on}
use Rattle.rc_memory.specs.laws.Versions.{still-at}

-- ---- lists

module _ {X : Type 0} where
  no_parts : (xs ys : List X) (x : X) → [] ≡ xs ++ (x ∷ ys) → ⊥
  no_parts [] ys x e = cc e
  no_parts (z ∷ xs) ys x e = cc e

  pub no-version : (xs : List X) (j : ℕ) (x : X) → xs ≡ [] → IsVersionAt xs j x → ⊥
  no-version xs j x none h = no_parts h.older h.newer x (sym none ∙ h.split)

  -- a version with one over the others is that one, or one of these
  pub pushed-at : (xs : List X) (v : X) (j : ℕ) (x : X) (olds news : List X) → xs ++ (v ∷ []) ≡ olds ++ (x ∷ news) → length olds ≡ j → IsVersionAt xs j x ⊎ (v ≡ x)
  pushed-at [] v j x [] news e n = inr (heads v x [] news e)
  pushed-at [] v j x (o ∷ olds) news e n = absurd (no_parts olds news x (tails v o [] (olds ++ (x ∷ news)) e))
  pushed-at (y ∷ xs) v j x [] news e n = inl (record { older = []; newer = xs; split = ap (λ z. z ∷ xs) (heads y x (xs ++ (v ∷ [])) news e); number = n })
  pushed-at (y ∷ xs) v j x (o ∷ olds) news e n = elim (pushed-at xs v (length olds) x olds news (tails y o (xs ++ (v ∷ [])) (olds ++ (x ∷ news)) e) refl) [
    | inl k ↦ inl (record { older = y ∷ k.older; newer = k.newer; split = ap (λ l. y ∷ l) k.split; number = ap suc k.number ∙ n })
    | inr same ↦ inr same
  ]

-- ---- one chain changed

module _ (m n : Memory) (id : ℕ) (c : Option KeptChain) (is : n.chains ≡ put_at_number id c m.chains) where
  at_this : (w : Member) → w.chain ≡ id → chain_at n w.chain ≡ c
  at_this w e = ap (λ cs. slice_index_or cs w.chain None) is ∙ ap (λ k. slice_index_or (put_at_number id c m.chains) k None) e ∙ put-at m.chains id c

  at_other : (w : Member) → w.chain ≢ id → chain_at n w.chain ≡ chain_at m w.chain
  at_other w ne = ap (λ cs. slice_index_or cs w.chain None) is ∙ put-beside m.chains id c w.chain ne

  -- the list may be another one at the chain's own places
  pub rule-put : AllPairs ◌≢◌ n.recency → ((w : Member) → w.chain ≢ id → Contains n.recency w → Contains m.recency w) → ((w : Member) → w.chain ≢ id → Contains m.recency w → Contains n.recency w)
      → ((j : ℕ) (at : Option Pos) → Contains n.recency (member_at id j at) → IsSomeAnd c (λ k. MayBeListed k.chain j at)) → ((j : ℕ) (at : Option Pos) → IsSomeAnd c (λ k. MustBeListed k.chain j at) → Contains n.recency (member_at id j at))
      → IsRecency m → IsRecency n
  rule-put once fewer more may must h = record {
    once = once;
    members = λ w on. elim (decided w.chain id) [
      | inl e ↦ subst (λ (o : Option KeptChain). IsSomeAnd o (λ k. MayBeListed k.chain w.version w.position)) (sym (at_this w e))
          (may w.version w.position (subst (Contains n.recency) (λ i. record { chain = e i; version = w.version; position = w.position }) on))
      | inr ne ↦ subst (λ (o : Option KeptChain). IsSomeAnd o (λ k. MayBeListed k.chain w.version w.position)) (sym (at_other w ne)) (h.members w (fewer w ne on))
    ];
    complete = λ w must_be. elim (decided w.chain id) [
      | inl e ↦ subst (Contains n.recency) (λ i. record { chain = sym e i; version = w.version; position = w.position })
          (must w.version w.position (subst (λ (o : Option KeptChain). IsSomeAnd o (λ k. MustBeListed k.chain w.version w.position)) (at_this w e) must_be))
      | inr ne ↦ more w ne (h.complete w (subst (λ (o : Option KeptChain). IsSomeAnd o (λ k. MustBeListed k.chain w.version w.position)) (at_other w ne) must_be))
    ];
  }

on_there : (P Q : KeptChain → Type 0) (g : KeptChain → KeptChain) (o : Option KeptChain) → IsSomeAnd o P → ((k : KeptChain) → o ≡ Some k → P k → Q (g k)) → IsSomeAnd (option_map g o) Q
on_there P Q g None h f = h
on_there P Q g (Some k) h f = f k refl h

from_there : (Q : KeptChain → Type 0) (R : Type 0) (g : KeptChain → KeptChain) (o : Option KeptChain) → IsSomeAnd (option_map g o) Q → ((k : KeptChain) → o ≡ Some k → Q (g k) → R) → R
from_there Q R g None h f = absurd h
from_there Q R g (Some k) h f = f k refl h

pub at_there : (P : KeptChain → Type 0) (o : Option KeptChain) (k : KeptChain) → IsSomeAnd o P → o ≡ Some k → P k
at_there P o k h e = subst (λ (x : Option KeptChain). IsSomeAnd x P) e h

pub there_at : (P : KeptChain → Type 0) (o : Option KeptChain) (k : KeptChain) → P k → o ≡ Some k → IsSomeAnd o P
there_at P o k h e = subst (λ (x : Option KeptChain). IsSomeAnd x P) (sym e) h

module _ (m n : Memory) (id : ℕ) (g : KeptChain → KeptChain) (is : n.chains ≡ on_chain id g m.chains) (list : n.recency ≡ m.recency) (h : IsRecency m) where
  -- the list stays
  pub rule-on : ((k : KeptChain) → chain_at m id ≡ Some k → (j : ℕ) (at : Option Pos) → MayBeListed k.chain j at → MayBeListed (g k).chain j at)
      → ((k : KeptChain) → chain_at m id ≡ Some k → (j : ℕ) (at : Option Pos) → MustBeListed (g k).chain j at → Contains m.recency (member_at id j at)) → IsRecency n
  rule-on may must = rule-put m n id (option_map g (chain_at m id)) is (subst (AllPairs ◌≢◌) (sym list) h.once) (λ w ne on. subst (λ l. Contains l w) list on) (λ w ne on. subst (λ l. Contains l w) (sym list) on)
      (λ j at on. on_there (λ k. MayBeListed k.chain j at) (λ k. MayBeListed k.chain j at) g (chain_at m id) (h.members (member_at id j at) (subst (λ l. Contains l (member_at id j at)) list on)) (λ k e. may k e j at))
      (λ j at on. subst (λ l. Contains l (member_at id j at)) (sym list) (from_there (λ k. MustBeListed k.chain j at) (Contains m.recency (member_at id j at)) g (chain_at m id) on (λ k e. must k e j at)))
      h

  -- where kind, versions and update of the chain do, the rule is kept
  pub rule-alike : ((k : KeptChain) → ((g k).chain.kind ≡ k.chain.kind) × ((g k).chain.versions ≡ k.chain.versions) × ((g k).chain.updating ≡ k.chain.updating)) → IsRecency n
  rule-alike alike = rule-on
      (λ k e j at p. record {
        cached = (alike k).0 ∙ p.cached;
        version = p.version;
        number = subst (λ vs. IsVersionAt vs j p.version) (sym (alike k).1) p.number;
        object = p.object;
        settled = λ u. p.settled (sym (alike k).2 ∙ u.0, u.1 ∙ ap length (alike k).1);
      })
      (λ k e j at p. h.complete (member_at id j at) (there_at (λ x. MustBeListed x.chain j at) (chain_at m id) k (record {
        cached = sym (alike k).0 ∙ p.cached;
        version = p.version;
        number = subst (λ vs. IsVersionAt vs j p.version) (alike k).1 p.number;
        object = p.object;
        inner = p.inner;
        passed = λ u. p.passed ((alike k).2 ∙ u.0, u.1 ∙ ap length (sym (alike k).1));
      }) e))

  -- of a chain that is no cache chain nothing is listed, whatever becomes of it
  pub rule-uncached : ((k : KeptChain) → chain_at m id ≡ Some k → (k.chain.kind ≢ Cache) × ((g k).chain.kind ≡ k.chain.kind)) → IsRecency n
  rule-uncached beside = rule-on (λ k e j at p. absurd ((beside k e).0 p.cached)) (λ k e j at p. absurd ((beside k e).0 (sym (beside k e).1 ∙ p.cached)))

  -- a version of its end dummy alone over the others of a chain that was not under update, as it is then or not
  pub rule-more : (flag : Flag) (pt : Option Tomb) (phase : ℕ)
      → ((k : KeptChain) → chain_at m id ≡ Some k → ((g k).chain.kind ≡ k.chain.kind) × ((g k).chain.versions ≡ k.chain.versions ++ (version_of flag pt phase ∷ [])) × (k.chain.updating ≡ false)) → IsRecency n
  rule-more flag pt phase made = rule-on
      (λ k e j at p. record {
        cached = (made k e).0 ∙ p.cached;
        version = p.version;
        number = subst (λ vs. IsVersionAt vs j p.version) (sym (made k e).1) (still-at k.chain.versions (version_of flag pt phase ∷ []) j p.version p.number);
        object = p.object;
        settled = λ u. absurd (let long : length (g k).chain.versions ≡ length (k.chain.versions ++ (version_of flag pt phase ∷ [])) = ap length (made k e).1 in
            omega (arith, u.1, long, length-append k.chain.versions (version_of flag pt phase ∷ []), number-low k.chain.versions j p.version p.number));
      })
      (λ k e j at p. let number : IsVersionAt (k.chain.versions ++ (version_of flag pt phase ∷ [])) j p.version = subst (λ vs. IsVersionAt vs j p.version) (made k e).1 p.number in
      elim (pushed-at k.chain.versions (version_of flag pt phase) j p.version number.older number.newer number.split number.number) [
        | inl before ↦ h.complete (member_at id j at) (there_at (λ x. MustBeListed x.chain j at) (chain_at m id) k (record {
          cached = sym (made k e).0 ∙ p.cached;
          version = p.version;
          number = before;
          object = p.object;
          inner = p.inner;
          passed = λ u. absurd (let clash : false ≡ true = sym (made k e).2 ∙ u.0 in cc);
        }) e)
        | inr this ↦ absurd (only_end at (subst (λ v. HasObject v at) (sym this) p.object) p.inner)
      ])
    where
      only_end : (at : Option Pos) → HasObject (version_of flag pt phase) at → at ≢ Some end_position → ⊥
      only_end None object inner = cc object
      only_end (Some x) (inl same) inner = inner (ap (λ y. Some y) (sym same))
      only_end (Some x) (inr none) inner = none

-- ---- the list changed, and no chain

module _ (m n : Memory) (is : n.chains ≡ m.chains) (h : IsRecency m) where
  same_chain : (w : Member) → chain_at n w.chain ≡ chain_at m w.chain
  same_chain w = ap (λ cs. slice_index_or cs w.chain None) is

  with_list : AllPairs ◌≢◌ n.recency → ((w : Member) → Contains n.recency w → IsSomeAnd (chain_at m w.chain) (λ k. MayBeListed k.chain w.version w.position))
      → ((w : Member) → IsSomeAnd (chain_at m w.chain) (λ k. MustBeListed k.chain w.version w.position) → Contains n.recency w) → IsRecency n
  with_list once members complete = record {
    once = once;
    members = λ w on. subst (λ (o : Option KeptChain). IsSomeAnd o (λ k. MayBeListed k.chain w.version w.position)) (sym (same_chain w)) (members w on);
    complete = λ w must. complete w (subst (λ (o : Option KeptChain). IsSomeAnd o (λ k. MustBeListed k.chain w.version w.position)) (same_chain w) must);
  }

  pub rule-same : n.recency ≡ m.recency → IsRecency n
  rule-same list = with_list (subst (AllPairs ◌≢◌) (sym list) h.once) (λ w on. h.members w (subst (λ l. Contains l w) list on)) (λ w must. subst (λ l. Contains l w) (sym list) (h.complete w must))

  pub rule-pushed : (w : Member) → n.recency ≡ m.recency ++ (w ∷ []) → (Contains m.recency w → ⊥) → IsSomeAnd (chain_at m w.chain) (λ k. MayBeListed k.chain w.version w.position) → IsRecency n
  rule-pushed w list off may = with_list
      (subst (AllPairs ◌≢◌) (sym list) (once-with m.recency [] w (λ on. off (subst (λ l. Contains l w) (append-nil m.recency) on)) (subst (AllPairs ◌≢◌) (sym (append-nil m.recency)) h.once)))
      (λ x on. elim (elem-pushed m.recency w x (subst (λ l. Contains l x) list on)) [
        | inl before ↦ h.members x before
        | inr this ↦ subst (λ (y : Member). IsSomeAnd (chain_at m y.chain) (λ k. MayBeListed k.chain y.version y.position)) this may
      ])
      (λ x must. subst (λ l. Contains l x) (sym list) (elem-left m.recency (w ∷ []) x (h.complete x must)))

  module _ (front : List Member) (w : Member) (back : List Member) (was : m.recency ≡ front ++ (w ∷ back)) where
    once_was : AllPairs ◌≢◌ (front ++ (w ∷ back))
    once_was = subst (AllPairs ◌≢◌) was h.once

    pub rule-taken : n.recency ≡ front ++ back → (IsSomeAnd (chain_at m w.chain) (λ k. MustBeListed k.chain w.version w.position) → ⊥) → IsRecency n
    rule-taken list free = with_list (subst (AllPairs ◌≢◌) (sym list) (once-without front back w once_was))
        (λ x on. h.members x (subst (λ l. Contains l x) (sym was) (elem-still front back w x (subst (λ l. Contains l x) list on))))
        (λ x must. subst (λ l. Contains l x) (sym list) (elim (elem-replaced front back w x (subst (λ l. Contains l x) was (h.complete x must))) [
          | inl this ↦ absurd (free (subst (λ (y : Member). IsSomeAnd (chain_at m y.chain) (λ k. MustBeListed k.chain y.version y.position)) (sym this) must))
          | inr beside ↦ beside
        ]))

    pub rule-touched : n.recency ≡ (front ++ back) ++ (w ∷ []) → IsRecency n
    rule-touched list = with_list
        (subst (AllPairs ◌≢◌) (sym list) (once-with (front ++ back) [] w (λ on. once-beside front back w once_was (subst (λ l. Contains l w) (append-nil (front ++ back)) on))
        (subst (AllPairs ◌≢◌) (sym (append-nil (front ++ back))) (once-without front back w once_was))))
        (λ x on. h.members x (subst (λ l. Contains l x) (sym was) (elim (elem-pushed (front ++ back) w x (subst (λ l. Contains l x) list on)) [
          | inl beside ↦ elem-still front back w x beside
          | inr this ↦ subst (Contains (front ++ (w ∷ back))) this (elem-here front back w)
        ])))
        (λ x must. subst (λ l. Contains l x) (sym list) (elim (elem-replaced front back w x (subst (λ l. Contains l x) was (h.complete x must))) [
          | inl this ↦ subst (Contains ((front ++ back) ++ (w ∷ []))) this (elem-here (front ++ back) [] w)
          | inr beside ↦ elem-left (front ++ back) (w ∷ []) x beside
        ]))

-- ---- a chain comes and goes

module _ (m n : Memory) (id : ℕ) (list : n.recency ≡ m.recency) (h : IsRecency m) where
  -- one of a version of its end dummy alone
  pub rule-new : (k : KeptChain) (flag : Flag) (pt : Option Tomb) (phase : ℕ) → n.chains ≡ put_at_number id (Some k) m.chains → chain_at m id ≡ None → k.chain.versions ≡ version_of flag pt phase ∷ [] → IsRecency n
  rule-new k flag pt phase is none made = rule-put m n id (Some k) is (subst (AllPairs ◌≢◌) (sym list) h.once) (λ w ne on. subst (λ l. Contains l w) list on) (λ w ne on. subst (λ l. Contains l w) (sym list) on)
      (λ j at on. absurd (never (λ x. MayBeListed x.chain j at) (chain_at m id) none (h.members (member_at id j at) (subst (λ l. Contains l (member_at id j at)) list on))))
      (λ j at must. absurd (let number : IsVersionAt (version_of flag pt phase ∷ []) j must.version = subst (λ vs. IsVersionAt vs j must.version) made must.number in
      elim (pushed-at [] (version_of flag pt phase) j must.version number.older number.newer number.split number.number) [
        | inl before ↦ no-version [] j must.version refl before
        | inr this ↦ only_end at (subst (λ v. HasObject v at) (sym this) must.object) must.inner
      ]))
      h
    where
      never : (P : KeptChain → Type 0) (o : Option KeptChain) → o ≡ None → IsSomeAnd o P → ⊥
      never P o e p = subst (λ (x : Option KeptChain). IsSomeAnd x P) e p

      only_end : (at : Option Pos) → HasObject (version_of flag pt phase) at → at ≢ Some end_position → ⊥
      only_end None object inner = cc object
      only_end (Some x) (inl same) inner = inner (ap (λ y. Some y) (sym same))
      only_end (Some x) (inr none_there) inner = none_there

  -- one that has no listed object is gone
  pub rule-gone : n.chains ≡ put_at_number id None m.chains → ((j : ℕ) (at : Option Pos) → Contains m.recency (member_at id j at) → ⊥) → IsRecency n
  rule-gone is free = rule-put m n id None is (subst (AllPairs ◌≢◌) (sym list) h.once) (λ w ne on. subst (λ l. Contains l w) list on) (λ w ne on. subst (λ l. Contains l w) (sym list) on)
      (λ j at on. absurd (free j at (subst (λ l. Contains l (member_at id j at)) list on))) (λ j at must. absurd must) h

-- ---- a version changed, and the list at its places

pub on-is : (vs : List Version) (j : ℕ) (v : Version) (f : Version → Version) (h : IsVersionAt vs j v) → on_version j f vs ≡ h.older ++ (f v ∷ h.newer)
on-is vs j v f h = (λ i. on_version (sym h.number i) f (h.split i)) ∙ version-at h.older v h.newer f

module _ (vs : List Version) (j : ℕ) (v : Version) (f : Version → Version) (h : IsVersionAt vs j v) where
  pub on-at : IsVersionAt (on_version j f vs) j (f v)
  on-at = record { older = h.older; newer = h.newer; split = on-is vs j v f h; number = h.number }

  pub on-beside : (i : ℕ) (x : Version) → i ≢ j → IsVersionAt vs i x → IsVersionAt (on_version j f vs) i x
  on-beside i x ne k = subst (λ l. IsVersionAt l i x) (sym (on-is vs j v f h)) (beside-at h.older h.newer v (f v) i x k.older k.newer (sym h.split ∙ k.split) k.number (λ e. ne (e ∙ h.number)))

  pub beside-on : (i : ℕ) (x : Version) → i ≢ j → IsVersionAt (on_version j f vs) i x → IsVersionAt vs i x
  beside-on i x ne k = subst (λ l. IsVersionAt l i x) (sym h.split) (beside-at h.older h.newer (f v) v i x k.older k.newer (sym (on-is vs j v f h) ∙ k.split) k.number (λ e. ne (e ∙ h.number)))

module _ (m n : Memory) (id j : ℕ) (f : Version → Version) (k : KeptChain) (v : Version) (there : chain_at m id ≡ Some k) (number : IsVersionAt k.chain.versions j v) (is : n.chains ≡ on_chain id (on_shown (on_version_of j f)) m.chains) (h : IsRecency m) where
  -- it is enough to say of that version which of its objects are listed
  pub rule-version : AllPairs ◌≢◌ n.recency → ((w : Member) → (w.chain ≡ id → w.version ≡ j → ⊥) → Contains n.recency w → Contains m.recency w) → ((w : Member) → (w.chain ≡ id → w.version ≡ j → ⊥) → Contains m.recency w → Contains n.recency w)
      → ((at : Option Pos) → Contains n.recency (member_at id j at) → (k.chain.kind ≡ Cache) × HasObject (f v) at × (IsUnderUpdate k.chain j → at ≢ Some end_position))
      → ((at : Option Pos) → k.chain.kind ≡ Cache → HasObject (f v) at → at ≢ Some end_position → (IsUnderUpdate k.chain j → IsLastInner (f v) at → ⊥) → Contains n.recency (member_at id j at)) → IsRecency n
  rule-version once fewer more may must = rule-put m n id (Some (on_shown (on_version_of j f) k)) (is ∙ ap (λ o. put_at_number id (option_map (on_shown (on_version_of j f)) o) m.chains) there) once
      (λ w ne on. fewer w (λ e s. ne e) on) (λ w ne on. more w (λ e s. ne e) on)
      (λ i at on. elim (decided i j) [
        | inl e ↦ let here = may at (subst (λ x. Contains n.recency (member_at id x at)) e on) in record {
          cached = here.0;
          version = f v;
          number = subst (λ x. IsVersionAt (on_version j f k.chain.versions) x (f v)) (sym e) (on-at k.chain.versions j v f number);
          object = here.1;
          settled = λ u. here.2 (u.0, ap suc (sym e) ∙ u.1 ∙ length-on j f k.chain.versions);
        }
        | inr ne ↦ let p = at_there (λ x. MayBeListed x.chain i at) (chain_at m id) k (h.members (member_at id i at) (fewer (member_at id i at) (λ e s. ne s) on)) there in record {
          cached = p.cached;
          version = p.version;
          number = on-beside k.chain.versions j v f number i p.version ne p.number;
          object = p.object;
          settled = λ u. p.settled (u.0, u.1 ∙ length-on j f k.chain.versions);
        }
      ])
      (λ i at p. elim (decided i j) [
        | inl e ↦
            let version : p.version ≡ f v = one-at (on_version j f k.chain.versions) j p.version (f v) (subst (λ x. IsVersionAt (on_version j f k.chain.versions) x p.version) e p.number) (on-at k.chain.versions j v f number) in
            subst (λ x. Contains n.recency (member_at id x at)) (sym e) (must at p.cached (subst (λ x. HasObject x at) version p.object) p.inner
            (λ u last. p.passed (u.0, ap suc e ∙ u.1 ∙ sym (length-on j f k.chain.versions)) (subst (λ x. IsLastInner x at) (sym version) last)))
        | inr ne ↦ more (member_at id i at) (λ e s. ne s) (h.complete (member_at id i at) (there_at (λ x. MustBeListed x.chain i at) (chain_at m id) k (record {
          cached = p.cached;
          version = p.version;
          number = beside-on k.chain.versions j v f number i p.version ne p.number;
          object = p.object;
          inner = p.inner;
          passed = λ u. p.passed (u.0, u.1 ∙ sym (length-on j f k.chain.versions));
        }) there))
      ])
      h
