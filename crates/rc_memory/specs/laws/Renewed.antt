-- The recency list keeps its rule where an object of a version is made anew, where one is gone, and where all are as they were.
use Rattle.std.proofs.Common.{◌≡◌, ◌≢◌, ◌⊎◌, ℕ, List, [], ◌∷◌, ◌++◌, Option, Some, inl, inr, refl, sym, ap, ◌∙◌, subst}
use Rattle.std.specs.Prelude.{AllPairs, Contains}
use Rattle.std.proofs.lemmas.List.{append-nil}
use Rattle.rc_position.specs.declared.positions.Pos.{Pos}
use Rattle.rc_registry.specs.ChainKind.TheVariants.{Cache, Memtable}
use Rattle.rc_registry.specs.Version.{Version, end_position}
use Rattle.rc_partition.specs.laws.Lists.{elem-here, elem-left, elem-pushed, elem-replaced, elem-still, once-beside, once-with, once-without}
use Rattle.rc_memory.specs.Memory.{KeptChain, Member, Memory, IsVersionAt, chain_at, on_chain, on_shown, on_version_of}
use Rattle.rc_memory.specs.Recency.{HasObject, IsLastInner, IsRecency, IsUnderUpdate, MayBeListed}
use Rattle.rc_memory.specs.Changes.{IsRenewed, IsWithout, member_at}
use Rattle.rc_memory.specs.laws.Listing.{at_decided, listed-decided, may_at, must_at, rule-objects, stays_listed}
use Rattle.rc_memory.specs.laws.Places.{same_some}
use Rattle.rc_memory.specs.laws.Recent.{at_there, rule-uncached, rule-version}

-- ---- a list without a place

module _ (w : Member) (old new : List Member) (out : IsWithout w old new) where
  pub without-old : (x : Member) → Contains new x → Contains old x
  without-old x on = elim out [
    | inl same ↦ subst (λ l. Contains l x) same.1 on
    | inr split ↦ subst (λ l. Contains l x) (sym split.2) (elem-still split.0 split.1 w x (subst (λ l. Contains l x) split.3 on))
  ]

  pub without-still : (x : Member) → w ≢ x → Contains old x → Contains new x
  without-still x ne on = elim out [
    | inl same ↦ subst (λ l. Contains l x) (sym same.1) on
    | inr split ↦ elim (elem-replaced split.0 split.1 w x (subst (λ l. Contains l x) split.2 on)) [ inl this ↦ absurd (ne this) | inr beside ↦ subst (λ l. Contains l x) (sym split.3) beside ]
  ]

  module _ (once : AllPairs ◌≢◌ old) where
    pub without-once : AllPairs ◌≢◌ new
    without-once = elim out [
      | inl same ↦ subst (AllPairs ◌≢◌) (sym same.1) once
      | inr split ↦ subst (AllPairs ◌≢◌) (sym split.3) (once-without split.0 split.1 w (subst (AllPairs ◌≢◌) split.2 once))
    ]

    pub without-off : Contains new w → ⊥
    without-off on = elim out [
      | inl same ↦ same.0 (subst (λ l. Contains l w) same.1 on)
      | inr split ↦ once-beside split.0 split.1 w (subst (AllPairs ◌≢◌) split.2 once) (subst (λ l. Contains l w) split.3 on)
    ]

-- ---- a version changed

module _ (m n : Memory) (id j : ℕ) (f : Version → Version) (k : KeptChain) (v : Version) (there : chain_at m id ≡ Some k) (number : IsVersionAt k.chain.versions j v) (is : n.chains ≡ on_chain id (on_shown (on_version_of j f)) m.chains) (h : IsRecency m) where
  -- of a memtable nothing is listed
  uncached : k.chain.kind ≡ Memtable → n.recency ≡ m.recency → IsRecency n
  uncached kind list = rule-uncached m n id (on_shown (on_version_of j f)) is list h
      (λ q e. ((λ c. let clash : Memtable ≡ Cache = sym kind ∙ ap (λ (x : KeptChain). x.chain.kind) (sym (same_some q k (sym e ∙ there))) ∙ c in cc), refl))

  -- all objects are as they were
  pub rule-kept : n.recency ≡ m.recency → ((at : Option Pos) → HasObject v at → HasObject (f v) at) → ((at : Option Pos) → HasObject (f v) at → HasObject v at)
      → (IsUnderUpdate k.chain j → (at : Option Pos) → IsLastInner v at → IsLastInner (f v) at ⊎ Contains m.recency (member_at id j at)) → IsRecency n
  rule-kept list keeps only last = elim k.chain.kind as (λ c. k.chain.kind ≡ c → IsRecency n) [
    | Cache ↦ λ cached. rule-objects m n id j f k v there number is h cached list keeps only last
    | Memtable ↦ λ kind. uncached kind list
  ] refl

  module _ (x : Option Pos) where
    renewed_cached : k.chain.kind ≡ Cache → IsRenewed Cache (member_at id j x) m.recency n.recency → ((at : Option Pos) → HasObject v at → HasObject (f v) at) → ((at : Option Pos) → HasObject (f v) at → HasObject v at ⊎ (at ≡ x)) → HasObject (f v) x → x ≢ Some end_position
        → (IsUnderUpdate k.chain j → (at : Option Pos) → IsLastInner v at → IsLastInner (f v) at ⊎ Contains m.recency (member_at id j at)) → IsRecency n
    renewed_cached cached (rest, out, list) keeps only here inner last = rule-version m n id j f k v there number is h
        (subst (AllPairs ◌≢◌) (sym list) (once-with rest [] (member_at id j x) (λ on. without-off (member_at id j x) m.recency rest out h.once (subst (λ l. Contains l (member_at id j x)) (append-nil rest) on))
        (subst (AllPairs ◌≢◌) (sym (append-nil rest)) (without-once (member_at id j x) m.recency rest out h.once))))
        (λ w ne on. elim (elem-pushed rest (member_at id j x) w (subst (λ l. Contains l w) list on)) [
          | inl before ↦ without-old (member_at id j x) m.recency rest out w before
          | inr this ↦ absurd (ne (sym (ap (λ (y : Member). y.chain) this)) (sym (ap (λ (y : Member). y.version) this)))
        ])
        (λ w ne on. subst (λ l. Contains l w) (sym list) (elem-left rest (member_at id j x ∷ []) w (without-still (member_at id j x) m.recency rest out w (λ e. ne (sym (ap (λ (y : Member). y.chain) e)) (sym (ap (λ (y : Member). y.version) e))) on)))
        (λ at on. elim (elem-pushed rest (member_at id j x) (member_at id j at) (subst (λ l. Contains l (member_at id j at)) list on)) [
          | inl before ↦ let p = may_at m n id j f k v there number is h cached at (without-old (member_at id j x) m.recency rest out (member_at id j at) before) in (cached, keeps at p.0, p.1)
          | inr this ↦ let same : x ≡ at = ap (λ (y : Member). y.position) this in (cached, subst (HasObject (f v)) same here, λ u e. inner (same ∙ e))
        ])
        (λ at kind object in_at free. subst (λ l. Contains l (member_at id j at)) (sym list) (elim (at_decided at x) [
          | inl this ↦ subst (λ y. Contains (rest ++ (member_at id j x ∷ [])) (member_at id j y)) (sym this) (elem-here rest [] (member_at id j x))
          | inr ne ↦ elim (only at object) [
            | inl old ↦ elem-left rest (member_at id j x ∷ []) (member_at id j at) (without-still (member_at id j x) m.recency rest out (member_at id j at) (λ e. ne (sym (ap (λ (y : Member). y.position) e)))
                (stays_listed m n id j f k v there number is h cached last at old in_at free))
            | inr this ↦ absurd (ne this)
          ]
        ]))

    -- one is made anew, in the place of the one that was there, if there was one
    pub rule-renewed : IsRenewed k.chain.kind (member_at id j x) m.recency n.recency → ((at : Option Pos) → HasObject v at → HasObject (f v) at) → ((at : Option Pos) → HasObject (f v) at → HasObject v at ⊎ (at ≡ x)) → HasObject (f v) x → x ≢ Some end_position
        → (IsUnderUpdate k.chain j → (at : Option Pos) → IsLastInner v at → IsLastInner (f v) at ⊎ Contains m.recency (member_at id j at)) → IsRecency n
    rule-renewed renewed keeps only here inner last = elim k.chain.kind as (λ c. k.chain.kind ≡ c → IsRenewed c (member_at id j x) m.recency n.recency → IsRecency n) [
      | Cache ↦ λ cached new. renewed_cached cached new keeps only here inner last
      | Memtable ↦ λ kind same. uncached kind same
    ] refl renewed

    -- one is gone
    out_cached : k.chain.kind ≡ Cache → IsWithout (member_at id j x) m.recency n.recency → ((at : Option Pos) → at ≢ x → HasObject v at → HasObject (f v) at) → ((at : Option Pos) → HasObject (f v) at → HasObject v at × (at ≢ x))
        → (IsUnderUpdate k.chain j → (at : Option Pos) → at ≢ x → IsLastInner v at → IsLastInner (f v) at) → IsRecency n
    out_cached cached out keeps only last = rule-version m n id j f k v there number is h (without-once (member_at id j x) m.recency n.recency out h.once) (λ w ne on. without-old (member_at id j x) m.recency n.recency out w on)
        (λ w ne on. without-still (member_at id j x) m.recency n.recency out w (λ e. ne (sym (ap (λ (y : Member). y.chain) e)) (sym (ap (λ (y : Member). y.version) e))) on)
        (λ at on. let p = may_at m n id j f k v there number is h cached at (without-old (member_at id j x) m.recency n.recency out (member_at id j at) on) in
        (cached, keeps at (λ e. without-off (member_at id j x) m.recency n.recency out h.once (subst (λ y. Contains n.recency (member_at id j y)) e on)) p.0, p.1))
        (λ at kind object inner free. let o = only at object in
        without-still (member_at id j x) m.recency n.recency out (member_at id j at) (λ e. o.1 (sym (ap (λ (y : Member). y.position) e))) (elim (listed-decided m.recency (member_at id j at)) [
          | inl on ↦ on
          | inr off ↦ must_at m n id j f k v there number is h cached at o.0 inner (λ u l. free u (last u at o.1 l))
        ]))

    off_memtable : k.chain.kind ≡ Memtable → Contains m.recency (member_at id j x) → ⊥
    off_memtable kind on = let p = at_there (λ q. MayBeListed q.chain j x) (chain_at m id) k (h.members (member_at id j x) on) there in let clash : Memtable ≡ Cache = sym kind ∙ p.cached in cc

    pub rule-out : IsWithout (member_at id j x) m.recency n.recency → ((at : Option Pos) → at ≢ x → HasObject v at → HasObject (f v) at) → ((at : Option Pos) → HasObject (f v) at → HasObject v at × (at ≢ x))
        → (IsUnderUpdate k.chain j → (at : Option Pos) → at ≢ x → IsLastInner v at → IsLastInner (f v) at) → IsRecency n
    rule-out out keeps only last = elim k.chain.kind as (λ c. k.chain.kind ≡ c → IsRecency n) [
      | Cache ↦ λ cached. out_cached cached out keeps only last
      | Memtable ↦ λ kind. uncached kind (elim out [ inl same ↦ same.1 | inr split ↦ absurd (off_memtable kind (subst (λ l. Contains l (member_at id j x)) (sym split.2) (elem-here split.0 split.1 (member_at id j x)))) ])
    ] refl
