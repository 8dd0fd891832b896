-- The recency list keeps its rule where a version gets or loses an object, an update ends, and a version is dropped.
use Rattle.std.proofs.Common.{◌≡◌, ◌≢◌, ◌⊎◌, ℕ, Bool, true, false, List, [], ◌∷◌, ◌++◌, Option, Some, None, inl, inr, refl, sym, ap, ◌∙◌, subst}
use Rattle.std.specs.Prelude.{AllPairs, Contains, IsTrue}
use Rattle.std.specs.Ordering.{eq_by_cmp}
use Rattle.std.proofs.lemmas.List.{append-nil}
use Rattle.lsa_pool.specs.laws.Usages.{decided}
use Rattle.rc_position.specs.declared.positions.Pos.{Pos}
use Rattle.rc_position.specs.Position.{pos_cmp}
use Rattle.rc_position.specs.laws.Orders.{eq_by_cmp-same, pos_cmp_same, pos_cmp_total}
use Rattle.rc_registry.specs.ChainKind.TheVariants.{Cache}
use Rattle.rc_registry.specs.Version.{Version, end_position}
use Rattle.rc_partition.specs.laws.Lists.{elem-cases, elem-first, elem-later, elem-left, elem-none, elem-pushed, elem-here, elem-replaced, elem-still, once-beside, once-with, once-without}
use Rattle.rc_memory.specs.Memory.{KeptChain, Member, Memory, IsVersionAt, chain_at, on_chain, on_shown, on_version_of}
use Rattle.rc_memory.specs.Recency.{HasObject, IsLastInner, IsRecency, IsUnderUpdate, MayBeListed, MustBeListed}
use Rattle.rc_memory.specs.Changes.{member_at}
use Rattle.rc_memory.specs.laws.Listed.{one-at}
use Rattle.rc_memory.specs.laws.Recent.{at_there, rule-on, rule-version, there_at}

-- ---- whether a place is in the list

pub pos_decided : (x y : Pos) → (x ≡ y) ⊎ (x ≢ y)
pos_decided x y = told (eq_by_cmp pos_cmp x y) refl
  where
    told : (b : Bool) → b ≡ eq_by_cmp pos_cmp x y → (x ≡ y) ⊎ (x ≢ y)
    told true e = inl ((eq_by_cmp-same pos_cmp_total pos_cmp_same x y true e).0 refl)
    told false e = inr (λ same. let t : IsTrue false = (eq_by_cmp-same pos_cmp_total pos_cmp_same x y false e).1 same in cc t)

pub at_decided : (p q : Option Pos) → (p ≡ q) ⊎ (p ≢ q)
at_decided None None = inl refl
at_decided None (Some y) = inr (λ e. cc e)
at_decided (Some x) None = inr (λ e. cc e)
at_decided (Some x) (Some y) = elim (pos_decided x y) [ inl e ↦ inl (ap (λ z. Some z) e) | inr ne ↦ inr (λ e. ne (cc e)) ]

member_decided : (w x : Member) → (w ≡ x) ⊎ (w ≢ x)
member_decided w x = elim (decided w.chain x.chain) [
  | inr ne ↦ inr (λ e. ne (ap (λ (y : Member). y.chain) e))
  | inl a ↦ elim (decided w.version x.version) [
    | inr ne ↦ inr (λ e. ne (ap (λ (y : Member). y.version) e))
    | inl b ↦ elim (at_decided w.position x.position) [
      | inr ne ↦ inr (λ e. ne (ap (λ (y : Member). y.position) e))
      | inl c ↦ inl (λ i. record { chain = a i; version = b i; position = c i })
    ]
  ]
]

pub listed-decided : (ws : List Member) (w : Member) → Contains ws w ⊎ (Contains ws w → ⊥)
listed-decided [] w = inr (elem-none w)
listed-decided (x ∷ ws) w = elim (member_decided x w) [
  | inl same ↦ inl (subst (λ y. Contains (x ∷ ws) y) same (elem-first x ws))
  | inr ne ↦ elim (listed-decided ws w) [
    | inl later ↦ inl (elem-later x w ws later)
    | inr off ↦ inr (λ on. elim (elem-cases x w ws on) [ inl same ↦ ne same | inr later ↦ off later ])
  ]
]

-- ---- an update ends, or the chain is found no longer

module _ (m n : Memory) (id : ℕ) (g : KeptChain → KeptChain) (is : n.chains ≡ on_chain id g m.chains) (list : n.recency ≡ m.recency) (h : IsRecency m) where
  -- where the last entry before the end of what was under update is listed
  pub rule-settled : ((k : KeptChain) → ((g k).chain.kind ≡ k.chain.kind) × ((g k).chain.versions ≡ k.chain.versions) × ((g k).chain.updating ≡ false))
      → ((k : KeptChain) → chain_at m id ≡ Some k → (j : ℕ) (v : Version) (at : Option Pos) → IsUnderUpdate k.chain j → IsVersionAt k.chain.versions j v → IsLastInner v at → Contains m.recency (member_at id j at)) → IsRecency n
  rule-settled alike last = rule-on m n id g is list h
      (λ k e j at p. record {
        cached = (alike k).0 ∙ p.cached;
        version = p.version;
        number = subst (λ vs. IsVersionAt vs j p.version) (sym (alike k).1) p.number;
        object = p.object;
        settled = λ u. absurd (let clash : false ≡ true = sym (alike k).2 ∙ u.0 in cc);
      })
      (λ k e j at p. elim (listed-decided m.recency (member_at id j at)) [
        | inl on ↦ on
        | inr off ↦ h.complete (member_at id j at) (there_at (λ x. MustBeListed x.chain j at) (chain_at m id) k (record {
          cached = sym (alike k).0 ∙ p.cached;
          version = p.version;
          number = subst (λ vs. IsVersionAt vs j p.version) (alike k).1 p.number;
          object = p.object;
          inner = p.inner;
          passed = λ u l. off (last k e j p.version at u (subst (λ vs. IsVersionAt vs j p.version) (alike k).1 p.number) l);
        }) e)
      ])

-- ---- a version of a cache chain gets an object, or loses one

module _ (m n : Memory) (id j : ℕ) (f : Version → Version) (k : KeptChain) (v : Version) (there : chain_at m id ≡ Some k) (number : IsVersionAt k.chain.versions j v) (is : n.chains ≡ on_chain id (on_shown (on_version_of j f)) m.chains) (h : IsRecency m) (cached : k.chain.kind ≡ Cache) where
  -- what is listed of it, and what must be
  pub may_at : (at : Option Pos) → Contains m.recency (member_at id j at) → HasObject v at × (IsUnderUpdate k.chain j → at ≢ Some end_position)
  may_at at on = let p = at_there (λ x. MayBeListed x.chain j at) (chain_at m id) k (h.members (member_at id j at) on) there in
      (subst (λ x. HasObject x at) (one-at k.chain.versions j p.version v p.number number) p.object, p.settled)

  pub must_at : (at : Option Pos) → HasObject v at → at ≢ Some end_position → (IsUnderUpdate k.chain j → IsLastInner v at → ⊥) → Contains m.recency (member_at id j at)
  must_at at object inner passed = h.complete (member_at id j at) (there_at (λ x. MustBeListed x.chain j at) (chain_at m id) k (record { cached = cached; version = v; number = number; object = object; inner = inner; passed = passed }) there)

  -- the last entry before the end of a version under update is that still, or is listed
  abbrev pub LastStays : Type 0
  LastStays = IsUnderUpdate k.chain j → (at : Option Pos) → IsLastInner v at → IsLastInner (f v) at ⊎ Contains m.recency (member_at id j at)

  pub stays_listed : LastStays → (at : Option Pos) → HasObject v at → at ≢ Some end_position → (IsUnderUpdate k.chain j → IsLastInner (f v) at → ⊥) → Contains m.recency (member_at id j at)
  stays_listed last at object inner free = elim (listed-decided m.recency (member_at id j at)) [
    | inl on ↦ on
    | inr off ↦ must_at at object inner (λ u l. elim (last u at l) [ inl still ↦ free u still | inr on ↦ off on ])
  ]

  -- the same objects
  pub rule-objects : n.recency ≡ m.recency → ((at : Option Pos) → HasObject v at → HasObject (f v) at) → ((at : Option Pos) → HasObject (f v) at → HasObject v at) → LastStays → IsRecency n
  rule-objects list keeps only last = rule-version m n id j f k v there number is h (subst (AllPairs ◌≢◌) (sym list) h.once) (λ w ne on. subst (λ l. Contains l w) list on) (λ w ne on. subst (λ l. Contains l w) (sym list) on)
      (λ at on. let p = may_at at (subst (λ l. Contains l (member_at id j at)) list on) in (cached, keeps at p.0, p.1))
      (λ at kind object inner free. subst (λ l. Contains l (member_at id j at)) (sym list) (stays_listed last at (only at object) inner free))

  -- one more, pushed at the end
  pub rule-made : (x : Option Pos) → n.recency ≡ m.recency ++ (member_at id j x ∷ []) → ((at : Option Pos) → HasObject v at → HasObject (f v) at) → ((at : Option Pos) → HasObject (f v) at → HasObject v at ⊎ (at ≡ x))
      → HasObject (f v) x → (HasObject v x → ⊥) → x ≢ Some end_position → LastStays → IsRecency n
  rule-made x list keeps only here fresh inner last = rule-version m n id j f k v there number is h
      (subst (AllPairs ◌≢◌) (sym list) (once-with m.recency [] (member_at id j x) (λ on. fresh (may_at x (subst (λ l. Contains l (member_at id j x)) (append-nil m.recency) on)).0) (subst (AllPairs ◌≢◌) (sym (append-nil m.recency)) h.once)))
      (λ w ne on. elim (elem-pushed m.recency (member_at id j x) w (subst (λ l. Contains l w) list on)) [
        | inl before ↦ before
        | inr this ↦ absurd (ne (sym (ap (λ (y : Member). y.chain) this)) (sym (ap (λ (y : Member). y.version) this)))
      ])
      (λ w ne on. subst (λ l. Contains l w) (sym list) (elem-left m.recency (member_at id j x ∷ []) w on))
      (λ at on. elim (elem-pushed m.recency (member_at id j x) (member_at id j at) (subst (λ l. Contains l (member_at id j at)) list on)) [
        | inl before ↦ let p = may_at at before in (cached, keeps at p.0, p.1)
        | inr this ↦ let same : x ≡ at = ap (λ (y : Member). y.position) this in (cached, subst (HasObject (f v)) same here, λ u e. inner (same ∙ e))
      ])
      (λ at kind object in_at free. subst (λ l. Contains l (member_at id j at)) (sym list) (elim (only at object) [
        | inl old ↦ elem-left m.recency (member_at id j x ∷ []) (member_at id j at) (stays_listed last at old in_at free)
        | inr this ↦ subst (λ y. Contains (m.recency ++ (member_at id j x ∷ [])) (member_at id j y)) (sym this) (elem-here m.recency [] (member_at id j x))
      ]))

  -- one less, taken out
  pub rule-lost : (x : Option Pos) (front back : List Member) → m.recency ≡ front ++ (member_at id j x ∷ back) → n.recency ≡ front ++ back → ((at : Option Pos) → at ≢ x → HasObject v at → HasObject (f v) at) → ((at : Option Pos) → HasObject (f v) at → HasObject v at × (at ≢ x))
      → LastStays → IsRecency n
  rule-lost x front back was list keeps only last = rule-version m n id j f k v there number is h
      (subst (AllPairs ◌≢◌) (sym list) (once-without front back (member_at id j x) (subst (AllPairs ◌≢◌) was h.once)))
      (λ w ne on. subst (λ l. Contains l w) (sym was) (elem-still front back (member_at id j x) w (subst (λ l. Contains l w) list on)))
      (λ w ne on. subst (λ l. Contains l w) (sym list) (beside w (λ e. ne (sym (ap (λ (y : Member). y.chain) e)) (sym (ap (λ (y : Member). y.version) e))) on))
      (λ at on. let there_was : Contains (front ++ back) (member_at id j at) = subst (λ l. Contains l (member_at id j at)) list on in
      let p = may_at at (subst (λ l. Contains l (member_at id j at)) (sym was) (elem-still front back (member_at id j x) (member_at id j at) there_was)) in
      (cached, keeps at (λ e. once-beside front back (member_at id j x) (subst (AllPairs ◌≢◌) was h.once) (subst (λ y. Contains (front ++ back) (member_at id j y)) e there_was)) p.0, p.1))
      (λ at kind object inner free. let o = only at object in
      subst (λ l. Contains l (member_at id j at)) (sym list) (beside (member_at id j at) (λ e. o.1 (sym (ap (λ (y : Member). y.position) e))) (stays_listed last at o.0 inner free)))
    where
      beside : (w : Member) → member_at id j x ≢ w → Contains m.recency w → Contains (front ++ back) w
      beside w ne on = elim (elem-replaced front back (member_at id j x) w (subst (λ l. Contains l w) was on)) [ inl this ↦ absurd (ne this) | inr other ↦ other ]
