-- Trees that hang at ends, over any way in which ends name ends.
use Rattle.std.proofs.Common.{zero, suc, ◌≡◌, ◌≢◌, ℕ, [], ◌∷◌, ◌++◌, Option, Some, None, inl, inr, ◌⊎◌, refl, sym, ap, ◌∙◌, subst, map, ◌≤◌, arith}
use Rattle.std.specs.Option.{option_map}
use Rattle.std.specs.Prelude.{Contains}
use Rattle.std.proofs.lemmas.List.{map-append}
use Rattle.std.proofs.lemmas.List.Elements.{Contains-append_left, Contains-append_right, Contains-append_cases}
use Rattle.lsa_path.specs.Ref.{Ref}
use Rattle.lsa_path.specs.End.{End}
use Rattle.lsa_path.specs.End.TheVariants.{Obj}
use Rattle.lsa_path.specs.Paired.{WellPaired}
use Rattle.lsa_path.specs.laws.Paths.{same_field, same_object, same_some}
use Rattle.lsa_path.specs.laws.Members.{member-cases, member-later, member-here}
use Rattle.lsa_shape.specs.Shapes.{TreeShape, Leaf, Node, inorder, IsIn, HangsAt, IsOff, IsClearOf, shape_by}

-- ---- members

pub in-listed : (s : TreeShape) (z : Ref) → IsIn z s → Contains (inorder s) z
in-listed Leaf z h = absurd h
in-listed (Node l r t) z (inl same) = subst (Contains (inorder l ++ (r ∷ inorder t))) (sym same) (member-here (inorder l) (inorder t) r)
in-listed (Node l r t) z (inr (inl low)) = Contains-append_left (inorder l) (r ∷ inorder t) z (in-listed l z low)
in-listed (Node l r t) z (inr (inr high)) = Contains-append_right (inorder l) (r ∷ inorder t) z (member-later r z (inorder t) (in-listed t z high))

not_empty : (z : Ref) → Contains [] z → ⊥
not_empty z h = omega (arith, h.1)

pub listed-in : (s : TreeShape) (z : Ref) → Contains (inorder s) z → IsIn z s
listed-in Leaf z h = not_empty z h
listed-in (Node l r t) z h = elim (Contains-append_cases (inorder l) (r ∷ inorder t) z h) [
  | inl low ↦ inr (inl (listed-in l z low))
  | inr later ↦ elim (member-cases r z (inorder t) later) [ inl same ↦ inl (sym same) | inr high ↦ inr (inr (listed-in t z high)) ]
]

-- ---- ends off objects

field_off : (r z : Ref) (f : ℕ) → r ≢ z → IsOff (Obj r f) z
field_off r z f ne = ((λ e. ne (same_object r z f 2 e)), (λ e. ne (same_object r z f 3 e)), (λ e. ne (same_object r z f 4 e)))

pub field-off : (r z : Ref) (f : ℕ) → r ≢ z → IsOff (Obj r f) z
field-off = field_off

-- ---- the end by which an object is entered

-- it is that at which the tree hangs, or a link of another of its objects
abbrev pub IsDoor : End → End → TreeShape → Type 0
IsDoor d a s = (d ≡ a) ⊎ ((p : Ref) × IsIn p s × ((d ≡ Obj p 3) ⊎ (d ≡ Obj p 4)))

door_low : (l t : TreeShape) (r : Ref) (d a : End) → IsDoor d (Obj r 3) l → IsDoor d a (Node l r t)
door_low l t r d a (inl here) = inr (r, inl refl, inl here)
door_low l t r d a (inr w) = inr (w.0, inr (inl w.1), w.2)

door_high : (l t : TreeShape) (r : Ref) (d a : End) → IsDoor d (Obj r 4) t → IsDoor d a (Node l r t)
door_high l t r d a (inl here) = inr (r, inl refl, inr here)
door_high l t r d a (inr w) = inr (w.0, inr (inr w.1), w.2)

module _ (named : End → Option End) where
  pub entered-by : (a : End) (s : TreeShape) → HangsAt named a s → (z : Ref) → IsIn z s → (d : End) × (named d ≡ Some (Obj z 2)) × IsDoor d a s
  entered-by a Leaf h z i = absurd i
  entered-by a (Node l r t) h z (inl same) = (a, h.0 ∙ ap (λ q. Some (Obj q 2)) (sym same), inl refl)
  entered-by a (Node l r t) h z (inr (inl low)) = let w = entered-by (Obj r 3) l h.1 z low in (w.0, w.1, door_low l t r w.0 a w.2)
  entered-by a (Node l r t) h z (inr (inr high)) = let w = entered-by (Obj r 4) t h.2 z high in (w.0, w.1, door_high l t r w.0 a w.2)

  -- what a link of the tree names is nothing, or the link 2 of one of its objects
  pub names-in : (a : End) (s : TreeShape) → HangsAt named a s → (e : End) → named a ≡ Some e → (z : Ref) × IsIn z s × (e ≡ Obj z 2)
  names-in a Leaf h e is = let clash : None ≡ Some e = sym h ∙ is in cc
  names-in a (Node l r t) h e is = (r, inl refl, same_some e (Obj r 2) (sym is ∙ h.0))

  -- so of any of its links
  pub child-in : (a : End) (s : TreeShape) → HangsAt named a s → (r : Ref) (f : ℕ) → IsIn r s → 3 ≤ f → f ≤ 4 → (e : End) → named (Obj r f) ≡ Some e → (z : Ref) × IsIn z s × (e ≡ Obj z 2)
  child-in a Leaf h r f i low high e is = absurd i
  child-in a (Node l q t) h r zero (inl same) low high e is = absurd (omega (arith, low))
  child-in a (Node l q t) h r (suc zero) (inl same) low high e is = absurd (omega (arith, low))
  child-in a (Node l q t) h r (suc (suc zero)) (inl same) low high e is = absurd (omega (arith, low))
  child-in a (Node l q t) h r (suc (suc (suc zero))) (inl same) low high e is = let w = names-in (Obj q 3) l h.1 e (ap (λ x. named (Obj x 3)) (sym same) ∙ is) in (w.0, inr (inl w.1), w.2)
  child-in a (Node l q t) h r (suc (suc (suc (suc zero)))) (inl same) low high e is = let w = names-in (Obj q 4) t h.2 e (ap (λ x. named (Obj x 4)) (sym same) ∙ is) in (w.0, inr (inr w.1), w.2)
  child-in a (Node l q t) h r (suc (suc (suc (suc (suc f))))) (inl same) low high e is = absurd (omega (arith, high))
  child-in a (Node l q t) h r f (inr (inl i)) low high e is = let w = child-in (Obj q 3) l h.1 r f i low high e is in (w.0, inr (inl w.1), w.2)
  child-in a (Node l q t) h r f (inr (inr i)) low high e is = let w = child-in (Obj q 4) t h.2 r f i low high e is in (w.0, inr (inr w.1), w.2)

  -- the links determine the shape
  pub hangs-determined : (a : End) (s t : TreeShape) → HangsAt named a s → HangsAt named a t → s ≡ t
  hangs-determined a Leaf Leaf h k = refl
  hangs-determined a Leaf (Node l r t) h k = let clash : None ≡ Some (Obj r 2) = sym h ∙ k.0 in cc
  hangs-determined a (Node l r t) Leaf h k = let clash : None ≡ Some (Obj r 2) = sym k ∙ h.0 in cc
  hangs-determined a (Node l r t) (Node m q u) h k =
      let same : r ≡ q = same_object r q 2 2 (same_some (Obj r 2) (Obj q 2) (sym h.0 ∙ k.0)) in
      let low : l ≡ m = hangs-determined (Obj r 3) l m h.1 (subst (λ x. HangsAt named (Obj x 3) m) (sym same) k.1) in
      let high : t ≡ u = hangs-determined (Obj r 4) t u h.2 (subst (λ x. HangsAt named (Obj x 4) u) (sym same) k.2) in
      (λ i. Node (low i) (same i) (high i))

module _ (named : End → Option End) (well : WellPaired named) where
  -- what names a link of the tree is one of them, or the end at which it hangs
  pub names-none : (a : End) (s : TreeShape) → HangsAt named a s → (r : Ref) (f : ℕ) → IsIn r s → 2 ≤ f → f ≤ 4 → (e : End) → e ≢ a → ((z : Ref) → IsIn z s → IsOff e z) → named e ≢ Some (Obj r f)
  names-none a s h r zero i low high e ne off is = omega (arith, low)
  names-none a s h r (suc zero) i low high e ne off is = omega (arith, low)
  names-none a s h r (suc (suc zero)) i low high e ne off is =
      let w = entered-by named a s h r i in let same = same_some w.0 e (sym (well.mates w.0 (Obj r 2) w.1) ∙ well.mates e (Obj r 2) is) in
      elim w.2 [
        | inl at ↦ ne (sym same ∙ at)
        | inr p ↦ let o = off p.0 p.1 in elim p.2 [ inl lower ↦ o.1 (sym same ∙ lower) | inr upper ↦ o.2 (sym same ∙ upper) ]
      ]
  names-none a s h r (suc (suc (suc f))) i low high e ne off is = let w = child-in named a s h r (suc (suc (suc f))) i (omega arith) high e (well.mates e (Obj r (suc (suc (suc f)))) is) in (off w.0 w.1).0 w.2

  one_door : (d e : End) (z : Ref) → named d ≡ Some (Obj z 2) → named e ≡ Some (Obj z 2) → d ≡ e
  one_door d e z h k = same_some d e (sym (well.mates d (Obj z 2) h) ∙ well.mates e (Obj z 2) k)

  -- the object at an end is in no tree that hangs at another end, of which this one is no link
  pub root-apart : (a b : End) (r : Ref) (t : TreeShape) → a ≢ b → named a ≡ Some (Obj r 2) → HangsAt named b t → IsClearOf a t → IsIn r t → ⊥
  root-apart a b r t ne here h clear i =
      let w = entered-by named b t h r i in let same = one_door a w.0 r here w.1 in
      elim w.2 [
        | inl at ↦ ne (same ∙ at)
        | inr p ↦ elim p.2 [ inl low ↦ (clear p.0 p.1).1 (same ∙ low) | inr high ↦ (clear p.0 p.1).2 (same ∙ high) ]
      ]

  -- two trees that hang at two ends share no object
  pub hangs-apart : (a b : End) (s t : TreeShape) → a ≢ b → HangsAt named a s → HangsAt named b t → IsClearOf a t → IsClearOf b s → (z : Ref) → IsIn z s → IsIn z t → ⊥
  hangs-apart a b Leaf t ne h k clear clear' z i j = i
  hangs-apart a b (Node l r u) t ne h k clear clear' z i j =
      let away : IsIn r t → ⊥ = root-apart a b r t ne h.0 k clear in
      let off : (f : ℕ) → IsClearOf (Obj r f) t = λ f y in_t. field_off r y f (λ same. away (subst (λ x. IsIn x t) (sym same) in_t)) in
      elim i [
        | inl same ↦ away (subst (λ x. IsIn x t) same j)
        | inr (inl low) ↦ hangs-apart (Obj r 3) b l t (λ e. (clear' r (inl refl)).1 (sym e)) h.1 k (off 3) (λ y in_l. clear' y (inr (inl in_l))) z low j
        | inr (inr high) ↦ hangs-apart (Obj r 4) b u t (λ e. (clear' r (inl refl)).2 (sym e)) h.2 k (off 4) (λ y in_u. clear' y (inr (inr in_u))) z high j
      ]

  -- the parts of a tree have nothing in common
  module _ (a : End) (l t : TreeShape) (r : Ref) (h : HangsAt named a (Node l r t)) (clear : IsClearOf a (Node l r t)) where
    pub root-low : IsIn r l → ⊥
    root-low = root-apart a (Obj r 3) r l (clear r (inl refl)).1 h.0 h.1 (λ y i. clear y (inr (inl i)))

    pub root-high : IsIn r t → ⊥
    root-high = root-apart a (Obj r 4) r t (clear r (inl refl)).2 h.0 h.2 (λ y i. clear y (inr (inr i)))

    -- no link of the root is one of its parts'
    pub root-clear_low : (f : ℕ) → IsClearOf (Obj r f) l
    root-clear_low f y i = field_off r y f (λ same. root-low (subst (λ x. IsIn x l) (sym same) i))

    pub root-clear_high : (f : ℕ) → IsClearOf (Obj r f) t
    root-clear_high f y i = field_off r y f (λ same. root-high (subst (λ x. IsIn x t) (sym same) i))

    pub parts-apart : (z : Ref) → IsIn z l → IsIn z t → ⊥
    parts-apart = hangs-apart (Obj r 3) (Obj r 4) l t (λ e. let clash : ◌≡◌ {A = ℕ} 3 4 = same_field r r 3 4 e in cc) h.1 h.2 (root-clear_high 3) (root-clear_low 4)

-- ---- a tree after a change

-- a tree hangs at another end, where that one names what the first did and the links of its objects stay
pub hangs-moved : (old new : End → Option End) (a b : End) (s : TreeShape) → new b ≡ old a → ((z : Ref) → IsIn z s → (new (Obj z 3) ≡ old (Obj z 3)) × (new (Obj z 4) ≡ old (Obj z 4))) → HangsAt old a s → HangsAt new b s
hangs-moved old new a b Leaf here links h = here ∙ h
hangs-moved old new a b (Node l r t) here links h = (
  here ∙ h.0,
  hangs-moved old new (Obj r 3) (Obj r 3) l (links r (inl refl)).0 (λ z i. links z (inr (inl i))) h.1,
  hangs-moved old new (Obj r 4) (Obj r 4) t (links r (inl refl)).1 (λ z i. links z (inr (inr i))) h.2,
)

-- a tree under other names, where the ends that it goes by are renamed as its objects are
pub hangs-mapped : (old new : End → Option End) (ends : End → End) (refs : Ref → Ref) (a : End) (s : TreeShape) → ((z : Ref) → IsIn z s → (f : ℕ) → 2 ≤ f → f ≤ 4 → ends (Obj z f) ≡ Obj (refs z) f)
    → new (ends a) ≡ option_map ends (old a) → ((z : Ref) → IsIn z s → (f : ℕ) → 3 ≤ f → f ≤ 4 → new (ends (Obj z f)) ≡ option_map ends (old (Obj z f))) → HangsAt old a s → HangsAt new (ends a) (shape_by refs s)
hangs-mapped old new ends refs a Leaf as_refs here links h = here ∙ ap (option_map ends) h
hangs-mapped old new ends refs a (Node l r t) as_refs here links h =
    let at : (f : ℕ) → 2 ≤ f → f ≤ 4 → ends (Obj r f) ≡ Obj (refs r) f = as_refs r (inl refl) in (
      here ∙ ap (option_map ends) h.0 ∙ ap (λ e. Some e) (at 2 (omega arith) (omega arith)),
      subst (λ e. HangsAt new e (shape_by refs l)) (at 3 (omega arith) (omega arith)) (hangs-mapped old new ends refs (Obj r 3) l (λ z i. as_refs z (inr (inl i))) (links r (inl refl) 3 (omega arith) (omega arith)) (λ z i. links z (inr (inl i))) h.1),
      subst (λ e. HangsAt new e (shape_by refs t)) (at 4 (omega arith) (omega arith)) (hangs-mapped old new ends refs (Obj r 4) t (λ z i. as_refs z (inr (inr i))) (links r (inl refl) 4 (omega arith) (omega arith)) (λ z i. links z (inr (inr i))) h.2),
    )

pub inorder-by : (refs : Ref → Ref) (s : TreeShape) → inorder (shape_by refs s) ≡ map refs (inorder s)
inorder-by refs Leaf = refl
inorder-by refs (Node l r t) = (λ i. inorder-by refs l i ++ (refs r ∷ inorder-by refs t i)) ∙ sym (map-append refs (inorder l) (r ∷ inorder t))

-- the same names
pub shape-same : (refs : Ref → Ref) (s : TreeShape) → ((z : Ref) → IsIn z s → refs z ≡ z) → shape_by refs s ≡ s
shape-same refs Leaf same = refl
shape-same refs (Node l r t) same =
    let low = shape-same refs l (λ z i. same z (inr (inl i))) in let high = shape-same refs t (λ z i. same z (inr (inr i))) in let here = same r (inl refl) in (λ i. Node (low i) (here i) (high i))

-- an object of the renamed shape
pub in-by : (refs : Ref → Ref) (s : TreeShape) (z : Ref) → IsIn z (shape_by refs s) → (y : Ref) × IsIn y s × (refs y ≡ z)
in-by refs Leaf z i = absurd i
in-by refs (Node l r t) z (inl same) = (r, inl refl, sym same)
in-by refs (Node l r t) z (inr (inl low)) = let w = in-by refs l z low in (w.0, inr (inl w.1), w.2)
in-by refs (Node l r t) z (inr (inr high)) = let w = in-by refs t z high in (w.0, inr (inr w.1), w.2)

pub by-in : (refs : Ref → Ref) (s : TreeShape) (y : Ref) → IsIn y s → IsIn (refs y) (shape_by refs s)
by-in refs Leaf y i = absurd i
by-in refs (Node l r t) y (inl same) = inl (ap refs same)
by-in refs (Node l r t) y (inr (inl low)) = inr (inl (by-in refs l y low))
by-in refs (Node l r t) y (inr (inr high)) = inr (inr (by-in refs t y high))
