-- What links say of a tree that hangs, and that each object is in it once.
use Rattle.std.proofs.Common.{◌≡◌, ◌≢◌, ℕ, zero, suc, ◌≤◌, List, [], ◌∷◌, ◌++◌, length, Option, Some, cond, inl, inr, refl, sym, ap, ◌∙◌, subst, arith}
use Rattle.std.specs.Prelude.{Contains, AllPairs, nat_eq}
use Rattle.std.proofs.lemmas.List.Elements.{Contains-append_cases, Contains-get_or}
use Rattle.std.proofs.lemmas.List.Kept.{AllPairs-cons}
use Rattle.lsa_path.specs.Ref.{Ref}
use Rattle.lsa_path.specs.End.{End}
use Rattle.lsa_path.specs.End.TheVariants.{Obj}
use Rattle.lsa_path.specs.Paired.{WellPaired}
use Rattle.lsa_path.specs.Path.{entered_object}
use Rattle.lsa_path.specs.laws.Members.{member-cases, member-first, member-later, once-split}
use Rattle.lsa_shape.specs.declared.flank.Flank.{Flank}
use Rattle.lsa_shape.specs.declared.flank.Flank.TheVariants.{Low, High}
use Rattle.lsa_shape.specs.Flanks.{near_link}
use Rattle.lsa_shape.specs.Shapes.{TreeShape, Leaf, Node, inorder, HangsAt, IsClearOf}
use Rattle.lsa_shape.specs.Ways.{Fork, ForkAt, plug, hole}
use Rattle.lsa_shape.specs.calls.Levels.{shape_size}
use Rattle.lsa_shape.specs.Readings.{LeadsUp, way_objects}
use Rattle.lsa_shape.specs.laws.Readings.{tree_or_leaf, shape_at, one_more, steps_up}
use Rattle.lsa_shape.specs.laws.Hanging.{listed-in, root-low, root-high, parts-apart, root-clear_low, root-clear_high}
use Rattle.lsa_shape.specs.laws.Places.{HangsAround, hangs-around}

-- ---- the shape

enters : (r : Ref) → entered_object 2 (Some (Obj r 2)) ≡ Some r
enters r = refl

pub read-shape : (most : ℕ) (named : End → Option End) (a : End) (s : TreeShape) → shape_size s ≤ most → HangsAt named a s → shape_at most named a ≡ s
read-shape zero named a Leaf le h = refl
read-shape zero named a (Node l r t) le h = absurd (omega (arith, le))
read-shape (suc most) named a Leaf le h = ap (λ o. tree_or_leaf (λ r. Node (shape_at most named (Obj r 3)) r (shape_at most named (Obj r 4))) (entered_object 2 o)) h
read-shape (suc most) named a (Node l r t) le h =
    ap (λ o. tree_or_leaf (λ r. Node (shape_at most named (Obj r 3)) r (shape_at most named (Obj r 4))) (entered_object 2 o)) h.0
    ∙ (λ i. Node (read-shape most named (Obj r 3) l (omega (arith, le)) h.1 i) r (read-shape most named (Obj r 4) t (omega (arith, le)) h.2 i))

-- ---- the way up

near_not_two : (flank : Flank) → nat_eq (near_link flank) 2 ≡ nat_eq 3 2
near_not_two Low = refl
near_not_two High = refl

module _ (named : End → Option End) (well : WellPaired named) (v : Ref) where
  up_around : (most : ℕ) (way : List Fork) → length way ≤ most → HangsAround named (Obj v 2) way → steps_up most named (hole (Obj v 2) way) ≡ length way
  up_around zero [] le h = refl
  up_around (suc most) [] le h = refl
  up_around zero (fork ∷ way) le h = absurd (omega (arith, le))
  up_around (suc most) (ForkAt flank r beside ∷ way) le h =
      ap (λ b. cond b 0 (one_more (steps_up most named) (named (Obj r 2)))) (near_not_two flank)
      ∙ ap (one_more (steps_up most named)) (well.mates (hole (Obj v 2) way) (Obj r 2) h.0)
      ∙ ap (λ n. suc n) (up_around most way (omega (arith, le)) h.2)

  -- as many objects lead up from a place as its way has forks
  pub way-steps : (most : ℕ) (way : List Fork) (s : TreeShape) → length way ≤ most → HangsAt named (Obj v 2) (plug way s) → steps_up most named (hole (Obj v 2) way) ≡ length way
  way-steps most way s le h = up_around most way le (hangs-around named (Obj v 2) way s h).0

module _ (named : End → Option End) (well : WellPaired named) (start : End) where
  leads_around : (r : Ref) (way : List Fork) → named (hole start way) ≡ Some (Obj r 2) → HangsAround named start way → LeadsUp named start r (way_objects way)
  leads_around r [] here h = well.mates start (Obj r 2) here
  leads_around r (ForkAt Low q beside ∷ way) here h = (inl (well.mates (Obj q 3) (Obj r 2) here), leads_around q way h.0 h.2)
  leads_around r (ForkAt High q beside ∷ way) here h = (inr (well.mates (Obj q 4) (Obj r 2) here), leads_around q way h.0 h.2)

  -- the objects of the way lead up from the object at the place
  pub way-leads : (way : List Fork) (l t : TreeShape) (r : Ref) → HangsAt named start (plug way (Node l r t)) → LeadsUp named start r (way_objects way)
  way-leads way l t r h = let w = hangs-around named start way (Node l r t) h in leads_around r way w.1.0 w.0

pub objects-long : (way : List Fork) → length (way_objects way) ≡ length way
objects-long [] = refl
objects-long (ForkAt flank r beside ∷ way) = ap (λ n. suc n) (objects-long way)

-- ---- each once

once_tail : (x : Ref) (xs : List Ref) → AllPairs ◌≢◌ (x ∷ xs) → AllPairs ◌≢◌ xs
once_tail x xs h = λ i j d less within. h (suc i) (suc j) d (omega (arith, less)) (omega (arith, within))

pub once-append : (xs ys : List Ref) → AllPairs ◌≢◌ xs → AllPairs ◌≢◌ ys → ((z : Ref) → Contains xs z → Contains ys z → ⊥) → AllPairs ◌≢◌ (xs ++ ys)
once-append [] ys h k apart = k
once-append (x ∷ xs) ys h k apart = AllPairs-cons ◌≢◌ x (xs ++ ys)
    (λ j d within same. elim (Contains-append_cases xs ys x (subst (Contains (xs ++ ys)) (sym same) (Contains-get_or (xs ++ ys) j d within))) [
      | inl front ↦ once-split [] xs x h front
      | inr back ↦ apart x (member-first x xs) back
    ])
    (once-append xs ys (once_tail x xs h) k (λ z i j. apart z (member-later x z xs i) j))

once_one : (r : Ref) → AllPairs ◌≢◌ (r ∷ [])
once_one r = λ i j d less within. absurd (omega (arith, less, within))

none_in : (z : Ref) → Contains [] z → ⊥
none_in z h = omega (arith, h.1)

pub inorder-once : (named : End → Option End) → WellPaired named → (a : End) (s : TreeShape) → HangsAt named a s → IsClearOf a s → AllPairs ◌≢◌ (inorder s)
inorder-once named well a Leaf h clear = λ i j d less within. absurd (omega (arith, less, within))
inorder-once named well a (Node l r t) h clear =
    once-append (inorder l) (r ∷ inorder t)
    (inorder-once named well (Obj r 3) l h.1 (root-clear_low named well a l t r h clear 3))
    (once-append (r ∷ []) (inorder t) (once_one r) (inorder-once named well (Obj r 4) t h.2 (root-clear_high named well a l t r h clear 4))
    (λ z i j. elim (member-cases r z [] i) [ inl same ↦ root-high named well a l t r h clear (listed-in t r (subst (Contains (inorder t)) (sym same) j)) | inr none ↦ none_in z none ]))
    (λ z i j. elim (member-cases r z (inorder t) j) [
      | inl same ↦ root-low named well a l t r h clear (listed-in l r (subst (Contains (inorder l)) (sym same) i))
      | inr high ↦ parts-apart named well a l t r h clear z (listed-in l z i) (listed-in t z high)
    ])
