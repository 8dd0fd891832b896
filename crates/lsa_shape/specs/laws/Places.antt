-- A tree that is changed at one place.
use Rattle.std.proofs.Common.{◌≡◌, ◌≢◌, List, [], ◌∷◌, ◌++◌, Option, Some, inl, inr, ◌⊎◌, refl, sym, ap, ◌∙◌, subst}
use Rattle.std.specs.Prelude.{⊤}
use Rattle.std.proofs.lemmas.List.{append_assoc, append-nil}
use Rattle.lsa_path.specs.Ref.{Ref}
use Rattle.lsa_path.specs.End.{End}
use Rattle.lsa_path.specs.End.TheVariants.{Obj}
use Rattle.lsa_path.specs.Paired.{WellPaired}
use Rattle.lsa_path.specs.laws.Paths.{same_field, same_object}
use Rattle.lsa_shape.specs.declared.flank.Flank.{Flank}
use Rattle.lsa_shape.specs.declared.flank.Flank.TheVariants.{Low, High}
use Rattle.lsa_shape.specs.Flanks.{near_link, far_link}
use Rattle.lsa_shape.specs.Shapes.{TreeShape, Leaf, Node, inorder, IsIn, HangsAt, IsOff, IsClearOf, StaysBeyond, node_on}
use Rattle.lsa_shape.specs.Ways.{Fork, ForkAt, plug, hole, fork_before, fork_behind, way_before, way_behind}
use Rattle.lsa_shape.specs.laws.Ways.{IsAround}
use Rattle.lsa_shape.specs.laws.Hanging.{field-off, hangs-moved}
use Rattle.lsa_shape.specs.laws.Sides.{near_differs, in-node, node-in, inorder-node, hangs-node, node-hangs, near-root, near-clear, far-root, sides-apart}

-- ---- members

pub in-plug : (way : List Fork) (s : TreeShape) (z : Ref) → IsIn z s → IsIn z (plug way s)
in-plug [] s z i = i
in-plug (ForkAt flank r beside ∷ way) s z i = in-plug way (node_on flank s r beside) z (node-in flank s r beside z (inr (inl i)))

pub around-plug : (way : List Fork) (s : TreeShape) (z : Ref) → IsAround z way → IsIn z (plug way s)
around-plug [] s z i = absurd i
around-plug (ForkAt flank r beside ∷ way) s z (inl same) = in-plug way (node_on flank s r beside) z (node-in flank s r beside z (inl same))
around-plug (ForkAt flank r beside ∷ way) s z (inr (inl i)) = in-plug way (node_on flank s r beside) z (node-in flank s r beside z (inr (inr i)))
around-plug (ForkAt flank r beside ∷ way) s z (inr (inr i)) = around-plug way (node_on flank s r beside) z i

pub plug-in : (way : List Fork) (s : TreeShape) (z : Ref) → IsIn z (plug way s) → IsIn z s ⊎ IsAround z way
plug-in [] s z i = inl i
plug-in (ForkAt flank r beside ∷ way) s z i = elim (plug-in way (node_on flank s r beside) z i) [
  | inl here ↦ elim (in-node flank s r beside z here) [ inl same ↦ inr (inl same) | inr (inl near) ↦ inl near | inr (inr far) ↦ inr (inr (inl far)) ]
  | inr there ↦ inr (inr (inr there))
]

pub inorder-plug : (way : List Fork) (s : TreeShape) → inorder (plug way s) ≡ way_before way ++ (inorder s ++ way_behind way)
inorder-plug [] s = sym (append-nil (inorder s))
inorder-plug (ForkAt flank r beside ∷ way) s =
    let fork = ForkAt flank r beside in let front = fork_before fork in let back = fork_behind fork in
    inorder-plug way (node_on flank s r beside) ∙ ap (λ l. way_before way ++ (l ++ way_behind way)) (inorder-node flank s r beside)
    ∙ ap (λ l. way_before way ++ l) (append_assoc front (inorder s ++ back) (way_behind way) ∙ ap (λ l. front ++ l) (append_assoc (inorder s) back (way_behind way)))
    ∙ sym (append_assoc (way_before way) front (inorder s ++ (back ++ way_behind way)))

-- the same objects at a place give the same list
pub plug-order : (way : List Fork) (s t : TreeShape) → inorder t ≡ inorder s → inorder (plug way t) ≡ inorder (plug way s)
plug-order way s t same = inorder-plug way t ∙ ap (λ l. way_before way ++ (l ++ way_behind way)) same ∙ sym (inorder-plug way s)

-- the way to an object
pub way-to : (way : List Fork) (s : TreeShape) (z : Ref) → IsIn z s → (on : List Fork) × (l : TreeShape) × (t : TreeShape) × (plug on (Node l z t) ≡ plug way s)
way-to way Leaf z i = absurd i
way-to way (Node l r t) z (inl same) = (way, l, t, ap (λ q. plug way (Node l q t)) same)
way-to way (Node l r t) z (inr (inl low)) = way-to (ForkAt Low r t ∷ way) l z low
way-to way (Node l r t) z (inr (inr high)) = way-to (ForkAt High r l ∷ way) t z high

-- ---- what hangs around a place

-- each fork hangs where the place behind it does, and what is beside it on its other side
abbrev pub HangsAround : (End → Option End) → End → List Fork → Type 0
HangsAround named start [] = ⊤
HangsAround named start (ForkAt flank r beside ∷ way) = (named (hole start way) ≡ Some (Obj r 2)) × HangsAt named (Obj r (far_link flank)) beside × HangsAround named start way

module _ (named : End → Option End) (start : End) where
  pub hangs-around : (way : List Fork) (s : TreeShape) → HangsAt named start (plug way s) → HangsAround named start way × HangsAt named (hole start way) s
  hangs-around [] s h = (tt, h)
  hangs-around (ForkAt flank r beside ∷ way) s h =
      let w = hangs-around way (node_on flank s r beside) h in let n = hangs-node named flank (hole start way) s r beside w.1 in ((n.0, n.2, w.0), n.1)

  pub around-hangs : (way : List Fork) (s : TreeShape) → HangsAround named start way → HangsAt named (hole start way) s → HangsAt named start (plug way s)
  around-hangs [] s a h = h
  around-hangs (ForkAt flank r beside ∷ way) s a h = around-hangs way (node_on flank s r beside) a.2 (node-hangs named flank (hole start way) s r beside a.0 h a.1)

-- the end is the start, or a link of an object around the place
abbrev pub IsAroundEnd : End → End → List Fork → Type 0
IsAroundEnd e start way = (e ≡ start) ⊎ ((z : Ref) × IsAround z way × ((e ≡ Obj z 3) ⊎ (e ≡ Obj z 4)))

further : (e start : End) (flank : Flank) (r : Ref) (beside : TreeShape) (way : List Fork) → IsAroundEnd e start way → IsAroundEnd e start (ForkAt flank r beside ∷ way)
further e start flank r beside way (inl same) = inl same
further e start flank r beside way (inr w) = inr (w.0, inr (inr w.1), w.2)

near_end : (flank : Flank) (r : Ref) → (Obj r (near_link flank) ≡ Obj r 3) ⊎ (Obj r (near_link flank) ≡ Obj r 4)
near_end Low r = inl refl
near_end High r = inr refl

far_end : (flank : Flank) (r : Ref) → (Obj r (far_link flank) ≡ Obj r 3) ⊎ (Obj r (far_link flank) ≡ Obj r 4)
far_end Low r = inr refl
far_end High r = inl refl

pub hole-end : (start : End) (way : List Fork) → IsAroundEnd (hole start way) start way
hole-end start [] = inl refl
hole-end start (ForkAt flank r beside ∷ way) = inr (r, inl refl, near_end flank r)

module _ (named : End → Option End) (well : WellPaired named) (start : End) where
  -- what is at a place hangs there, and the place is no link of it
  pub at-hole : (way : List Fork) (s : TreeShape) → HangsAt named start (plug way s) → IsClearOf start (plug way s) → HangsAt named (hole start way) s × IsClearOf (hole start way) s
  at-hole [] s h clear = (h, clear)
  at-hole (ForkAt flank r beside ∷ way) s h clear =
      let w = at-hole way (node_on flank s r beside) h clear in
      ((hangs-node named flank (hole start way) s r beside w.0).1, near-clear named well flank (hole start way) s r beside w.0 w.1 (near_link flank))

  -- none of its objects is around it
  pub around-apart : (way : List Fork) (s : TreeShape) → HangsAt named start (plug way s) → IsClearOf start (plug way s) → (z : Ref) → IsIn z s → IsAround z way → ⊥
  around-apart [] s h clear z i j = j
  around-apart (ForkAt flank r beside ∷ way) s h clear z i j =
      let w = at-hole way (node_on flank s r beside) h clear in
      elim j [
        | inl same ↦ near-root named well flank (hole start way) s r beside w.0 w.1 (subst (λ x. IsIn x s) same i)
        | inr (inl far) ↦ sides-apart named well flank (hole start way) s r beside w.0 w.1 z i far
        | inr (inr on) ↦ around-apart way (node_on flank s r beside) h clear z (node-in flank s r beside z (inr (inl i))) on
      ]

-- what hangs around a place stays where each of these ends but the place names what it did
module _ (old new : End → Option End) (well : WellPaired old) (start : End) where
  pub around-stays : (way : List Fork) (s : TreeShape) → HangsAt old start (plug way s) → IsClearOf start (plug way s) → ((e : End) → IsAroundEnd e start way → e ≢ hole start way → new e ≡ old e) → HangsAround new start way
  around-stays [] s h clear keep = tt
  around-stays (ForkAt flank r beside ∷ way) s h clear keep =
      let node = node_on flank s r beside in let w = at-hole old well start way node h clear in let near = near_link flank in
      let root : IsIn r node = node-in flank s r beside r (inl refl) in
      let others : (z : Ref) → IsIn z beside → z ≢ r = λ z i same. far-root old well flank (hole start way) s r beside w.0 w.1 (subst (λ x. IsIn x beside) same i) in
      let n = hangs-node old flank (hole start way) s r beside w.0 in
      let apart : hole start way ≢ Obj r near = own_near flank (w.1 r root) in (
        keep (hole start way) (further (hole start way) start flank r beside way (hole-end start way)) apart ∙ n.0,
        hangs-moved old new (Obj r (far_link flank)) (Obj r (far_link flank)) beside
            (keep (Obj r (far_link flank)) (inr (r, inl refl, far_end flank r)) (λ e. near_differs flank (sym (same_field r r (far_link flank) near e))))
            (λ z i. (
              keep (Obj z 3) (inr (z, inr (inl i), inl refl)) (λ e. others z i (same_object z r 3 near e)),
              keep (Obj z 4) (inr (z, inr (inl i), inr refl)) (λ e. others z i (same_object z r 4 near e)),
            )) n.2,
        around-stays way node h clear (λ e at ne. keep e (further e start flank r beside way at) (elsewhere e at)),
      )
    where
      own_near : (f : Flank) → IsOff (hole start way) r → hole start way ≢ Obj r (near_link f)
      own_near Low off = off.1
      own_near High off = off.2

      start_off : (f : Flank) → IsOff start r → start ≢ Obj r (near_link f)
      start_off Low off = off.1
      start_off High off = off.2

      elsewhere : (e : End) → IsAroundEnd e start way → e ≢ Obj r (near_link flank)
      elsewhere e (inl same) is = start_off flank (clear r (in-plug way (node_on flank s r beside) r (node-in flank s r beside r (inl refl)))) (sym same ∙ is)
      elsewhere e (inr z) is = around-apart old well start way (node_on flank s r beside) h clear r (node-in flank s r beside r (inl refl))
          (subst (λ x. IsAround x way) (elim z.2 [ inl low ↦ same_object z.0 r 3 (near_link flank) (sym low ∙ is) | inr high ↦ same_object z.0 r 4 (near_link flank) (sym high ∙ is) ]) z.1)

  -- what was changed at the place: objects that hang there, and others that were in no tree here
  pub plug-changed : (way : List Fork) (s t : TreeShape) (these : Ref → Type 0) → HangsAt old start (plug way s) → IsClearOf start (plug way s) → HangsAt new (hole start way) t → StaysBeyond old new (hole start way) these
      → ((z : Ref) → these z → IsIn z s ⊎ (IsOff start z × (IsIn z (plug way s) → ⊥))) → HangsAt new start (plug way t)
  plug-changed way s t these h clear here stays told = around-hangs new start way t (around-stays way s h clear (λ e at ne. stays e ne (off e at))) here
    where
      off : (e : End) → IsAroundEnd e start way → (z : Ref) → these z → IsOff e z
      off e (inl same) z i = subst (λ x. IsOff x z) (sym same) (elim (told z i) [ inl here ↦ clear z (in-plug way s z here) | inr fresh ↦ fresh.0 ])
      off e (inr w) z i =
          let ne : w.0 ≢ z = elim (told z i) [
            | inl here ↦ λ same. around-apart old well start way s h clear z here (subst (λ x. IsAround x way) same w.1)
            | inr fresh ↦ λ same. fresh.1 (around-plug way s z (subst (λ x. IsAround x way) same w.1))
          ] in
          elim w.2 [ inl low ↦ subst (λ x. IsOff x z) (sym low) (field-off w.0 z 3 ne) | inr high ↦ subst (λ x. IsOff x z) (sym high) (field-off w.0 z 4 ne) ]

  -- beyond the whole tree and those others all stays
  pub stays-out : (way : List Fork) (s : TreeShape) (these all : Ref → Type 0) → ((z : Ref) → these z → all z) → ((z : Ref) → IsIn z (plug way s) → all z) → StaysBeyond old new (hole start way) these → StaysBeyond old new start all
  stays-out way s these all wider whole stays e ne off = stays e (beyond (hole-end start way)) (λ z i. off z (wider z i))
    where
      beyond : IsAroundEnd (hole start way) start way → e ≢ hole start way
      beyond (inl same) is = ne (is ∙ same)
      beyond (inr w) is = let o = off w.0 (whole w.0 (around-plug way s w.0 w.1)) in elim w.2 [ inl low ↦ o.1 (is ∙ low) | inr high ↦ o.2 (is ∙ high) ]
