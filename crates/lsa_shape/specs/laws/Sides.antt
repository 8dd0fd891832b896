-- What holds on either side of an object.
use Rattle.std.proofs.Common.{◌≡◌, ◌≢◌, ℕ, ◌≤◌, [], ◌∷◌, ◌++◌, Option, Some, inl, inr, ◌⊎◌, refl, sym, ap, ◌∙◌, arith}
use Rattle.std.proofs.lemmas.List.{append_assoc, append-nil}
use Rattle.lsa_path.specs.Ref.{Ref}
use Rattle.lsa_path.specs.End.{End}
use Rattle.lsa_path.specs.End.TheVariants.{Obj}
use Rattle.lsa_path.specs.Paired.{WellPaired}
use Rattle.lsa_shape.specs.declared.flank.Flank.{Flank}
use Rattle.lsa_shape.specs.declared.flank.Flank.TheVariants.{Low, High}
use Rattle.lsa_shape.specs.Flanks.{other_flank, near_link, far_link}
use Rattle.lsa_shape.specs.Shapes.{TreeShape, inorder, IsIn, HangsAt, IsClearOf, node_on}
use Rattle.lsa_shape.specs.Ways.{ForkAt, fork_before, fork_behind}
use Rattle.lsa_shape.specs.laws.Hanging.{root-low, root-high, root-clear_low, root-clear_high, parts-apart}

-- ---- links

pub near-low : (flank : Flank) → 3 ≤ near_link flank
near-low Low = omega arith
near-low High = omega arith

pub near-most : (flank : Flank) → near_link flank ≤ 4
near-most Low = omega arith
near-most High = omega arith

pub far-low : (flank : Flank) → 3 ≤ far_link flank
far-low Low = omega arith
far-low High = omega arith

pub far-most : (flank : Flank) → far_link flank ≤ 4
far-most Low = omega arith
far-most High = omega arith

pub near_differs : (flank : Flank) → near_link flank ≢ far_link flank
near_differs Low e = cc
near_differs High e = cc

pub other-node : (flank : Flank) (near : TreeShape) (r : Ref) (far : TreeShape) → node_on (other_flank flank) far r near ≡ node_on flank near r far
other-node Low near r far = refl
other-node High near r far = refl

-- one of the two links is near, the other far
pub link-sides : (flank : Flank) (P : ℕ → Type 0) → P (near_link flank) → P (far_link flank) → P 3 × P 4
link-sides Low P near far = (near, far)
link-sides High P near far = (far, near)

-- ---- members

pub in-node : (flank : Flank) (near : TreeShape) (r : Ref) (far : TreeShape) (z : Ref) → IsIn z (node_on flank near r far) → (z ≡ r) ⊎ (IsIn z near ⊎ IsIn z far)
in-node Low near r far z i = i
in-node High near r far z (inl same) = inl same
in-node High near r far z (inr (inl i)) = inr (inr i)
in-node High near r far z (inr (inr i)) = inr (inl i)

pub node-in : (flank : Flank) (near : TreeShape) (r : Ref) (far : TreeShape) (z : Ref) → (z ≡ r) ⊎ (IsIn z near ⊎ IsIn z far) → IsIn z (node_on flank near r far)
node-in Low near r far z i = i
node-in High near r far z (inl same) = inl same
node-in High near r far z (inr (inl i)) = inr (inr i)
node-in High near r far z (inr (inr i)) = inr (inl i)

pub inorder-node : (flank : Flank) (near : TreeShape) (r : Ref) (far : TreeShape) → inorder (node_on flank near r far) ≡ fork_before (ForkAt flank r far) ++ (inorder near ++ fork_behind (ForkAt flank r far))
inorder-node Low near r far = refl
inorder-node High near r far = sym (append_assoc (inorder far) (r ∷ []) (inorder near ++ []) ∙ ap (λ l. inorder far ++ (r ∷ l)) (append-nil (inorder near)))

-- what a rotation keeps
pub inorder-turned : (flank : Flank) (a : TreeShape) (x : Ref) (b : TreeShape) (y : Ref) (c : TreeShape) → inorder (node_on flank a x (node_on flank b y c)) ≡ inorder (node_on flank (node_on flank a x b) y c)
inorder-turned Low a x b y c = sym (append_assoc (inorder a) (x ∷ inorder b) (y ∷ inorder c))
inorder-turned High a x b y c = append_assoc (inorder c) (y ∷ inorder b) (x ∷ inorder a)

-- ---- trees that hang

module _ (named : End → Option End) where
  pub hangs-node : (flank : Flank) (a : End) (near : TreeShape) (r : Ref) (far : TreeShape) → HangsAt named a (node_on flank near r far) → (named a ≡ Some (Obj r 2)) × HangsAt named (Obj r (near_link flank)) near × HangsAt named (Obj r (far_link flank)) far
  hangs-node Low a near r far h = h
  hangs-node High a near r far h = (h.0, h.2, h.1)

  pub node-hangs : (flank : Flank) (a : End) (near : TreeShape) (r : Ref) (far : TreeShape) → named a ≡ Some (Obj r 2) → HangsAt named (Obj r (near_link flank)) near → HangsAt named (Obj r (far_link flank)) far → HangsAt named a (node_on flank near r far)
  node-hangs Low a near r far here h k = (here, h, k)
  node-hangs High a near r far here h k = (here, k, h)

module _ (named : End → Option End) (well : WellPaired named) where
  pub near-root : (flank : Flank) (a : End) (near : TreeShape) (r : Ref) (far : TreeShape) → HangsAt named a (node_on flank near r far) → IsClearOf a (node_on flank near r far) → IsIn r near → ⊥
  near-root Low a near r far h clear = root-low named well a near far r h clear
  near-root High a near r far h clear = root-high named well a far near r h clear

  pub far-root : (flank : Flank) (a : End) (near : TreeShape) (r : Ref) (far : TreeShape) → HangsAt named a (node_on flank near r far) → IsClearOf a (node_on flank near r far) → IsIn r far → ⊥
  far-root Low a near r far h clear = root-high named well a near far r h clear
  far-root High a near r far h clear = root-low named well a far near r h clear

  pub near-clear : (flank : Flank) (a : End) (near : TreeShape) (r : Ref) (far : TreeShape) → HangsAt named a (node_on flank near r far) → IsClearOf a (node_on flank near r far) → (f : ℕ) → IsClearOf (Obj r f) near
  near-clear Low a near r far h clear = root-clear_low named well a near far r h clear
  near-clear High a near r far h clear = root-clear_high named well a far near r h clear

  pub far-clear : (flank : Flank) (a : End) (near : TreeShape) (r : Ref) (far : TreeShape) → HangsAt named a (node_on flank near r far) → IsClearOf a (node_on flank near r far) → (f : ℕ) → IsClearOf (Obj r f) far
  far-clear Low a near r far h clear = root-clear_high named well a near far r h clear
  far-clear High a near r far h clear = root-clear_low named well a far near r h clear

  pub sides-apart : (flank : Flank) (a : End) (near : TreeShape) (r : Ref) (far : TreeShape) → HangsAt named a (node_on flank near r far) → IsClearOf a (node_on flank near r far) → (z : Ref) → IsIn z near → IsIn z far → ⊥
  sides-apart Low a near r far h clear z i j = parts-apart named well a near far r h clear z i j
  sides-apart High a near r far h clear z i j = parts-apart named well a far near r h clear z j i
