-- Trees of objects, and where they hang, over any way in which ends name ends. An object is entered by its link 2; its link 3 leads to those before it, its link 4 to those behind it.
use Rattle.std.specs.Prelude.{◌≡◌, ◌≢◌, ◌⊎◌, List, [], ◌∷◌, ◌++◌, Option, Some, None}
use Rattle.lsa_path.specs.Ref.{Ref}
use Rattle.lsa_path.specs.End.{End}
use Rattle.lsa_path.specs.End.TheVariants.{Obj}
use Rattle.lsa_shape.specs.declared.flank.Flank.{Flank}
use Rattle.lsa_shape.specs.declared.flank.Flank.TheVariants.{Low, High}

-- the shape of a tree: nothing, or an object with those before it and those behind it
pub data TreeShape : Type 0 where
  Leaf : TreeShape
  Node : TreeShape → Ref → TreeShape → TreeShape

-- its objects in order
abbrev pub inorder : TreeShape → List Ref
inorder Leaf = []
inorder (Node l r t) = inorder l ++ (r ∷ inorder t)

-- the object is one of the tree
abbrev pub IsIn : Ref → TreeShape → Type 0
IsIn z Leaf = ⊥
IsIn z (Node l r t) = (z ≡ r) ⊎ (IsIn z l ⊎ IsIn z t)

-- a tree of this shape hangs at the end
abbrev pub HangsAt : (End → Option End) → End → TreeShape → Type 0
HangsAt named a Leaf = named a ≡ None
HangsAt named a (Node l r t) = (named a ≡ Some (Obj r 2)) × HangsAt named (Obj r 3) l × HangsAt named (Obj r 4) t

-- the end is none of the links of an object that a tree goes by
abbrev pub IsOff : End → Ref → Type 0
IsOff e z = (e ≢ Obj z 2) × (e ≢ Obj z 3) × (e ≢ Obj z 4)

-- the end is no such link of any object of the tree
abbrev pub IsClearOf : End → TreeShape → Type 0
IsClearOf e s = (z : Ref) → IsIn z s → IsOff e z

-- beyond an end and some objects each end names what it did
abbrev pub StaysBeyond : (End → Option End) → (End → Option End) → End → (Ref → Type 0) → Type 0
StaysBeyond old new a these = (e : End) → e ≢ a → ((z : Ref) → these z → IsOff e z) → new e ≡ old e

-- an object with this on one side of it and that on the other
abbrev pub node_on : Flank → TreeShape → Ref → TreeShape → TreeShape
node_on Low near r far = Node near r far
node_on High near r far = Node far r near

-- the shape with other names of its objects
abbrev pub shape_by : (Ref → Ref) → TreeShape → TreeShape
shape_by there Leaf = Leaf
shape_by there (Node l r t) = Node (shape_by there l) (there r) (shape_by there t)
