-- What links say of a tree, read from an end on, in laws: its shape, downward, and how long the way up is.
use Rattle.std.specs.Prelude.{ℕ, zero, suc, nat_eq, cond, Option, Some, None}
use Rattle.lsa_path.specs.Ref.{Ref}
use Rattle.lsa_path.specs.End.{End}
use Rattle.lsa_path.specs.End.TheVariants.{Obj, Slot}
use Rattle.lsa_path.specs.Path.{entered_object}
use Rattle.lsa_shape.specs.Shapes.{TreeShape, Leaf, Node}

-- the tree of an object, if there is one
abbrev pub tree_or_leaf : (Ref → TreeShape) → Option Ref → TreeShape
tree_or_leaf tree None = Leaf
tree_or_leaf tree (Some r) = tree r

-- the shape that the links from an end on say, so many levels at most
abbrev pub shape_at : ℕ → (End → Option End) → End → TreeShape
shape_at zero named a = Leaf
shape_at (suc most) named a = tree_or_leaf (λ r. Node (shape_at most named (Obj r 3)) r (shape_at most named (Obj r 4))) (entered_object 2 (named a))

-- one more than what an end gives, if one is named
abbrev pub one_more : (End → ℕ) → Option End → ℕ
one_more steps None = 0
one_more steps (Some e) = suc (steps e)

-- how many objects lead up from an end until a link 2 stands there, so many at most
abbrev pub steps_up : ℕ → (End → Option End) → End → ℕ
steps_up zero named a = 0
steps_up (suc most) named (Obj r field) = cond (nat_eq field 2) 0 (one_more (steps_up most named) (named (Obj r 2)))
steps_up (suc most) named (Slot root) = 0
