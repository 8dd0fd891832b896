-- How many objects a balanced tree has.
use Rattle.std.specs.Prelude.{ℕ, suc, ◌+◌}
use Rattle.lsa_shape.specs.Shapes.{TreeShape, Leaf, Node}

-- how many objects the tree has
abbrev pub shape_size : TreeShape → ℕ
shape_size Leaf = 0
shape_size (Node l r t) = suc (shape_size l + shape_size t)
