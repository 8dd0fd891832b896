-- The entries before the place stand before what is looked for, and those behind it behind; less hangs there each time.
use Rattle.std.proofs.Common.{List}
use Rattle.rc_position.specs.declared.positions.Pos.{Pos}
use Rattle.lsa_region.specs.Ref.{Ref}
use Rattle.lsa_tree.specs.Tree.{IsTree}
use Rattle.lsa_tree.specs.calls.Seeking.{IsSought}
use Rattle.lsa_tree.proofs.Searches.{IsReachedAt}
use Rattle.lsa_tree.proofs.Walks.{size_below}
use Rattle.lsa_tree.proofs.search.seek.Given as goal

abbrev pub invariant-loop-r : goal.invariant-loop-r
invariant-loop-r g l = (x : Pos) (refs : List Ref) → IsSought l.fn.sought x → IsTree l.fn.tree l.region refs → IsReachedAt l.fn.tree l.region x l.at l.next refs

abbrev pub decreases-loop-r : goal.decreases-loop-r
decreases-loop-r g l = size_below l.region l.at
