-- What is made, with the changes of what is left, are the changes of all.
use Rattle.std.proofs.Common.{◌≡◌, ◌++◌, length}
use Rattle.rc_mutation.specs.Fragments.{changes_of}
use Rattle.rc_mutation.proofs.fragments.changes.Given as goal

abbrev pub invariant-loop-left : goal.invariant-loop-left
invariant-loop-left l = l.made.items ++ changes_of l.left ≡ changes_of l.fn.pieces

abbrev pub decreases-loop-left : goal.decreases-loop-left
decreases-loop-left l = length l.left
