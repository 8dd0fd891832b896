-- The pieces so far and those of the changes that are left are those of all.
use Rattle.std.proofs.Common.{◌≡◌, ◌++◌, length, None}
use Rattle.std.specs.Option.{option_map}
use Rattle.rc_tables.specs.calls.Rebuilt.{changes_among, pieces_between}
use Rattle.rc_tables.proofs.rebuilding.pieces_of.Given as goal

abbrev pub invariant-loop-left : goal.invariant-loop-left
invariant-loop-left l = option_map (λ ps. l.made.items ++ ps) (pieces_between (changes_among l.left) l.start) ≡ pieces_between (changes_among l.fn.frags) None

abbrev pub decreases-loop-left : goal.decreases-loop-left
decreases-loop-left l = length l.left
