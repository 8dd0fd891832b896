use Rattle.std.proofs.Common.{◌≡◌, ◌++◌, length, map}
use Rattle.std.specs.Option.{option_map}
use Rattle.rc_lines.specs.UnderSchema.{prefix_of}
use Rattle.rc_lines.proofs.keys.components.Given as goal

-- what was made, and what the pieces that are left are
abbrev pub invariant-loop-left : goal.invariant-loop-left
invariant-loop-left l =
    prefix_of (map (λ bytes. bytes.items) l.pieces) l.kinds ≡ option_map (λ rest. l.made.items ++ rest) (prefix_of (map (λ bytes. bytes.items) l.left) l.kinds_left)

abbrev pub decreases-loop-left : goal.decreases-loop-left
decreases-loop-left l = length l.left
