use Rattle.std.proofs.Common.{◌≡◌, take}
use Rattle.rc_position.proofs.keys.Key.from_slice.Given as goal

-- the components so far are copied
abbrev pub invariant-loop-comp : goal.invariant-loop-comp
invariant-loop-comp l = l.copies.items ≡ take l.comp-index l.items
