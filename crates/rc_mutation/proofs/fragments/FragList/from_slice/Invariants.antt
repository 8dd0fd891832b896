-- The fragments before the index have been copied.
use Rattle.std.proofs.Common.{◌≡◌, take}
use Rattle.rc_mutation.proofs.fragments.FragList.from_slice.Given as goal

abbrev pub invariant-loop-frag : goal.invariant-loop-frag
invariant-loop-frag l = l.copies.items ≡ take l.frag-index l.items
