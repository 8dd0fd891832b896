-- The partitions before the index have been copied.
use Rattle.std.proofs.Common.{◌≡◌, take}
use Rattle.rc_tfile.proofs.info.PartRefs.from_slice.Given as goal

abbrev pub invariant-loop-part : goal.invariant-loop-part
invariant-loop-part l = l.copies.items ≡ take l.part-index l.items
