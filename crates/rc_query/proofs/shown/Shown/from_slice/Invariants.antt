-- The pairs before the index have been copied.
use Rattle.std.proofs.Common.{◌≡◌, take}
use Rattle.rc_query.proofs.shown.Shown.from_slice.Given as goal

abbrev pub invariant-loop-item : goal.invariant-loop-item
invariant-loop-item l = l.copies.items ≡ take l.item-index l.items
