-- The lines before the index have been copied.
use Rattle.std.proofs.Common.{◌≡◌, take}
use Rattle.rc_query.proofs.lines.Lines.from_slice.Given as goal

abbrev pub invariant-loop-line : goal.invariant-loop-line
invariant-loop-line l = l.copies.items ≡ take l.line-index l.items
