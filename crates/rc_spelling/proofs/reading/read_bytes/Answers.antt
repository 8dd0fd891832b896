use Rattle.std.proofs.Common.{sym}
use Rattle.rc_spelling.proofs.Steps.{step, advance}
use Rattle.rc_spelling.proofs.reading.read_bytes.Goals as goal

-- One byte more is made, and what is left spells the rest.
pub loop-byte-preserved : goal.loop-byte-preserved
loop-byte-preserved c =
    let s = step c.loop-byte.left.now (c.in-Some.byte, c.in-Some.rest.now) (sym c.in-Some.ensures) in
    let a = advance c.loop-byte.bytes.items c.loop-byte.left.now (c.in-Some.byte, c.in-Some.rest.now) _ s c.loop-byte.invariant in
    rw c.in_ok-push.ensures.items a
