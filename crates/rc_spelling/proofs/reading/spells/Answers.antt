use Rattle.std.proofs.Common.{ap, sym, ◌∙◌}
use Rattle.std.specs.Option.{is_some}
use Rattle.rc_spelling.proofs.Steps.{step, is_some-front}
use Rattle.rc_spelling.proofs.reading.spells.Goals as goal

-- What is left spells bytes where the word does.
pub loop-byte-preserved : goal.loop-byte-preserved
loop-byte-preserved c =
    let s = step c.loop-byte.left.now (c.in-Some._byte, c.in-Some.rest.now) (sym c.in-Some.ensures) in
    sym (ap is_some s.spells ∙ is_some-front _ _) ∙ c.loop-byte.invariant

-- Each byte leaves less.
pub loop-byte-smaller : goal.loop-byte-smaller
loop-byte-smaller c = (step c.loop-byte.left.now (c.in-Some._byte, c.in-Some.rest.now) (sym c.in-Some.ensures)).shorter
