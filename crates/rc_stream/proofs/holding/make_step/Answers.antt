-- Both are taken only where both stand at one place.
use Rattle.std.proofs.Common.{sym, ◌∙◌}
use Rattle.rc_stream.specs.Holding.{held_fragments}
use Rattle.rc_stream.proofs.Held.{turn-both}
use Rattle.rc_stream.proofs.holding.make_step.Goals as goal

pub step_both-requires : goal.step_both-requires
step_both-requires c = turn-both c.args.upto.now (held_fragments c.args.ours.now) (held_fragments c.args.theirs.now) (sym c.in_ok-next_turn.ensures ∙ c.in-Both.is)
