use Rattle.std.proofs.Common.{sym, ◌∙◌, arith}
use Rattle.std.proofs.lemmas.Result.{IfOk-weaker}
use Rattle.rc_core.specs.declared.slow.Seen.{Seen}
use Rattle.rc_core.specs.Slow.{seen_state, spot_at}
use Rattle.rc_core.proofs.Slowly.{over_here}
use Rattle.rc_core.proofs.slow.lay_over.Goals as goal

pub returns-in-Equal : goal.returns-in-Equal
returns-in-Equal c = IfOk-weaker c.seen_over.result _ _
    (λ (s : Seen) h. over_here (seen_state c.args.below) (seen_state s) (spot_at c.args.side c.args.x.now) c.loop-left.left.now c.args.entries.now c.first-item.result
    (omega (arith, c.in-len1-up.len_at_least)) c.first-item.is (sym c.side_cmp.ensures ∙ c.in-Equal.is) c.loop-left.invariant h)
    c.seen_over.ensures
