use Rattle.rc_core.proofs.Slowly.{marked_inherit, marked_decides}
use Rattle.std.proofs.Common.{sym, ◌∙◌}
use Rattle.rc_core.specs.Slow.{seen_state}
use Rattle.rc_core.proofs.slow.marked.Goals as goal

pub returns-then-decides : goal.returns-then-decides
returns-then-decides c = marked_decides (seen_state c.args.below) c.empty.result c.args.mark.tomb c.args.mark.flag (sym c.decides.ensures ∙ c.if-decides.true) c.empty.ensures

pub returns : goal.returns
returns c = marked_inherit c.args.below.flag c.args.below.row c.args.below.tomb c.args.mark.tomb c.greater_tomb.result c.args.mark.flag (sym c.decides.ensures ∙ c.if-decides.false) c.greater_tomb.ensures
