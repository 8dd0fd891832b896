-- The second wins exactly where the first is less.
use Rattle.std.proofs.Common.{sym, ap, ◌∙◌, Some, cond}
use Rattle.rc_cell.specs.laws.Merge.{winner-pair}
use Rattle.rc_cell.proofs.columns.winning.Goals as goal

pub returns-then-lt : goal.returns-then-lt
returns-then-lt c = ap (λ b. Some (cond b c.args.theirs.now c.args.ours.now)) c.if-lt.ensures ∙ sym (winner-pair c.args.ours.now c.args.theirs.now)

pub returns-else-lt : goal.returns-else-lt
returns-else-lt c = ap (λ b. Some (cond b c.args.theirs.now c.args.ours.now)) c.if-lt.ensures ∙ sym (winner-pair c.args.ours.now c.args.theirs.now)
