-- The joined rows keep the order.
use Rattle.std.proofs.Common.{◌++◌, ◌∙◌, subst, sym, ap}
use Rattle.rc_mutation.specs.Rows.{IsRows, joined_rows}
use Rattle.rc_mutation.proofs.RowsMerge.{joined-rows}
use Rattle.rc_mutation.proofs.rows.merged.Goals as goal

pub returns-clause-rows : goal.returns-clause-rows
returns-clause-rows c =
    let ours = c.args.ours.now in
    let theirs = c.args.theirs.now in
    subst IsRows (sym (c.in_ok-append_merged.ensures ∙ ap (λ made. made ++ joined_rows (ours ++ theirs)) c.new-made.ensures.items)) (joined-rows ours theirs c.requires.ours c.requires.theirs)
