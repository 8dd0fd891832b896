use Rattle.std.proofs.lemmas.Result.{IfOk-weaker}
use Rattle.std.specs.Option.{option_to_list}
use Rattle.rc_core.specs.declared.slow.Seen.{Seen}
use Rattle.rc_core.specs.Slow.{seen_state}
use Rattle.rc_core.proofs.Slowly.{row_over}
use Rattle.rc_core.proofs.slow.seen_over.Goals as goal

pub returns : goal.returns
returns c = IfOk-weaker c.with_row.result _ _
    (λ (s : Seen) h. row_over (seen_state c.args.below) (seen_state c.marked.result) (seen_state s) c.args.mark.flag (option_to_list c.args.row.now) (option_to_list c.args.mark.tomb) c.marked.ensures h)
    c.with_row.ensures
