-- It stands at the last place.
use Rattle.std.proofs.Common.{◌∙◌}
use Rattle.rc_paging.proofs.Behind.{last_get}
use Rattle.rc_paging.proofs.remainders.last_line.Goals as goal

pub returns : goal.returns
returns c = c.last.ensures.value ∙ last_get c.args.lines.now
