use Rattle.std.proofs.Common.{refl}
use Rattle.rc_core.proofs.Slowly.{content_of, joined_to_none}
use Rattle.rc_core.proofs.slow.as_one.Goals as goal

pub returns : goal.returns
returns c = λ states alike. (alike.0, content_of c.args.seen c.join.new.self c.args.seen.tomb states alike (joined_to_none c.empty-row.result c.args.seen.row c.join.new.self c.empty-row.ensures c.in_ok-join.ensures.ok) refl)
