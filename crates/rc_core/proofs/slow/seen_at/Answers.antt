use Rattle.std.proofs.Common.{map}
use Rattle.std.proofs.lemmas.Result.{IfOk-weaker}
use Rattle.rc_core.specs.declared.slow.Seen.{Seen}
use Rattle.rc_core.specs.Chain.{states_at}
use Rattle.rc_core.specs.Slow.{plain, spot_at}
use Rattle.rc_core.proofs.slow.seen_at.Goals as goal

pub returns-clause-flag : goal.returns-clause-flag
returns-clause-flag c = IfOk-weaker c.as_one.result _ _ (λ (s : Seen) h. h.0) (c.as_one.ensures (states_at (spot_at c.args.side c.args.x.now) (map plain c.args.versions.now)) c.in_ok-laid.ensures)

pub returns-clause-content : goal.returns-clause-content
returns-clause-content c = IfOk-weaker c.as_one.result _ _ (λ (s : Seen) h. h.1) (c.as_one.ensures (states_at (spot_at c.args.side c.args.x.now) (map plain c.args.versions.now)) c.in_ok-laid.ensures)
