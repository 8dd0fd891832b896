use Rattle.std.proofs.Common.{map}
use Rattle.std.proofs.lemmas.Result.{IfOk-weaker}
use Rattle.rc_core.specs.declared.slow.Seen.{Seen}
use Rattle.rc_core.specs.Continuity.{static_states}
use Rattle.rc_core.specs.Slow.{plain}
use Rattle.rc_core.proofs.slow.statics_at.Goals as goal

pub returns-clause-flag : goal.returns-clause-flag
returns-clause-flag c = IfOk-weaker c.as_one.result _ _ (λ (s : Seen) h. h.0) (c.as_one.ensures (static_states (map plain c.args.versions.now)) c.in_ok-laid_statics.ensures)

pub returns-clause-content : goal.returns-clause-content
returns-clause-content c = IfOk-weaker c.as_one.result _ _ (λ (s : Seen) h. h.1) (c.as_one.ensures (static_states (map plain c.args.versions.now)) c.in_ok-laid_statics.ensures)
