use Rattle.std.proofs.Common.{map, subst}
use Rattle.std.proofs.lemmas.Result.{IfOk-weaker}
use Rattle.rc_core.specs.Slow.{IsDecidedBy, plain}
use Rattle.rc_core.proofs.slow.is_known_at.Goals as goal

pub returns-in-Some : goal.returns-in-Some
returns-in-Some c = subst (IsDecidedBy c.args.kind (map plain c.args.versions.now) c.args.x.now) c.in-Some.is (c.known_by.ensures (map plain c.args.versions.now) c.in_ok-seen.ensures.flag c.in_ok-seen.ensures.content)

pub returns : goal.returns
returns c = IfOk-weaker c.is_flagged_at.result _ _
    (subst (IsDecidedBy c.args.kind (map plain c.args.versions.now) c.args.x.now) c.in-None.is (c.known_by.ensures (map plain c.args.versions.now) c.in_ok-seen.ensures.flag c.in_ok-seen.ensures.content))
    c.is_flagged_at.ensures
