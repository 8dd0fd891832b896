use Rattle.std.proofs.Common.{sym, ap, ◌∙◌, subst}
use Rattle.rc_core.specs.Chain.{flag_over, states_at}
use Rattle.rc_core.specs.laws.Folding.{flagged-through}
use Rattle.rc_core.specs.Slow.{IsDecidedBy}
use Rattle.rc_core.specs.Version.{Behind}
use Rattle.rc_reading.specs.Reading.{read_versions}
use Rattle.rc_reading.proofs.reads.known_at.Goals as goal

pub returns-in_ok-gap-in-None : goal.returns-in_ok-gap-in-None
returns-in_ok-gap-in-None g c = λ read u flag content.
    subst (IsDecidedBy c.args.kind (read_versions read) c.args.x.now) c.in-None.is (c.known_by.ensures (read_versions read) flag content) c.is_known_in.result
    (c.is_known_in.ensures ∙ ap (flag_over c.args.kind) (c.in_ok-gap-in-None.ensures read u).0 ∙ sym (flagged-through c.args.kind (states_at (Behind c.args.x.now) (read_versions read))))
