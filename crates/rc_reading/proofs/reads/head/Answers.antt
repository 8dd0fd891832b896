use Rattle.std.proofs.Common.{sym, ap, ◌∙◌}
use Rattle.rc_core.specs.Chain.{flag_over}
use Rattle.rc_core.specs.Continuity.{static_states}
use Rattle.rc_core.specs.laws.Folding.{flagged-through}
use Rattle.rc_reading.specs.Reading.{read_versions}
use Rattle.rc_reading.proofs.reads.head.Goals as goal

pub returns-clause-known : goal.returns-clause-known
returns-clause-known g c = λ read u. c.is_known_in.ensures
    ∙ ap (flag_over c.args.kind) (c.in_ok-seen.ensures (static_states (read_versions read)) (c.in_ok-seen_through.ensures read u)).0
    ∙ sym (flagged-through c.args.kind (static_states (read_versions read)))
