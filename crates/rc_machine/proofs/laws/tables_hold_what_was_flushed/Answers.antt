use Rattle.std.proofs.Common.{[], refl}
use Rattle.rc_machine.specs.State.{opened_state}
use Rattle.rc_machine.specs.laws.Holding.{holds_at_first, holds_after}
use Rattle.rc_machine.proofs.laws.tables_hold_what_was_flushed.Goals as goal

pub returns : goal.returns
returns c = λ segments files schema tables infos steps m a.
    holds_after (opened_state segments files schema tables infos) (opened_state segments files schema tables infos) steps m [] (holds_at_first (opened_state segments files schema tables infos) refl refl refl) a
