-- What a reader is given when it is opened.
use Rattle.std.specs.Prelude.{◌≡◌, ℕ, List, ◌++◌}
use Rattle.rc_position.specs.declared.slices.Slice.{Slice}
use Rattle.rc_mutation.specs.declared.mutations.Mutation.{Mutation}
use Rattle.rc_mutation.specs.Source.{changes_to}
use Rattle.rc_query.specs.declared.lines.OutLine.{OutLine}
use Rattle.rc_query.specs.Answer.{answer}
use Rattle.rc_machine.specs.State.{State, unstored_writes}
use Rattle.rc_machine.specs.Steps.{IsSaid}

-- lines are the answer in a slice to what the tables say of a partition and the writes that stand in none
abbrev pub IsAnswer : State → List ℕ → Slice → List OutLine → Type 0
IsAnswer m key slice lines = (said : List Mutation) × IsSaid m key said × (lines ≡ answer (said ++ changes_to key (unstored_writes m)) slice)
