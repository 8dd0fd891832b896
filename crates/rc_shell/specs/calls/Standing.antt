-- That a server may be closed.
use Rattle.std.specs.Prelude.{Option, Some, None, ⊤}
use Rattle.rc_outside.specs.Files.{Files}
use Rattle.rc_machine.specs.State.{State}

-- what serves may be closed, where nothing does, or what does stands over some files for some state
abbrev pub MayClose : {Kept : Type 0} → (Option Files → Kept → State → Type 0) → Option Kept → Type 0
MayClose Stands None = ⊤
MayClose Stands (Some kept) = (told : Option Files) × (m : State) × Stands told kept m
