-- With which number the program ends.
use Rattle.std.specs.Prelude.{◌≡◌, ℕ, ◌^◌, List, Option}
use Rattle.rc_shell.specs.Run.{Ran}
use Rattle.rc_shell.specs.Status.{exit_code}
use Rattle.rc_shell.specs.Step.{StoreView, LineStep, EndsRun, LeavesStore, start_moment}
use Rattle.rc_shell.specs.Words.{words_of}
use Rattle.rc_shell.specs.declared.status.Status.{Status}

-- the number is that of a status
abbrev pub IsStatus : ℕ → Type 0
IsStatus number = (status : Status) × (number ≡ exit_code status)

-- the number is that of the status with which a run by these words ended, over a store, an input and an output, of each as it was and as it is left
abbrev pub RunsBy : (words : List (List ℕ)) (number : ℕ) (before after : StoreView) (left left' : Option (List ℕ)) (input input' : ℕ) (written written' : Option (List ℕ)) (output output' : ℕ) → Type 0
RunsBy words number before after left left' input input' written written' output output' =
    (status : Status) × (number ≡ exit_code status)
    × Ran LineStep EndsRun LeavesStore (words_of words) (start_moment (words_of words) before) (2 ^ 40) status left left' written written' after input input' output output'
