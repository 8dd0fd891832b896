-- The status of a run that stopped, and the number with which the program exits.
use Rattle.std.specs.Prelude.{ℕ}
use Rattle.rc_shell.specs.declared.status.Status.{Status}
use Rattle.rc_shell.specs.declared.status.Status.TheVariants as statuses
use Rattle.rc_shell.specs.declared.status.Ending.{Ending}
use Rattle.rc_shell.specs.declared.status.Ending.TheVariants.{BadTable, StoreFault}
use Rattle.rc_shell.specs.declared.status.Stop.{Stop}
use Rattle.rc_shell.specs.declared.status.Stop.TheVariants.{NoMemory, OutputFault, Ended}

-- the status of a run that a line ended so
abbrev pub status_at : Ending → Status
status_at BadTable = statuses.BadTable
status_at StoreFault = statuses.StoreFault

-- the status of a run that stopped so
abbrev pub status_of : Stop → Status
status_of NoMemory = statuses.NoMemory
status_of OutputFault = statuses.OutputFault
status_of (Ended ending) = status_at ending

-- the number with which the program exits
abbrev pub exit_code : Status → ℕ
exit_code statuses.Done = 0
exit_code statuses.BadWords = 2
exit_code statuses.BadTable = 3
exit_code statuses.NoMemory = 4
exit_code statuses.InputFault = 5
exit_code statuses.OutputFault = 6
exit_code statuses.StoreFault = 7
exit_code statuses.InputLimit = 8
