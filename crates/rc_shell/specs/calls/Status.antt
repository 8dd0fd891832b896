-- Which end of a run stops it.
use Rattle.std.specs.Prelude.{Result, Ok, Err}
use Rattle.rc_shell.specs.declared.status.Ending.{Ending}
use Rattle.rc_shell.specs.declared.status.Stop.{Stop}
use Rattle.rc_shell.specs.declared.status.Stop.TheVariants.{Ended}

-- the stop where the last line of an ending was pushed, or was not
abbrev pub stop_by : Result Unit Stop → Ending → Stop
stop_by (Ok _) ending = Ended ending
stop_by (Err stop) ending = stop
