-- What a line is answered where the machine is called directly.
use Rattle.std.specs.Prelude.{Result, Ok, Err, MatchBool}
use Rattle.rc_lines.specs.declared.commands.Command.{Command}
use Rattle.rc_lines.specs.declared.commands.Refusal.{Refusal}
use Rattle.rc_lines.specs.declared.commands.Refusal.TheVariants.{BadLine}
use Rattle.rc_lines.specs.declared.commands.Reply.{Reply}
use Rattle.rc_machine.specs.Built.{is_built}
use Rattle.rc_machine.specs.State.{State}
use Rattle.rc_machine.specs.Steps.{Steps, Refuses}

-- By what it means: a command that is served takes one step of the machine; any other is a bad line; and what is refused changes nothing.
abbrev pub IsCommandAnswered : State → Result Command Refusal → Reply → State → Type 0
IsCommandAnswered m (Ok command) reply next = MatchBool (is_built command) (Steps m command reply next) (Refuses m BadLine reply next)
IsCommandAnswered m (Err refusal) reply next = Refuses m refusal reply next
