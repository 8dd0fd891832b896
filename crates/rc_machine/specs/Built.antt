-- Which commands the program serves today: the one place that says so.
use Rattle.std.specs.Prelude.{Bool, Result, Ok, Err}
use Rattle.std.specs.Result.{is_ok}
use Rattle.rc_lines.specs.declared.commands.Command.{Command}
use Rattle.rc_lines.specs.declared.commands.Command.TheVariants.{FlushBegin, FlushStep, Clean}
use Rattle.rc_lines.specs.declared.commands.Refusal.{Refusal}
use Rattle.rc_lines.specs.declared.commands.Refusal.TheVariants.{BadLine}

-- a line of a command that is not served, one of a flush in steps or of cleaning, is a bad line
abbrev pub served_meaning : Result Command Refusal → Result Command Refusal
served_meaning (Ok FlushBegin) = Err BadLine
served_meaning (Ok (FlushStep count)) = Err BadLine
served_meaning (Ok (Clean count)) = Err BadLine
served_meaning meaning = meaning

-- whether a command is served
abbrev pub is_built : Command → Bool
is_built command = is_ok (served_meaning (Ok command))
