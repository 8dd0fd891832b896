-- Which commands fit a schema: those that a line under it can give.
use Rattle.rc_position.specs.Position.{IsBefore}
use Rattle.rc_schema.specs.SchemaValue.{SchemaValue}
use Rattle.rc_writes.specs.Allowed.{ChangeFits, IsRangeBound}
use Rattle.rc_writes.specs.Single.{IsSingle}
use Rattle.rc_lines.specs.declared.commands.Command.{Command}
use Rattle.rc_lines.specs.declared.commands.Command.TheVariants.{Put, OpenRead}

-- a command that fits a schema: a write is single and fits it; the bounds of a reader fit it, the first before the second
abbrev pub CommandFits : SchemaValue → Command → Type 0
CommandFits schema (Put write) = IsSingle write.change × ChangeFits schema write.change
CommandFits schema (OpenRead id key slice) = IsBefore slice.from slice.to × IsRangeBound schema slice.from × IsRangeBound schema slice.to
CommandFits schema other = Unit {0}
