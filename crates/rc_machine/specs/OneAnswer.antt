-- What a reader gives over steps: the lines of one answer.
--     GivesFirst      a read gives the first of these lines, and those behind them are left
--     GivesAlong      so do all reads of a reader, one after another, until it is closed
use Rattle.std.specs.Prelude.{◌≡◌, ℕ, List, [], ◌∷◌, length, take, drop, nat_lt, MatchBool, ⊤}
use Rattle.rc_query.specs.declared.lines.OutLine.{OutLine}
use Rattle.rc_lines.specs.declared.commands.Command.{Command}
use Rattle.rc_lines.specs.declared.commands.Command.TheVariants.{Read}
use Rattle.rc_lines.specs.declared.commands.Reply.{Reply}
use Rattle.rc_lines.specs.declared.commands.Reply.TheVariants.{Given}
use Rattle.rc_machine.specs.Steps.{is_of}

-- A read gives the first of these lines, as many as it asks for, and tells whether there are more; of those behind them holds what follows, and of all of
-- them where the read is refused. Of a close, and of what comes behind it, nothing is said.
abbrev pub GivesFirst : Command → Reply → List OutLine → (List OutLine → Type 0) → Type 0
GivesFirst (Read id count) (Given gave more) lines Follows = (gave ≡ take count lines) × (more ≡ nat_lt count (length lines)) × Follows (drop count lines)
GivesFirst (Read id count) reply lines Follows = Follows lines
GivesFirst command reply lines Follows = ⊤

-- over steps the reads of a reader give these lines from the first one on, each those behind what was given before, until it is closed
abbrev pub GivesAlong : ℕ → List (Command × Reply) → List OutLine → Type 0
GivesAlong id [] lines = ⊤
GivesAlong id (step ∷ steps) lines = MatchBool (is_of id step.0) (GivesFirst step.0 step.1 lines (GivesAlong id steps)) (GivesAlong id steps lines)
