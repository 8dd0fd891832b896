-- Lines behind settled ones, without the static line.
--     without_static    lines without the static line at their front
use Rattle.std.specs.Prelude.{List, [], ◌∷◌}
use Rattle.rc_query.specs.declared.lines.OutLine.{OutLine}
use Rattle.rc_query.specs.declared.lines.OutLine.TheVariants as line

-- lines without the static line at their front, if there is one
abbrev pub without_static : List OutLine → List OutLine
without_static [] = []
without_static (line.Static values ∷ lines) = lines
without_static (line.Row key values ∷ lines) = line.Row key values ∷ lines
