-- What is left of a slice behind lines that were given.
--     after_lines    what is left behind lines that were given
use Rattle.std.specs.Prelude.{◌||◌, Bool, true, List, [], ◌∷◌, Option, Some, None}
use Rattle.rc_position.specs.Position.{row_pos}
use Rattle.rc_query.specs.declared.lines.OutLine.{OutLine}
use Rattle.rc_query.specs.declared.lines.OutLine.TheVariants as line
use Rattle.rc_opened.specs.Behind.{begins_static}
use Rattle.rc_paging.specs.declared.remainders.Remainder.{Remainder}

-- the last line, if there is one
abbrev pub last_of : List OutLine → Option OutLine
last_of [] = None
last_of (l ∷ []) = Some l
last_of (l ∷ k ∷ ls) = last_of (k ∷ ls)

-- what is left behind a line, where the static line was given or not
abbrev pub after_line : Bool → Option OutLine → Remainder → Remainder
after_line told None r = r
after_line told (Some (line.Static values)) r = record { slice = r.slice; static_given = true; row_given = r.row_given }
after_line told (Some (line.Row key values)) r = record { slice = record { from = row_pos key; to = r.slice.to }; static_given = told; row_given = true }

-- what is left behind lines that were given: from the last row on, whose line was given
abbrev pub after_lines : List OutLine → Remainder → Remainder
after_lines lines r = after_line (r.static_given || begins_static lines) (last_of lines) r
