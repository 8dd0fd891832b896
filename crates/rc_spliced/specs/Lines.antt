-- The lines of an answer before a position, and those from there on.
use Rattle.std.specs.Prelude.{Bool, true, not, List, filter}
use Rattle.std.specs.Ordering.{is_lt}
use Rattle.rc_position.specs.declared.positions.Pos.{Pos}
use Rattle.rc_position.specs.Position.{pos_cmp, row_pos}
use Rattle.rc_query.specs.declared.lines.OutLine.{OutLine}
use Rattle.rc_query.specs.declared.lines.OutLine.TheVariants as line

-- whether a line stands before x: a row's line stands where its row does, and the static line before every position
abbrev pub is_line_before : Pos → OutLine → Bool
is_line_before x (line.Static shown) = true
is_line_before x (line.Row key shown) = is_lt (pos_cmp (row_pos key) x)

-- the lines that stand before x
abbrev pub lines_short_of : Pos → List OutLine → List OutLine
lines_short_of x lines = filter (is_line_before x) lines

-- the lines that stand at x or behind it
abbrev pub lines_from : Pos → List OutLine → List OutLine
lines_from x lines = filter (λ line. not (is_line_before x line)) lines
