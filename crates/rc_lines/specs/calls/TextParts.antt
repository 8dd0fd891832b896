-- The texts of replies in pieces, as they are printed.
use Rattle.std.specs.Prelude.{ℕ, Bool, List, [], ◌++◌, flat_map, codes, decimal, if◌then◌else◌}
use Rattle.rc_schema.specs.SchemaValue.{SchemaValue}
use Rattle.rc_query.specs.declared.lines.OutLine.{OutLine}
use Rattle.rc_lines.specs.declared.commands.Refusal.{Refusal}
use Rattle.rc_lines.specs.declared.commands.Refusal.TheVariants.{Damaged}
use Rattle.rc_lines.specs.Texts.{line_text, refusal_text}

-- the lines that a reader is given, and whether there are more
abbrev pub given_text : SchemaValue → List OutLine → Bool → List ℕ
given_text schema lines more = flat_map (line_text schema) lines ++ (if more then codes "more\n" else codes "end\n")

-- the text of a refusal that has no number in it
abbrev pub fixed_text : Refusal → List ℕ
fixed_text (Damaged file offset) = []
fixed_text other = refusal_text other

-- a name and a figure
unfoldable pub named_figure : List ℕ × ℕ → List ℕ
named_figure figure = figure.0 ++ decimal figure.1
