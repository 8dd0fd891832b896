-- What a compactor makes of the fragments of one partition, one after another: it keeps the head, and the range tombstone in force.
use Rattle.std.specs.Prelude.{List, [], ◌∷◌, ◌++◌, Option, None}
use Rattle.std.specs.Option.{option_to_list}
use Rattle.std.specs.List.{cons_option}
use Rattle.rc_cell.specs.declared.writes.Tomb.{Tomb}
use Rattle.rc_cell.specs.Greatest.{greater}
use Rattle.rc_cell.specs.Orders.{tomb_cmp}
use Rattle.rc_mutation.specs.declared.fragments.Frag.{Frag}
use Rattle.rc_mutation.specs.declared.fragments.Frag.TheVariants as frag
use Rattle.rc_mutation.specs.declared.fragments.Head.{Head}
use Rattle.rc_query.specs.declared.lines.OutLine.{OutLine}
use Rattle.rc_query.specs.Answer.{static_line}
pub use Rattle.rc_mutation.specs.Slices.{fragments_in, is_between, opening_change}
use Rattle.rc_query.specs.laws.Answers.{row_line}
use Rattle.rc_mutation.specs.Fragments.{tomb_after}

-- the line of a fragment under the partition tombstone and the range tombstone in force
abbrev pub fragment_line : Option Tomb → Option Tomb → Frag → Option OutLine
fragment_line head tomb (frag.Start pt) = None
fragment_line head tomb (frag.Static row) = None
fragment_line head tomb (frag.Row key row) = row_line (greater tomb_cmp head tomb) key row
fragment_line head tomb (frag.Change from next) = None
fragment_line head tomb frag.End = None

-- the lines of fragments, one after another
abbrev pub compacted_lines : Option Tomb → Option Tomb → List Frag → List OutLine
compacted_lines head tomb [] = []
compacted_lines head tomb (f ∷ fs) = cons_option (fragment_line head tomb f) (compacted_lines head (tomb_after tomb f) fs)

-- the static line first
abbrev pub compacted_all : Head → List Frag → List OutLine
compacted_all head fragments = option_to_list (static_line head.pt (head.statics ∷ [])) ++ compacted_lines head.pt None fragments
