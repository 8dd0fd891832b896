-- The writes that a memtable's chain stands for.
--     StandsFor        at the head, the static row and each position what is seen is what the writes say there
--     written_..       a write of one thing: a row at a key, a range tombstone, a static row, a partition tombstone
--     ArePartsFrom     parts one after another, from a place up to a bound
--     rows_of, part_pieces     the rows of parts, and their range tombstones, each over its gap or its row
use Rattle.std.specs.Prelude.{◌≡◌, List, [], ◌∷◌, ◌++◌, Option, Some, None}
use Rattle.rc_cell.specs.declared.rows.Row.{Row}
use Rattle.rc_cell.specs.declared.writes.Tomb.{Tomb}
use Rattle.rc_cell.specs.Orders.{tomb_cmp}
use Rattle.rc_cell.specs.Winner.{greatest, empty_row}
use Rattle.rc_position.specs.declared.comps.Comp.{Comp}
use Rattle.rc_position.specs.declared.positions.Pos.{Pos}
use Rattle.rc_position.specs.declared.positions.Weight.TheVariants.{After}
use Rattle.rc_position.specs.Position.{IsBefore, row_pos}
use Rattle.rc_mutation.specs.Piece.{Piece}
use Rattle.rc_mutation.specs.declared.mutations.Mutation.{Mutation}
use Rattle.rc_mutation.specs.Source.{source_at, source_at_head, source_at_static}
use Rattle.rc_core.specs.declared.entries.ChainKind.TheVariants.{Memtable}
use Rattle.rc_core.specs.declared.parts.Part.{Part}
use Rattle.rc_core.specs.declared.parts.Part.TheVariants as part
use Rattle.rc_core.specs.Version.{On, Version}
use Rattle.rc_core.specs.Chain.{content, states_at}
use Rattle.rc_core.specs.Continuity.{static_states, version_tombs}
use Rattle.rc_core.specs.Parts.{IsFirstPart}

-- at each place what is seen through the versions is what the writes say
pub record StandsFor (writes : List Mutation) (versions : List Version) : Type 0 where
  pub head : greatest tomb_cmp (version_tombs versions) ≡ source_at_head writes
  pub statics : content (static_states versions) ≡ (source_at_static writes, None)
  pub clustered : (x : Pos) → content (states_at (On x) versions) ≡ source_at writes x

-- ---- writes of one thing

-- a row at a key
abbrev pub written_row : List Comp → Row → Mutation
written_row key row = record { pt = None; statics = empty_row; rows = (key, row) ∷ []; ranges = [] }

-- a range tombstone
abbrev pub written_range : Pos → Pos → Tomb → Mutation
written_range from to tomb = record { pt = None; statics = empty_row; rows = []; ranges = record { from = from; to = to; tomb = tomb } ∷ [] }

-- a static row
abbrev pub written_statics : Row → Mutation
written_statics row = record { pt = None; statics = row; rows = []; ranges = [] }

-- a partition tombstone
abbrev pub written_pt : Tomb → Mutation
written_pt tomb = record { pt = Some tomb; statics = empty_row; rows = []; ranges = [] }

-- ---- the parts of a partition, put together

-- where the reader stands after a part that it got at a place
abbrev pub place_after : Part → Pos → Pos
place_after (part.Row key row tomb) x = record { prefix = key; weight = After }
place_after (part.Gap to tomb) x = to
place_after (part.Missing to) x = to
place_after part.End x = x

-- parts one after another, each the first one from where the one before it ended, up to a bound
abbrev pub ArePartsFrom : List Version → Pos → Pos → List Part → Type 0
ArePartsFrom versions x upto [] = x ≡ upto
ArePartsFrom versions x upto (p ∷ ps) = IsFirstPart Memtable versions x upto p × ArePartsFrom versions (place_after p x) upto ps

-- the row of a part
abbrev pub row_in_part : Part → List (List Comp × Row)
row_in_part (part.Row key row tomb) = (key, row) ∷ []
row_in_part (part.Gap to tomb) = []
row_in_part (part.Missing to) = []
row_in_part part.End = []

-- the rows of parts
abbrev pub rows_of : List Part → List (List Comp × Row)
rows_of [] = []
rows_of (p ∷ ps) = row_in_part p ++ rows_of ps

-- a tombstone over a stretch, where there is one
abbrev pub piece_over : Pos → Pos → Option Tomb → List Piece
piece_over from to None = []
piece_over from to (Some tomb) = record { from = from; to = to; tomb = tomb } ∷ []

-- the range tombstone of a part, from where it was got
abbrev pub piece_of : Part → Pos → List Piece
piece_of (part.Row key row tomb) x = piece_over x (record { prefix = key; weight = After }) tomb
piece_of (part.Gap to tomb) x = piece_over x to tomb
piece_of (part.Missing to) x = []
piece_of part.End x = []

-- the range tombstones of parts
abbrev pub part_pieces : Pos → List Part → List Piece
part_pieces x [] = []
part_pieces x (p ∷ ps) = piece_of p x ++ part_pieces (place_after p x) ps

-- the writes say the same from the position of a key up to what is behind it, but for the row itself: no range of theirs begins or ends there
abbrev pub IsWholeAt : List Mutation → List Comp → Type 0
IsWholeAt writes key = (y : Pos) → IsBefore (row_pos key) y → IsBefore y (record { prefix = key; weight = After }) → source_at writes y ≡ (empty_row, (source_at writes (row_pos key)).1)
