-- Rows and changes that were read, one after another, and what is made of them.
use Rattle.std.specs.Prelude.{◌≡◌, ◌≢◌, All, ℕ, List, [], ◌∷◌, ◌++◌, Option, Some, None, if◌then◌else◌, nat_lt, length, take}
use Rattle.std.specs.Option.{option_map}
use Rattle.std.specs.Int.{w64, from_le_bytes}
use Rattle.rc_cell.specs.declared.rows.Row.{Row}
use Rattle.rc_cell.specs.declared.writes.Tomb.{Tomb}
use Rattle.rc_cell.specs.Winner.{empty_row}
use Rattle.rc_position.specs.declared.comps.Comp.{Comp}
use Rattle.rc_position.specs.declared.positions.Pos.{Pos}
use Rattle.rc_position.specs.Position.{row_pos}
use Rattle.rc_ranges.specs.declared.pieces.Piece.{Piece}
use Rattle.rc_mutation.specs.declared.fragments.Frag.{Frag}
use Rattle.rc_mutation.specs.declared.fragments.Frag.TheVariants as frag
use Rattle.rc_mutation.specs.Canonical.{ComesNext}
use Rattle.rc_mutation.specs.Fragments.{tomb_after}
use Rattle.rc_schema.specs.SchemaValue.{SchemaValue}
use Rattle.rc_stream.specs.Merging.{place_of}
use Rattle.rc_writes.specs.Allowed.{IsRangeBound, IsRowOf}
use Rattle.rc_tfile.specs.Items.{RowItem, ChangeItem, item_code, IsItem}

-- the spelling of a row or a change; the other fragments have none of their own
abbrev pub frag_code : Frag → List ℕ
frag_code (frag.Start pt) = []
frag_code (frag.Static row) = []
frag_code (frag.Row key row) = item_code (RowItem key row)
frag_code (frag.Change x tomb) = item_code (ChangeItem x tomb)
frag_code frag.End = []

-- a row or a change whose values are within their limits
abbrev pub IsSpellable : Frag → Type 0
IsSpellable (frag.Start pt) = ⊥
IsSpellable (frag.Static row) = ⊥
IsSpellable (frag.Row key row) = IsItem (RowItem key row)
IsSpellable (frag.Change x tomb) = IsItem (ChangeItem x tomb)
IsSpellable frag.End = ⊥

-- the rows among fragments, each with its key
abbrev pub rows_among : List Frag → List (List Comp × Row)
rows_among [] = []
rows_among (frag.Start pt ∷ fs) = rows_among fs
rows_among (frag.Static row ∷ fs) = rows_among fs
rows_among (frag.Row key row ∷ fs) = (key, row) ∷ rows_among fs
rows_among (frag.Change x tomb ∷ fs) = rows_among fs
rows_among (frag.End ∷ fs) = rows_among fs

-- something was written of each row
abbrev pub NoRowIsEmpty : List (List Comp × Row) → Type 0
NoRowIsEmpty rows = All (λ e. e.1 ≢ empty_row) rows

-- the changes among fragments
abbrev pub changes_among : List Frag → List (Pos × Option Tomb)
changes_among [] = []
changes_among (frag.Start pt ∷ fs) = changes_among fs
changes_among (frag.Static row ∷ fs) = changes_among fs
changes_among (frag.Row key row ∷ fs) = changes_among fs
changes_among (frag.Change x tomb ∷ fs) = (x, tomb) ∷ changes_among fs
changes_among (frag.End ∷ fs) = changes_among fs

-- the range that ends at x, where one had begun
abbrev pub ended_range : Option (Pos × Tomb) → Pos → List Piece
ended_range None x = []
ended_range (Some begun) x = record { from = begun.0; to = x; tomb = begun.1 } ∷ []

-- the range that begins at x, where a tombstone is in force from there on
abbrev pub open_range : Pos → Option Tomb → Option (Pos × Tomb)
open_range x None = None
open_range x (Some tomb) = Some (x, tomb)

-- the ranges between changes, of which one may have begun before; none where the last does not end
abbrev pub pieces_between : List (Pos × Option Tomb) → Option (Pos × Tomb) → Option (List Piece)
pieces_between [] None = Some []
pieces_between [] (Some start) = None
pieces_between (c ∷ cs) start = option_map (λ ps. ended_range start c.0 ++ ps) (pieces_between cs (open_range c.0 c.1))

-- a number in eight bytes at the front, if there are as many
unfoldable pub number_at_front : List ℕ → Option ℕ
number_at_front bytes = if nat_lt (length bytes) 8 then None else Some (from_le_bytes w64 (take 8 bytes))

-- a row or a change of the schema may stand behind a last position, with a tombstone in force there: it stands behind it; something was
-- written of a row; a change has another tombstone than the one in force
abbrev pub MayCome : SchemaValue → Option Tomb → Option Pos → Frag → Type 0
MayCome schema tomb last (frag.Row key row) = ComesNext last (row_pos key) × (row ≢ empty_row) × IsRowOf schema key row
MayCome schema tomb last (frag.Change x next) = ComesNext last x × (next ≢ tomb) × IsRangeBound schema x
MayCome schema tomb last f = ⊥

-- rows and changes of the schema, each of which may stand behind those before it; at the end no tombstone is in force
abbrev pub AllCome : SchemaValue → Option Tomb → Option Pos → List Frag → Type 0
AllCome schema tomb last [] = tomb ≡ None
AllCome schema tomb last (f ∷ fs) = MayCome schema tomb last f × AllCome schema (tomb_after tomb f) (Some (place_of f).0) fs
