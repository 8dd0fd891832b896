-- What one line can say before a schema is known, and the line that says it.
use Rattle.std.specs.Prelude.{ℕ, ◌≤◌, ◌≡◌, Bool, true, false, ◌||◌, List, [], ◌∷◌, ◌++◌, length, map as list_map, codes, Option, Some, None, if◌then◌else◌}
use Rattle.std.specs.Fmt.{decimal, signed_decimal}
use Rattle.std.specs.Int.{w64}
use Rattle.std.specs.Int.RustNames.{FitsSigned}
use Rattle.std.specs.List.{AllByRecursion, join_with_byte}
use Rattle.std.specs.Option.{option_map}
use Rattle.rc_cell.specs.declared.writes.Cell.{Cell}
use Rattle.rc_cell.specs.declared.writes.Cell.TheVariants.{Live, Dead}
use Rattle.rc_mutation.specs.Fragments.{has_any}
use Rattle.rc_position.specs.declared.comps.Comp.TheVariants.{Text}
use Rattle.rc_rowcode.specs.Spelling.{IsTomb}
use Rattle.rc_schema.specs.SchemaValue.{is_name}
use Rattle.rc_spelling.specs.Printed.{AreBytes, printed_bytes, key_text}
use Rattle.rc_lines.specs.declared.shapes.Bound.{Bound}
use Rattle.rc_lines.specs.declared.shapes.Change.{Change}
use Rattle.rc_lines.specs.declared.shapes.Change.TheVariants.{OfRow, OfStatic, OfRange, OfPartition}
use Rattle.rc_lines.specs.declared.shapes.Shape.{Shape}
use Rattle.rc_lines.specs.declared.shapes.Shape.TheVariants.{Plain, Open, Written}
use Rattle.rc_lines.specs.declared.shapes.Stamp.{Stamp}
use Rattle.rc_lines.specs.declared.shapes.Stamp.TheVariants.{Alive, Gone}
use Rattle.rc_lines.specs.Plain.{IsCount}
use Rattle.rc_lines.specs.calls.ShapeParts.{are_distinct}

-- ---- the line

-- the components of a key or of a prefix, with commas between them
abbrev pub prefix_word : List (List ℕ) → List ℕ
prefix_word pieces = key_text (list_map (λ piece. Text piece) pieces)

-- FROM: no bound, or a prefix behind its mark
abbrev pub from_text : Bool → List (List ℕ) → List ℕ
from_text inclusive [] = codes "-"
from_text inclusive (piece ∷ pieces) = (if inclusive then 91 else 40) ∷ prefix_word (piece ∷ pieces)

-- TO: no bound, or a prefix before its mark
abbrev pub to_text : Bool → List (List ℕ) → List ℕ
to_text inclusive [] = codes "-"
to_text inclusive (piece ∷ pieces) = prefix_word (piece ∷ pieces) ++ (if inclusive then 93 else 41) ∷ []

-- `from=FROM to=TO`
abbrev pub range_words : Bound → Bound → List (List ℕ)
range_words from to = (codes "from=" ++ from_text from.inclusive from.pieces) ∷ (codes "to=" ++ to_text to.inclusive to.pieces) ∷ []

-- `ts=TS` of live cells, `ts=TS dt=DT` of tombstones and dead cells
abbrev pub stamp_words : Stamp → List (List ℕ)
stamp_words (Alive ts) = (codes "ts=" ++ signed_decimal ts) ∷ []
stamp_words (Gone tomb) = (codes "ts=" ++ signed_decimal tomb.ts) ∷ (codes "dt=" ++ decimal tomb.dt) ∷ []

-- the stamp of a cell
abbrev pub cell_stamp : Cell → Stamp
cell_stamp (Live ts value) = Alive ts
cell_stamp (Dead ts dt) = Gone (record { ts = ts; dt = dt })

-- what stands behind the name of a cell: `=VALUE`, or nothing where the cell is dead
abbrev pub behind_name : Cell → List ℕ
behind_name (Live ts value) = 61 ∷ printed_bytes value
behind_name (Dead ts dt) = []

-- a name with its cell
abbrev pub cell_word : List ℕ × Cell → List ℕ
cell_word e = e.0 ++ behind_name e.1

-- the words of cells of one stamp
abbrev pub cells_words : Stamp → List (List ℕ × Cell) → List (List ℕ)
cells_words stamp cells = stamp_words stamp ++ list_map cell_word cells

-- the first word of a write of cells without a marker, to a row or to the static row
abbrev pub cells_verb : Bool → Stamp → List ℕ
cells_verb is_static (Alive ts) = if is_static then codes "static" else codes "update"
cells_verb is_static (Gone tomb) = if is_static then codes "unstatic" else codes "unset"

-- the words of what is written to the partition of KEY, where one line can write it
abbrev pub change_words : List ℕ → Change → Option (List (List ℕ))
change_words key (OfRow ck (Some ts) None cells) = Some (codes "insert" ∷ key ∷ prefix_word ck ∷ cells_words (Alive ts) cells)
change_words key (OfRow ck None (Some tomb) []) = Some (codes "delete" ∷ key ∷ prefix_word ck ∷ stamp_words (Gone tomb))
change_words key (OfRow ck None None (cell ∷ cells)) =
    Some (cells_verb false (cell_stamp cell.1) ∷ key ∷ prefix_word ck ∷ cells_words (cell_stamp cell.1) (cell ∷ cells))
change_words key (OfStatic (cell ∷ cells)) = Some (cells_verb true (cell_stamp cell.1) ∷ key ∷ cells_words (cell_stamp cell.1) (cell ∷ cells))
change_words key (OfRange from to tomb) = Some (codes "delrange" ∷ key ∷ (range_words from to ++ stamp_words (Gone tomb)))
change_words key (OfPartition tomb) = Some (codes "delpart" ∷ key ∷ stamp_words (Gone tomb))
change_words key other = None

-- the words of a slice, and none of the whole partition
abbrev pub slice_words : Bound → Bound → List (List ℕ)
slice_words from to = if has_any from.pieces || has_any to.pieces then range_words from to else []

-- the words of a shape; a command that is the same under each schema has its `plain_line`
abbrev pub shape_words : Shape → Option (List (List ℕ))
shape_words (Plain command) = None
shape_words (Open id key from to) = Some (codes "open" ∷ decimal id ∷ printed_bytes key ∷ slice_words from to)
shape_words (Written key change) = change_words (printed_bytes key) change

-- the line of a shape: its words with one space between them
abbrev pub shape_line : Shape → Option (List ℕ)
shape_line shape = option_map (join_with_byte 32) (shape_words shape)

-- ---- what it says

-- a partition key: one byte and more
abbrev pub IsSomeKey : List ℕ → Type 0
IsSomeKey key = AreBytes key × (1 ≤ length key)

-- one to five components; no schema has five
abbrev pub IsPrefix : List (List ℕ) → Type 0
IsPrefix pieces = AllByRecursion AreBytes pieces × (1 ≤ length pieces) × (length pieces ≤ 5)

-- a bound at a prefix, or no bound, which is inclusive
abbrev pub IsLimit : Bool → List (List ℕ) → Type 0
IsLimit inclusive [] = inclusive ≡ true
IsLimit inclusive (piece ∷ pieces) = IsPrefix (piece ∷ pieces)

-- where a range begins or ends
abbrev pub IsBound : Bound → Type 0
IsBound bound = IsLimit bound.inclusive bound.pieces

-- a timestamp, or both numbers of a tombstone, within their widths
abbrev pub IsStampInRange : Stamp → Type 0
IsStampInRange (Alive ts) = FitsSigned w64 ts
IsStampInRange (Gone tomb) = IsTomb tomb

-- a cell of a stamp; its value is bytes
abbrev pub IsStamped : Stamp → Cell → Type 0
IsStamped stamp (Live ts value) = (stamp ≡ Alive ts) × AreBytes value
IsStamped stamp (Dead ts dt) = stamp ≡ Gone (record { ts = ts; dt = dt })

-- a column's name with such a cell
abbrev pub IsNamedCell : Stamp → List ℕ × Cell → Type 0
IsNamedCell stamp e = (is_name e.0 ≡ true) × IsStamped stamp e.1

-- cells of one stamp, no name twice
abbrev pub AreSayableCells : Stamp → List (List ℕ × Cell) → Type 0
AreSayableCells stamp cells = IsStampInRange stamp × (AllByRecursion (IsNamedCell stamp) cells × (are_distinct cells ≡ true))

-- what one line can write
abbrev pub IsSayableChange : Change → Type 0
IsSayableChange (OfRow ck (Some ts) tomb cells) = IsPrefix ck × AreSayableCells (Alive ts) cells
IsSayableChange (OfRow ck None (Some tomb) cells) = IsPrefix ck × IsTomb tomb
IsSayableChange (OfRow ck None None []) = Unit {0}
IsSayableChange (OfRow ck None None (cell ∷ cells)) = IsPrefix ck × AreSayableCells (cell_stamp cell.1) (cell ∷ cells)
IsSayableChange (OfStatic []) = Unit {0}
IsSayableChange (OfStatic (cell ∷ cells)) = AreSayableCells (cell_stamp cell.1) (cell ∷ cells)
IsSayableChange (OfRange from to tomb) = IsBound from × IsBound to × IsTomb tomb
IsSayableChange (OfPartition tomb) = IsTomb tomb

-- what one line can say: numbers within their widths, bytes, names, and cells of one stamp
abbrev pub IsSayable : Shape → Type 0
IsSayable (Plain command) = Unit {0}
IsSayable (Open id key from to) = IsCount id × IsSomeKey key × IsBound from × IsBound to
IsSayable (Written key change) = IsSomeKey key × IsSayableChange change
