-- What is checked of keys and rows under a schema, in the order of the refusals.
use Rattle.std.specs.Prelude.{ℕ, Bool, true, false, ◌&&◌, ◌==◌, nat_le, nat_lt, List, [], ◌∷◌, length, Option, Result, Ok, Err, if◌then◌else◌}
use Rattle.std.specs.List.{list_all, position}
use Rattle.rc_cell.specs.declared.writes.Cell.{Cell}
use Rattle.rc_cell.specs.declared.writes.Cell.TheVariants.{Live, Dead}
use Rattle.rc_position.specs.declared.comps.Comp.{Comp}
use Rattle.rc_position.specs.declared.comps.Comp.TheVariants as comps
use Rattle.rc_position.specs.Position.{longest_text}
use Rattle.rc_schema.specs.declared.kinds.CkKind.{CkKind}
use Rattle.rc_schema.specs.declared.kinds.CkKind.TheVariants.{Int, Text}
use Rattle.rc_schema.specs.declared.checks.SchemaErr.{SchemaErr}
use Rattle.rc_schema.specs.declared.checks.SchemaErr.TheVariants.{WrongKey, UnknownColumn, TooLong}
use Rattle.rc_schema.specs.SchemaValue.{SchemaValue}
use Rattle.rc_spelling.specs.Words.{is_word}

-- the number of a name among names
abbrev pub column_of : List ℕ → List (List ℕ) → Option ℕ
column_of name names = position (λ other. is_word other name) names

-- the component is of the kind
abbrev pub is_of_kind : Comp → CkKind → Bool
is_of_kind (comps.Int number) Int = true
is_of_kind (comps.Text bytes) Text = true
is_of_kind component kind = false

-- each component has its kind, and there are no more components than kinds
abbrev pub are_of_kinds : List Comp → List CkKind → Bool
are_of_kinds [] kinds = true
are_of_kinds (component ∷ key) [] = false
are_of_kinds (component ∷ key) (kind ∷ kinds) = is_of_kind component kind && are_of_kinds key kinds

-- a text component is no longer than a text may be
abbrev pub is_short : Comp → Bool
is_short (comps.Int number) = true
is_short (comps.Text bytes) = nat_le (length bytes) longest_text

-- a value has at most 256 bytes
abbrev pub has_short_value : Cell → Bool
has_short_value (Live ts value) = nat_le (length value) 256
has_short_value (Dead ts dt) = true

-- whether a key, or where it need not be full a prefix of one, has the counts and kinds of components
abbrev pub fits_kinds : Bool → List CkKind → List Comp → Bool
fits_kinds full kinds key = are_of_kinds key kinds && (if full then length key == length kinds else true)

-- a key of the schema, or where it need not be full a prefix of one, each component within the limit
abbrev pub is_key_of : Bool → SchemaValue → List Comp → Bool
is_key_of full schema key = fits_kinds full schema.ck key && list_all is_short key

-- cells of so many columns, with values of at most 256 bytes
abbrev pub are_cells_of : ℕ → List (ℕ × Cell) → Bool
are_cells_of columns cells = list_all (λ e. nat_lt e.0 columns) cells && list_all (λ e. has_short_value e.1) cells

-- what is wrong with a key, or with a prefix of one
unfoldable pub checked_prefix : Bool → SchemaValue → List Comp → Result (Unit {0}) SchemaErr
checked_prefix full schema key =
    if fits_kinds full schema.ck key then (if list_all is_short key then Ok tt else Err TooLong) else Err WrongKey

-- how many columns a row may have
abbrev pub column_count : Bool → SchemaValue → ℕ
column_count is_static schema = if is_static then length schema.statics else length schema.cols

-- what is wrong with the cells of a row
unfoldable pub checked_cells : Bool → SchemaValue → List (ℕ × Cell) → Result (Unit {0}) SchemaErr
checked_cells is_static schema cells =
    if list_all (λ e. nat_lt e.0 (column_count is_static schema)) cells then (if list_all (λ e. has_short_value e.1) cells then Ok tt else Err TooLong) else Err UnknownColumn
