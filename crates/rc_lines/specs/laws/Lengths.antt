-- The line of a command that fits the schema is not too long.
use Rattle.std.proofs.Common.{◌≡◌, ◌≤◌, ◌*◌, ◌/◌, ◌%◌, ℕ, ℤ, pos, negsuc, suc, ◌+◌, Bool, true, false, cond, not, ◌&&◌, ◌||◌, nat_le, List, [], ◌∷◌, ◌++◌, length, get_or, subst, arith}
use Rattle.std.specs.Prelude.{codes, map as list_map}
use Rattle.std.specs.declared.option.Option.{Option}
use Rattle.std.specs.declared.option.Option.TheVariants.{Some, None}
use Rattle.std.specs.Fmt.{decimal, signed_decimal}
use Rattle.std.specs.Int.{w64}
use Rattle.std.specs.Int.RustNames.{FitsSigned}
use Rattle.std.specs.List.{list_all, join_with_byte}
use Rattle.std.proofs.lemmas.Fmt.{length-decimal-le}
use Rattle.std.proofs.lemmas.Int.{ints}
use Rattle.std.proofs.lemmas.List.{length-append}
use Rattle.rc_cell.specs.declared.writes.Cell.{Cell}
use Rattle.rc_cell.specs.declared.writes.Cell.TheVariants.{Live, Dead}
use Rattle.rc_cell.specs.declared.writes.Tomb.{Tomb}
use Rattle.rc_mutation.specs.Fragments.{has_any}
use Rattle.rc_position.specs.declared.comps.Comp.{Comp}
use Rattle.rc_position.specs.declared.comps.Comp.TheVariants as comps
use Rattle.rc_position.specs.declared.positions.Pos.{Pos}
use Rattle.rc_rowcode.specs.Spelling.{IsTomb}
use Rattle.rc_schema.specs.Checks.{is_short, has_short_value}
use Rattle.rc_schema.specs.declared.kinds.CkKind.{CkKind}
use Rattle.rc_schema.specs.declared.kinds.CkKind.TheVariants.{Int, Text}
use Rattle.rc_schema.specs.SchemaValue.{SchemaValue, is_name, is_name_byte}
use Rattle.rc_schema.specs.SchemaText.{kind_text, names_text, schema_text}
use Rattle.rc_spelling.specs.Printed.{IsComponent, bytes_of_component, stands_for_itself, hexadecimal, printed_bytes, component_text, spelled_byte}
use Rattle.rc_lines.specs.declared.shapes.Change.TheVariants.{OfRow, OfStatic, OfRange, OfPartition}
use Rattle.rc_lines.specs.declared.shapes.Shape.TheVariants.{Open, Written}
use Rattle.rc_lines.specs.declared.shapes.Stamp.{Stamp}
use Rattle.rc_lines.specs.declared.shapes.Stamp.TheVariants.{Alive, Gone}
use Rattle.rc_lines.specs.Lines.{pieces_said, is_before, start_said, end_said, cells_said, AreComponents, HasOneStamp}
use Rattle.rc_lines.specs.Plain.{IsCount}
use Rattle.rc_lines.specs.Sayable.{prefix_word, from_text, to_text, range_words, slice_words, stamp_words, cell_stamp, behind_name, cell_word, cells_words, cells_verb, shape_line, IsStampInRange}
use Rattle.rc_lines.specs.calls.ShapeMeaning.{are_short, have_short_values}
use Rattle.rc_lines.specs.laws.Columns.{AreBelow, name_at}
use Rattle.rc_lines.specs.laws.Halves.{both, up_to}

-- ---- words

-- the bytes of words, with one byte behind each
abbrev total : List (List ℕ) → ℕ
total [] = 0
total (word ∷ words) = length word + 1 + total words

joined_short : (mark : ℕ) (words : List (List ℕ)) → length (join_with_byte mark words) ≤ total words
joined_short mark [] = omega arith
joined_short mark (word ∷ []) = omega arith
joined_short mark (word ∷ next ∷ rest) = omega (arith, length-append word (mark ∷ join_with_byte mark (next ∷ rest)), joined_short mark (next ∷ rest))

total_append : (words others : List (List ℕ)) → total (words ++ others) ≡ total words + total others
total_append [] others = omega arith
total_append (word ∷ words) others = omega (arith, total_append words others)

line_short : (words : List (List ℕ)) (line : List ℕ) → ◌≡◌ {A = Option (List ℕ)} (Some (join_with_byte 32 words)) (Some line) → total words ≤ 65536 → length line ≤ 65536
line_short words line e few =
    let same : join_with_byte 32 words ≡ line = cc in
    subst (λ (l : List ℕ). length l ≤ 65536) same (omega (arith, joined_short 32 words, few))

-- ---- numbers, bytes and components

count_short : (n : ℕ) → n ≤ 4294967295 → length (decimal n) ≤ 10
count_short n most = length-decimal-le 10 n (omega arith) (omega arith) (omega arith)

signed_short : (number : ℤ) → FitsSigned w64 number → length (signed_decimal number) ≤ 21
signed_short (pos n) fits = omega (arith, length-decimal-le 20 n (omega arith) (omega (arith, ints)) (omega (arith, ints)))
signed_short (negsuc n) fits = omega (arith, length-decimal-le 20 (suc n) (omega arith) (omega (arith, ints)) (omega (arith, ints)))

byte_short : (byte : ℕ) → length (spelled_byte byte) ≤ 3
byte_short byte =
    elim (stands_for_itself byte) as (λ b. length (cond b (byte ∷ []) (37 ∷ hexadecimal (byte / 16) ∷ hexadecimal (byte % 16) ∷ [])) ≤ 3) [
      | true ↦ omega arith
      | false ↦ omega arith
    ]

pub spelled_short : (bytes : List ℕ) → length (printed_bytes bytes) ≤ 3 * length bytes
spelled_short [] = omega arith
spelled_short (byte ∷ bytes) = omega (arith, length-append (spelled_byte byte) (printed_bytes bytes), byte_short byte, spelled_short bytes)

text_short : (bytes : List ℕ) → length (component_text (comps.Text bytes)) ≤ 3 * length bytes + 2
text_short [] = omega arith
text_short (byte ∷ bytes) = omega (arith, spelled_short (byte ∷ bytes))

component_short : (component : Comp) → is_short component ≡ true → IsComponent component → length (component_text (comps.Text (bytes_of_component component))) ≤ 194
component_short (comps.Int number) h is = omega (arith, text_short (signed_decimal number), signed_short number is)
component_short (comps.Text bytes) h is = omega (arith, text_short bytes, up_to (length bytes) 64 h)

pub prefix_short : (prefix : List Comp) → are_short prefix ≡ true → AreComponents prefix → length (prefix_word (pieces_said prefix)) ≤ 195 * length prefix
prefix_short [] h is = omega arith
prefix_short (component ∷ []) h is = omega (arith, component_short component (both (is_short component) true h).0 is.0)
prefix_short (component ∷ next ∷ prefix) h is =
    let halves = both (is_short component) (list_all is_short (next ∷ prefix)) h in
    omega (
      arith,
      length-append (component_text (comps.Text (bytes_of_component component))) (44 ∷ prefix_word (pieces_said (next ∷ prefix))),
      component_short component halves.0 is.0,
      prefix_short (next ∷ prefix) halves.1 is.1,
    )

from_short : (inclusive : Bool) (prefix : List Comp) → are_short prefix ≡ true → AreComponents prefix → length (from_text inclusive (pieces_said prefix)) ≤ 195 * length prefix + 1
from_short inclusive [] h is = omega arith
from_short inclusive (component ∷ prefix) h is = omega (arith, prefix_short (component ∷ prefix) h is)

to_short : (inclusive : Bool) (prefix : List Comp) → are_short prefix ≡ true → AreComponents prefix → length (to_text inclusive (pieces_said prefix)) ≤ 195 * length prefix + 1
to_short inclusive [] h is = omega arith
to_short inclusive (component ∷ prefix) h is =
    omega (arith, length-append (prefix_word (pieces_said (component ∷ prefix))) (cond inclusive 93 41 ∷ []), prefix_short (component ∷ prefix) h is)

-- ---- the words of a command

-- a prefix of at most four components, of at most 64 bytes each
abbrev pub IsShortPrefix : List Comp → Type 0
IsShortPrefix prefix = (are_short prefix ≡ true) × (AreComponents prefix × (length prefix ≤ 4))

range_short : (from to : Pos) → IsShortPrefix from.prefix → IsShortPrefix to.prefix → total (range_words (start_said from) (end_said to)) ≤ 1572
range_short from to f t =
    omega (arith, from_short (is_before from.weight) from.prefix f.0 f.1.0, f.1.1, to_short (not (is_before to.weight)) to.prefix t.0 t.1.0, t.1.1)

slice_short : (from to : Pos) → IsShortPrefix from.prefix → IsShortPrefix to.prefix → total (slice_words (start_said from) (end_said to)) ≤ 1572
slice_short from to f t =
    elim (has_any (pieces_said from.prefix) || has_any (pieces_said to.prefix)) as (λ b. total (cond b (range_words (start_said from) (end_said to)) []) ≤ 1572) [
      | true ↦ range_short from to f t
      | false ↦ omega arith
    ]

stamp_short : (stamp : Stamp) → IsStampInRange stamp → total (stamp_words stamp) ≤ 40
stamp_short (Alive ts) is = omega (arith, signed_short ts is)
stamp_short (Gone tomb) is = omega (arith, signed_short tomb.ts is.0, count_short tomb.dt (omega (arith, is.1)))

verb_short : (is_static : Bool) (stamp : Stamp) → length (cells_verb is_static stamp) ≤ 8
verb_short true (Alive ts) = omega arith
verb_short false (Alive ts) = omega arith
verb_short true (Gone tomb) = omega arith
verb_short false (Gone tomb) = omega arith

name_short : (name : List ℕ) → is_name name ≡ true → length name ≤ 32
name_short [] h = omega arith
name_short (first ∷ rest) h =
    let halves = both _ (nat_le (length rest) 31 && list_all is_name_byte rest) h in
    omega (arith, up_to (length rest) 31 (both (nat_le (length rest) 31) (list_all is_name_byte rest) halves.1).0)

value_short : (cell : Cell) → has_short_value cell ≡ true → length (behind_name cell) ≤ 769
value_short (Live ts value) h = omega (arith, spelled_short value, up_to (length value) 256 h)
value_short (Dead ts dt) h = omega arith

cells_short : (names : List (List ℕ)) (cells : List (ℕ × Cell)) → list_all is_name names ≡ true → AreBelow (length names) cells → have_short_values cells ≡ true
    → total (list_map cell_word (cells_said names cells)) ≤ 802 * length cells
cells_short names [] h below short = omega arith
cells_short names (e ∷ cells) h below short =
    let halves = both (has_short_value e.1) (list_all (λ e. has_short_value e.1) cells) short in
    omega (arith, length-append (get_or names e.0 []) (behind_name e.1), name_short (get_or names e.0 []) (name_at names e.0 h below.0), value_short e.1 halves.0, cells_short names cells h below.1 halves.1)

-- ---- the lines

module _ (key line : List ℕ) (key_short : length (printed_bytes key) ≤ 192) where
  pub partition_short : (tomb : Tomb) → IsTomb tomb → shape_line (Written key (OfPartition tomb)) ≡ Some line → length line ≤ 65536
  partition_short tomb is e =
      line_short (codes "delpart" ∷ printed_bytes key ∷ stamp_words (Gone tomb)) line e (omega (arith, key_short, stamp_short (Gone tomb) is))

  pub piece_short : (from to : Pos) (tomb : Tomb) → IsShortPrefix from.prefix → IsShortPrefix to.prefix → IsTomb tomb
      → shape_line (Written key (OfRange (start_said from) (end_said to) tomb)) ≡ Some line → length line ≤ 65536
  piece_short from to tomb f t is e =
      line_short (codes "delrange" ∷ printed_bytes key ∷ (range_words (start_said from) (end_said to) ++ stamp_words (Gone tomb))) line e
      (omega (arith, key_short, range_short from to f t, stamp_short (Gone tomb) is, total_append (range_words (start_said from) (end_said to)) (stamp_words (Gone tomb))))

  pub open_short : (id : ℕ) (from to : Pos) → IsCount id → IsShortPrefix from.prefix → IsShortPrefix to.prefix
      → shape_line (Open id key (start_said from) (end_said to)) ≡ Some line → length line ≤ 65536
  open_short id from to n f t e =
      line_short (codes "open" ∷ decimal id ∷ printed_bytes key ∷ slice_words (start_said from) (end_said to)) line e (omega (arith, key_short, count_short id n.1, slice_short from to f t))

  module _ (names : List (List ℕ)) (h : list_all is_name names ≡ true) (few : length names ≤ 32) where
    words_short : (stamp : Stamp) (cells : List (ℕ × Cell)) → AreBelow (length names) cells → have_short_values cells ≡ true → length cells ≤ 32 → IsStampInRange stamp
        → total (cells_words stamp (cells_said names cells)) ≤ 25704
    words_short stamp cells below short count is =
        omega (arith, total_append (stamp_words stamp) (list_map cell_word (cells_said names cells)), stamp_short stamp is, cells_short names cells h below short, count)

    pub row_short : (ck : List Comp) (marker : Option ℤ) (tomb : Option Tomb) (cells : List (ℕ × Cell)) → IsShortPrefix ck → AreBelow (length names) cells → have_short_values cells ≡ true → length cells ≤ 32
        → HasOneStamp marker tomb cells → shape_line (Written key (OfRow (pieces_said ck) marker tomb (cells_said names cells))) ≡ Some line → length line ≤ 65536
    row_short ck (Some ts) None cells p below short count one e =
        line_short (codes "insert" ∷ printed_bytes key ∷ prefix_word (pieces_said ck) ∷ cells_words (Alive ts) (cells_said names cells)) line e
        (omega (arith, key_short, prefix_short ck p.0 p.1.0, p.1.1, words_short (Alive ts) cells below short count one.0))
    row_short ck (Some ts) (Some tomb) cells p below short count one e = absurd (cc)
    row_short ck None (Some tomb) [] p below short count one e =
        line_short (codes "delete" ∷ printed_bytes key ∷ prefix_word (pieces_said ck) ∷ stamp_words (Gone tomb)) line e
        (omega (arith, key_short, prefix_short ck p.0 p.1.0, p.1.1, stamp_short (Gone tomb) one))
    row_short ck None (Some tomb) (c ∷ cells) p below short count one e = absurd (cc)
    row_short ck None None [] p below short count one e = absurd (cc)
    row_short ck None None (c ∷ cells) p below short count one e =
        line_short (cells_verb false (cell_stamp c.1) ∷ printed_bytes key ∷ prefix_word (pieces_said ck) ∷ cells_words (cell_stamp c.1) (cells_said names (c ∷ cells))) line e
        (omega (arith, verb_short false (cell_stamp c.1), key_short, prefix_short ck p.0 p.1.0, p.1.1, words_short (cell_stamp c.1) (c ∷ cells) below short count one.0))

    pub static_short : (cells : List (ℕ × Cell)) → AreBelow (length names) cells → have_short_values cells ≡ true → length cells ≤ 32
        → HasOneStamp None None cells → shape_line (Written key (OfStatic (cells_said names cells))) ≡ Some line → length line ≤ 65536
    static_short [] below short count one e = absurd (cc)
    static_short (c ∷ cells) below short count one e =
        line_short (cells_verb true (cell_stamp c.1) ∷ printed_bytes key ∷ cells_words (cell_stamp c.1) (cells_said names (c ∷ cells))) line e
        (omega (arith, verb_short true (cell_stamp c.1), key_short, words_short (cell_stamp c.1) (c ∷ cells) below short count one.0))

-- ---- the line of a schema

kinds_short : (kinds : List CkKind) → total (list_map kind_text kinds) ≤ 5 * length kinds
kinds_short [] = omega arith
kinds_short (Int ∷ kinds) = omega (arith, kinds_short kinds)
kinds_short (Text ∷ kinds) = omega (arith, kinds_short kinds)

all_names_short : (names : List (List ℕ)) → list_all is_name names ≡ true → total names ≤ 33 * length names
all_names_short [] h = omega arith
all_names_short (name ∷ names) h =
    let halves = both (is_name name) (list_all is_name names) h in
    omega (arith, name_short name halves.0, all_names_short names halves.1)

names_short : (names : List (List ℕ)) → list_all is_name names ≡ true → length (names_text names) ≤ 33 * length names + 1
names_short [] h = omega arith
names_short (name ∷ names) h = omega (arith, joined_short 44 (name ∷ names), all_names_short (name ∷ names) h)

pub schema_short : (s : SchemaValue) → length s.ck ≤ 4 → length s.statics ≤ 8 → length s.cols ≤ 32 → list_all is_name s.statics ≡ true → list_all is_name s.cols ≡ true → length (codes "schema " ++ schema_text s) ≤ 65536
unfolding schema_text
schema_short s ck statics cols p q =
    omega (
      arith,
      joined_short 32 ((codes "ck=" ++ join_with_byte 44 (list_map kind_text s.ck)) ∷ (codes "static=" ++ names_text s.statics) ∷ (codes "cols=" ++ names_text s.cols) ∷ []),
      joined_short 44 (list_map kind_text s.ck),
      kinds_short s.ck,
      names_short s.statics p,
      names_short s.cols q,
      ck,
      statics,
      cols,
    )
