-- What one line can say has a line that is read back as it.
use Rattle.std.proofs.Common.{◌≡◌, ℕ, ℤ, ◌≤◌, Bool, true, false, cond, not, ◌||◌, ◌==◌, nat_lt, List, [], ◌∷◌, ◌++◌, length, refl, ap, sym, subst, ◌∙◌, arith}
use Rattle.std.specs.Prelude.{codes, map as list_map, Ok, Err, if◌then◌else◌, option_and_then}
use Rattle.std.specs.declared.option.Option.{Option}
use Rattle.std.specs.declared.option.Option.TheVariants.{Some, None}
use Rattle.std.specs.Fmt.{decimal, signed_decimal}
use Rattle.std.specs.List.{AllByRecursion, list_all, join_with_byte}
use Rattle.std.specs.Option.{option_map, option_or}
use Rattle.std.proofs.lemmas.Bool.Decides.{nat_tests}
use Rattle.std.proofs.lemmas.List.Elements.{All-nil, All-cons, All-append}
use Rattle.rc_cell.specs.declared.writes.Cell.{Cell}
use Rattle.rc_cell.specs.declared.writes.Cell.TheVariants.{Live, Dead}
use Rattle.rc_cell.specs.declared.writes.Tomb.{Tomb}
use Rattle.rc_mutation.specs.Fragments.{has_any}
use Rattle.rc_rowcode.specs.Spelling.{IsTomb}
use Rattle.rc_schema.specs.SchemaValue.{SchemaValue}
use Rattle.rc_spelling.specs.Printed.{printed_bytes}
use Rattle.rc_spelling.specs.Words.{words}
use Rattle.rc_lines.specs.declared.commands.Command.TheVariants.{Nothing}
use Rattle.rc_lines.specs.declared.commands.Refusal.TheVariants.{BadLine}
use Rattle.rc_lines.specs.declared.shapes.Bound.{Bound}
use Rattle.rc_lines.specs.declared.shapes.Change.{Change}
use Rattle.rc_lines.specs.declared.shapes.Change.TheVariants.{OfRow, OfStatic, OfRange, OfPartition}
use Rattle.rc_lines.specs.declared.shapes.Shape.{Shape}
use Rattle.rc_lines.specs.declared.shapes.Shape.TheVariants.{Plain, Open, Written}
use Rattle.rc_lines.specs.declared.shapes.Stamp.{Stamp}
use Rattle.rc_lines.specs.declared.shapes.Stamp.TheVariants.{Alive, Gone}
use Rattle.rc_lines.specs.Grammar.{longest_line, is_comment, schema_said, parse}
use Rattle.rc_lines.specs.calls.ByShape.{shape_meaning, line_meaning, parse_by_shape}
use Rattle.rc_lines.specs.Parts.{without_front}
use Rattle.rc_lines.specs.calls.ShapeParts.{named_cells, some_cells_of, no_bound}
use Rattle.rc_lines.specs.Plain.{IsCount}
use Rattle.rc_lines.specs.Sayable.{prefix_word, from_text, to_text, range_words, slice_words, stamp_words, cell_stamp, behind_name, cell_word, cells_words, cells_verb, shape_line, IsSomeKey, IsPrefix, IsLimit, IsBound, IsStampInRange, IsNamedCell, AreSayableCells, IsSayable, IsSayableChange}
use Rattle.rc_lines.specs.calls.Shapes.{shape_of, row_change, insert_change, update_change, unset_change, delete_change, range_deleted, partition_deleted, static_set, static_removed, cell_change_of, deletion_of, open_shape, command_of_three_words}
use Rattle.rc_lines.specs.laws.ByShape.{by_shape}
use Rattle.rc_lines.specs.laws.Spaces.{IsSpaceless, words_back, both_spaceless, number_spaceless, signed_spaceless, spelled_spaceless, prefix_spaceless, name_spaceless}
use Rattle.rc_lines.specs.laws.Spelled.{stamp_back, tomb_back, key_back, prefix_back, begin_back, end_back, cells_back, some_cells_back, count_back}
use Rattle.rc_lines.specs.laws.Halves.{both}

-- ---- writes of tombstones

written : (key : List ℕ) (change : Change) (kw : Option (List ℕ)) (cw : Option Change) → kw ≡ Some key → cw ≡ Some change
    → option_and_then (λ k. option_map (λ change. Written k change) cw) kw ≡ Some (Written key change)
written key change kw cw p q = λ i. option_and_then (λ k. option_map (λ change. Written k change) (q i)) (p i)

row_back : (ck : List (List ℕ)) (marker : _) (tomb : _) (cells : _) (found : _) → IsPrefix ck → found ≡ Some cells → row_change (prefix_word ck) marker tomb found ≡ Some (OfRow ck marker tomb cells)
unfolding row_change
row_back ck marker tomb cells found is e = λ i. option_and_then (λ pieces. option_map (λ named. OfRow pieces marker tomb named) (e i)) (prefix_back ck is i)

delete_back : (key : List ℕ) (ck : List (List ℕ)) (tomb : Tomb) → IsSomeKey key → IsPrefix ck → IsTomb tomb
    → shape_of (codes "delete" ∷ printed_bytes key ∷ prefix_word ck ∷ stamp_words (Gone tomb)) ≡ Some (Written key (OfRow ck None (Some tomb) []))
unfolding cell_change_of deletion_of delete_change
delete_back key ck tomb k c t =
    written key (OfRow ck None (Some tomb) []) _ _ (key_back key k)
    (ap (option_and_then (λ tomb. row_change (prefix_word ck) None (Some tomb) (Some []))) (tomb_back tomb t) ∙ row_back ck None (Some tomb) [] (Some []) c refl)

delpart_back : (key : List ℕ) (tomb : Tomb) → IsSomeKey key → IsTomb tomb
    → shape_of (codes "delpart" ∷ printed_bytes key ∷ stamp_words (Gone tomb)) ≡ Some (Written key (OfPartition tomb))
unfolding cell_change_of deletion_of partition_deleted
delpart_back key tomb k t = written key (OfPartition tomb) _ _ (key_back key k) (ap (option_map (λ tomb. OfPartition tomb)) (tomb_back tomb t))

delrange_back : (key : List ℕ) (from to : Bound) (tomb : Tomb) → IsSomeKey key → IsBound from → IsBound to → IsTomb tomb
    → shape_of (codes "delrange" ∷ printed_bytes key ∷ (range_words from to ++ stamp_words (Gone tomb))) ≡ Some (Written key (OfRange from to tomb))
unfolding cell_change_of deletion_of range_deleted
delrange_back key from to tomb k f t h =
    written key (OfRange from to tomb) _ _ (key_back key k)
    (λ i. option_and_then (λ f. option_and_then (λ t. option_map (λ tomb. OfRange f t tomb) (tomb_back tomb h i)) (end_back to t i)) (begin_back from f i))

-- ---- writes of cells

insert_back : (key : List ℕ) (ck : List (List ℕ)) (ts : ℤ) (cells : List (List ℕ × Cell)) → IsSomeKey key → IsPrefix ck → AreSayableCells (Alive ts) cells
    → shape_of (codes "insert" ∷ printed_bytes key ∷ prefix_word ck ∷ cells_words (Alive ts) cells) ≡ Some (Written key (OfRow ck (Some ts) None cells))
unfolding cell_change_of deletion_of insert_change
insert_back key ck ts cells k c are =
    written key (OfRow ck (Some ts) None cells) _ _ (key_back key k)
    (ap (λ o. option_or o None)
    (ap (option_and_then (λ ts. row_change (prefix_word ck) (Some ts) None (named_cells (Alive ts) (list_map cell_word cells)))) (stamp_back ts are.0)
    ∙ row_back ck (Some ts) None cells _ c (cells_back (Alive ts) cells are)))

cells_row_back : (key : List ℕ) (ck : List (List ℕ)) (stamp : Stamp) (cell : List ℕ × Cell) (cells : List (List ℕ × Cell)) → IsSomeKey key → IsPrefix ck → AreSayableCells stamp (cell ∷ cells)
    → shape_of (cells_verb false stamp ∷ printed_bytes key ∷ prefix_word ck ∷ cells_words stamp (cell ∷ cells)) ≡ Some (Written key (OfRow ck None None (cell ∷ cells)))
unfolding cell_change_of deletion_of update_change unset_change
cells_row_back key ck (Alive ts) cell cells k c are =
    written key (OfRow ck None None (cell ∷ cells)) _ _ (key_back key k)
    (ap (λ o. option_or o None)
    (ap (option_and_then (λ ts. row_change (prefix_word ck) None None (some_cells_of (Alive ts) (list_map cell_word (cell ∷ cells))))) (stamp_back ts are.0)
    ∙ row_back ck None None (cell ∷ cells) _ c (some_cells_back (Alive ts) cell cells are)))
cells_row_back key ck (Gone tomb) cell cells k c are =
    written key (OfRow ck None None (cell ∷ cells)) _ _ (key_back key k)
    (ap (λ o. option_or o None)
    (ap (option_and_then (λ tomb. row_change (prefix_word ck) None None (some_cells_of (Gone tomb) (list_map cell_word (cell ∷ cells))))) (tomb_back tomb are.0)
    ∙ row_back ck None None (cell ∷ cells) _ c (some_cells_back (Gone tomb) cell cells are)))

static_back : (key : List ℕ) (stamp : Stamp) (cell : List ℕ × Cell) (cells : List (List ℕ × Cell)) → IsSomeKey key → AreSayableCells stamp (cell ∷ cells)
    → shape_of (cells_verb true stamp ∷ printed_bytes key ∷ cells_words stamp (cell ∷ cells)) ≡ Some (Written key (OfStatic (cell ∷ cells)))
unfolding cell_change_of deletion_of static_set static_removed
static_back key (Alive ts) cell cells k are =
    written key (OfStatic (cell ∷ cells)) _ _ (key_back key k)
    (ap (λ o. option_or o None)
    (λ i. option_and_then (λ ts. option_map (λ cells. OfStatic cells) (some_cells_of (Alive ts) (list_map cell_word (cell ∷ cells)))) (stamp_back ts are.0 i))
    ∙ ap (λ o. option_or (option_map (λ cells. OfStatic cells) o) None) (some_cells_back (Alive ts) cell cells are))
static_back key (Gone tomb) cell cells k are =
    written key (OfStatic (cell ∷ cells)) _ _ (key_back key k)
    (ap (λ o. option_or o None)
    (λ i. option_and_then (λ tomb. option_map (λ cells. OfStatic cells) (some_cells_of (Gone tomb) (list_map cell_word (cell ∷ cells)))) (tomb_back tomb are.0 i))
    ∙ ap (λ o. option_or (option_map (λ cells. OfStatic cells) o) None) (some_cells_back (Gone tomb) cell cells are))

-- ---- openings

opened_back : (id : ℕ) (key : List ℕ) (from to : Bound) (f t : Option Bound) → IsCount id → IsSomeKey key → f ≡ Some from → t ≡ Some to
    → open_shape (decimal id) (printed_bytes key) f t ≡ Some (Open id key from to)
unfolding open_shape
opened_back id key from to f t n k p q =
    λ i. option_and_then (λ n. option_and_then (λ k. option_and_then (λ f. option_map (λ t. Open n k f t) (q i)) (p i)) (key_back key k i)) (count_back id n.0 n.1 i)

range_opened : (id : ℕ) (key : List ℕ) (from to : Bound) → IsCount id → IsSomeKey key → IsBound from → IsBound to
    → shape_of (codes "open" ∷ decimal id ∷ printed_bytes key ∷ range_words from to) ≡ Some (Open id key from to)
unfolding open_shape
range_opened id key from to n k f t = opened_back id key from to _ _ n k (begin_back from f) (end_back to t)

whole_opened : (id : ℕ) (key : List ℕ) (from to : Bool) → IsCount id → IsSomeKey key → from ≡ true → to ≡ true
    → shape_of (codes "open" ∷ decimal id ∷ printed_bytes key ∷ []) ≡ Some (Open id key (record { pieces = []; inclusive = from }) (record { pieces = []; inclusive = to }))
unfolding command_of_three_words
whole_opened id key from to n k f t =
    opened_back id key (record { pieces = []; inclusive = from }) (record { pieces = []; inclusive = to }) (Some no_bound) (Some no_bound) n k
    (ap (λ b. Some (record { pieces = []; inclusive = b })) (sym f)) (ap (λ b. Some (record { pieces = []; inclusive = b })) (sym t))

open_back : (id : ℕ) (key : List ℕ) (a b : Bool) (from to : List (List ℕ)) → IsCount id → IsSomeKey key → IsLimit a from → IsLimit b to
    → shape_of (codes "open" ∷ decimal id ∷ printed_bytes key ∷ slice_words (record { pieces = from; inclusive = a }) (record { pieces = to; inclusive = b }))
    ≡ Some (Open id key (record { pieces = from; inclusive = a }) (record { pieces = to; inclusive = b }))
open_back id key a b [] [] n k f t = whole_opened id key a b n k f t
open_back id key a b [] (piece ∷ to) n k f t = range_opened id key (record { pieces = []; inclusive = a }) (record { pieces = piece ∷ to; inclusive = b }) n k f t
open_back id key a b (piece ∷ from) to n k f t = range_opened id key (record { pieces = piece ∷ from; inclusive = a }) (record { pieces = to; inclusive = b }) n k f t

-- ---- no word has a space

plain_word : (word : List ℕ) → list_all (λ byte. not (byte == 32)) word ≡ true → IsSpaceless word
plain_word [] h = All-nil (λ byte. (byte == 32) ≡ false)
plain_word (byte ∷ word) h =
    let p = both (not (byte == 32)) (list_all (λ byte. not (byte == 32)) word) h in
    All-cons (λ byte. (byte == 32) ≡ false) byte word (grind (arith, nat_tests)) (plain_word word p.1)

behind_text : (text word : List ℕ) → list_all (λ byte. not (byte == 32)) text ≡ true → IsSpaceless word → IsSpaceless (text ++ word)
behind_text text word h is = All-append (λ byte. (byte == 32) ≡ false) text word (plain_word text h) is

stamp_spaceless : (stamp : Stamp) → IsStampInRange stamp → AllByRecursion IsSpaceless (stamp_words stamp)
stamp_spaceless (Alive ts) is = (behind_text (codes "ts=") (signed_decimal ts) refl (signed_spaceless ts is), tt)
stamp_spaceless (Gone tomb) is = (
  behind_text (codes "ts=") (signed_decimal tomb.ts) refl (signed_spaceless tomb.ts is.0),
  (behind_text (codes "dt=") (decimal tomb.dt) refl (number_spaceless tomb.dt (omega (arith, is.1))), tt),
)

value_spaceless : (cell : Cell) → IsSpaceless (behind_name cell)
value_spaceless (Live ts value) = All-cons (λ byte. (byte == 32) ≡ false) 61 (printed_bytes value) refl (spelled_spaceless value)
value_spaceless (Dead ts dt) = All-nil (λ byte. (byte == 32) ≡ false)

cells_spaceless : (stamp : Stamp) (cells : List (List ℕ × Cell)) → AllByRecursion (IsNamedCell stamp) cells → AllByRecursion IsSpaceless (list_map cell_word cells)
cells_spaceless stamp [] are = tt
cells_spaceless stamp (cell ∷ cells) are =
    (All-append (λ byte. (byte == 32) ≡ false) cell.0 (behind_name cell.1) (name_spaceless cell.0 are.0.0) (value_spaceless cell.1), cells_spaceless stamp cells are.1)

all_spaceless : (stamp : Stamp) (cells : List (List ℕ × Cell)) → AreSayableCells stamp cells → AllByRecursion IsSpaceless (cells_words stamp cells)
all_spaceless stamp cells are = both_spaceless (stamp_words stamp) (list_map cell_word cells) (stamp_spaceless stamp are.0) (cells_spaceless stamp cells are.1.0)

from_spaceless : (inclusive : Bool) (pieces : List (List ℕ)) → IsSpaceless (from_text inclusive pieces)
from_spaceless inclusive [] = plain_word (codes "-") refl
from_spaceless true (piece ∷ pieces) = All-cons (λ byte. (byte == 32) ≡ false) 91 (prefix_word (piece ∷ pieces)) refl (prefix_spaceless (piece ∷ pieces))
from_spaceless false (piece ∷ pieces) = All-cons (λ byte. (byte == 32) ≡ false) 40 (prefix_word (piece ∷ pieces)) refl (prefix_spaceless (piece ∷ pieces))

to_spaceless : (inclusive : Bool) (pieces : List (List ℕ)) → IsSpaceless (to_text inclusive pieces)
to_spaceless inclusive [] = plain_word (codes "-") refl
to_spaceless true (piece ∷ pieces) = All-append (λ byte. (byte == 32) ≡ false) (prefix_word (piece ∷ pieces)) (93 ∷ []) (prefix_spaceless (piece ∷ pieces)) (plain_word (93 ∷ []) refl)
to_spaceless false (piece ∷ pieces) = All-append (λ byte. (byte == 32) ≡ false) (prefix_word (piece ∷ pieces)) (41 ∷ []) (prefix_spaceless (piece ∷ pieces)) (plain_word (41 ∷ []) refl)

range_spaceless : (from to : Bound) → AllByRecursion IsSpaceless (range_words from to)
range_spaceless from to = (
  behind_text (codes "from=") (from_text from.inclusive from.pieces) refl (from_spaceless from.inclusive from.pieces),
  (behind_text (codes "to=") (to_text to.inclusive to.pieces) refl (to_spaceless to.inclusive to.pieces), tt),
)

slice_spaceless : (from to : Bound) → AllByRecursion IsSpaceless (slice_words from to)
slice_spaceless from to =
    elim (has_any from.pieces || has_any to.pieces) as (λ b. AllByRecursion IsSpaceless (cond b (range_words from to) [])) [
      | true ↦ range_spaceless from to
      | false ↦ tt
    ]

-- ---- the lines

-- the line says the shape, and is neither a comment nor a schema line
abbrev IsSpoken : List ℕ → Shape → Type 0
IsSpoken line shape = (shape_of (words line) ≡ Some shape) × (is_comment line ≡ false) × (schema_said line ≡ None)

line_said : (verb word : List ℕ) (rest : List (List ℕ)) (line : List ℕ) (shape : Shape) → ◌≡◌ {A = Option (List ℕ)} (Some (join_with_byte 32 (verb ∷ word ∷ rest))) (Some line)
    → IsSpaceless verb → IsSpaceless word → AllByRecursion IsSpaceless rest → shape_of (verb ∷ word ∷ rest) ≡ Some shape
    → is_comment (join_with_byte 32 (verb ∷ word ∷ rest)) ≡ false → schema_said (join_with_byte 32 (verb ∷ word ∷ rest)) ≡ None → IsSpoken line shape
line_said verb word rest line shape e v w r h comment none =
    let same : join_with_byte 32 (verb ∷ word ∷ rest) ≡ line = cc in
    subst (λ l. IsSpoken l shape) same (ap shape_of (words_back verb (word ∷ rest) (v, (w, r))) ∙ h, comment, none)

row_said : (key : List ℕ) (ck : List (List ℕ)) (stamp : Stamp) (cell : List ℕ × Cell) (cells : List (List ℕ × Cell)) (line : List ℕ) → IsSomeKey key
    → IsPrefix ck × AreSayableCells stamp (cell ∷ cells)
    → ◌≡◌ {A = Option (List ℕ)} (Some (join_with_byte 32 (cells_verb false stamp ∷ printed_bytes key ∷ prefix_word ck ∷ cells_words stamp (cell ∷ cells)))) (Some line)
    → IsSpoken line (Written key (OfRow ck None None (cell ∷ cells)))
unfolding schema_said without_front
row_said key ck (Alive ts) cell cells line k is e =
    line_said (codes "update") (printed_bytes key) (prefix_word ck ∷ cells_words (Alive ts) (cell ∷ cells)) line _ e (plain_word (codes "update") refl) (spelled_spaceless key)
    (prefix_spaceless ck, all_spaceless (Alive ts) (cell ∷ cells) is.1) (cells_row_back key ck (Alive ts) cell cells k is.0 is.1) refl refl
row_said key ck (Gone tomb) cell cells line k is e =
    line_said (codes "unset") (printed_bytes key) (prefix_word ck ∷ cells_words (Gone tomb) (cell ∷ cells)) line _ e (plain_word (codes "unset") refl) (spelled_spaceless key)
    (prefix_spaceless ck, all_spaceless (Gone tomb) (cell ∷ cells) is.1) (cells_row_back key ck (Gone tomb) cell cells k is.0 is.1) refl refl

static_said : (key : List ℕ) (stamp : Stamp) (cell : List ℕ × Cell) (cells : List (List ℕ × Cell)) (line : List ℕ) → IsSomeKey key → AreSayableCells stamp (cell ∷ cells)
    → ◌≡◌ {A = Option (List ℕ)} (Some (join_with_byte 32 (cells_verb true stamp ∷ printed_bytes key ∷ cells_words stamp (cell ∷ cells)))) (Some line)
    → IsSpoken line (Written key (OfStatic (cell ∷ cells)))
unfolding schema_said without_front
static_said key (Alive ts) cell cells line k is e =
    line_said (codes "static") (printed_bytes key) (cells_words (Alive ts) (cell ∷ cells)) line _ e (plain_word (codes "static") refl) (spelled_spaceless key)
    (all_spaceless (Alive ts) (cell ∷ cells) is) (static_back key (Alive ts) cell cells k is) refl refl
static_said key (Gone tomb) cell cells line k is e =
    line_said (codes "unstatic") (printed_bytes key) (cells_words (Gone tomb) (cell ∷ cells)) line _ e (plain_word (codes "unstatic") refl) (spelled_spaceless key)
    (all_spaceless (Gone tomb) (cell ∷ cells) is) (static_back key (Gone tomb) cell cells k is) refl refl

change_said : (key : List ℕ) (change : Change) (line : List ℕ) → IsSomeKey key → IsSayableChange change → shape_line (Written key change) ≡ Some line → IsSpoken line (Written key change)
unfolding schema_said without_front
change_said key (OfRow ck (Some ts) None cells) line k is e =
    line_said (codes "insert") (printed_bytes key) (prefix_word ck ∷ cells_words (Alive ts) cells) line _ e (plain_word (codes "insert") refl) (spelled_spaceless key)
    (prefix_spaceless ck, all_spaceless (Alive ts) cells is.1) (insert_back key ck ts cells k is.0 is.1) refl refl
change_said key (OfRow ck (Some ts) (Some tomb) cells) line k is e = absurd (cc)
change_said key (OfRow ck None (Some tomb) []) line k is e =
    line_said (codes "delete") (printed_bytes key) (prefix_word ck ∷ stamp_words (Gone tomb)) line _ e (plain_word (codes "delete") refl) (spelled_spaceless key)
    (prefix_spaceless ck, stamp_spaceless (Gone tomb) is.1) (delete_back key ck tomb k is.0 is.1) refl refl
change_said key (OfRow ck None (Some tomb) (cell ∷ cells)) line k is e = absurd (cc)
change_said key (OfRow ck None None []) line k is e = absurd (cc)
change_said key (OfRow ck None None (cell ∷ cells)) line k is e =
    row_said key ck (cell_stamp cell.1) cell cells line k is e
change_said key (OfStatic []) line k is e = absurd (cc)
change_said key (OfStatic (cell ∷ cells)) line k is e = static_said key (cell_stamp cell.1) cell cells line k is e
change_said key (OfRange from to tomb) line k is e =
    line_said (codes "delrange") (printed_bytes key) (range_words from to ++ stamp_words (Gone tomb)) line _ e (plain_word (codes "delrange") refl) (spelled_spaceless key)
    (both_spaceless (range_words from to) (stamp_words (Gone tomb)) (range_spaceless from to) (stamp_spaceless (Gone tomb) is.2)) (delrange_back key from to tomb k is.0 is.1 is.2) refl refl
change_said key (OfPartition tomb) line k is e =
    line_said (codes "delpart") (printed_bytes key) (stamp_words (Gone tomb)) line _ e (plain_word (codes "delpart") refl) (spelled_spaceless key)
    (stamp_spaceless (Gone tomb) is) (delpart_back key tomb k is) refl refl

said_all : (shape : Shape) (line : List ℕ) → shape_line shape ≡ Some line → IsSayable shape → IsSpoken line shape
unfolding schema_said without_front
said_all (Plain command) line e is = absurd (cc)
said_all (Open id key from to) line e is =
    line_said (codes "open") (decimal id) (printed_bytes key ∷ slice_words from to) line _ e (plain_word (codes "open") refl) (number_spaceless id (let most : id ≤ 4294967295 = is.0.1 in omega arith))
    (spelled_spaceless key, slice_spaceless from to) (open_back id key from.inclusive to.inclusive from.pieces to.pieces is.0 is.1 is.2 is.3) refl refl
said_all (Written key change) line e is = change_said key change line is.0 is.1 e

-- the line of what one line can say is read back as it
pub shape_back : (shape : Shape) (line : List ℕ) → shape_line shape ≡ Some line → IsSayable shape → shape_of (words line) ≡ Some shape
shape_back shape line e is = (said_all shape line e is).0

-- and commands what it means, where it is not too long
pub meaning_back : (taken : Option SchemaValue) (shape : Shape) (line : List ℕ) → shape_line shape ≡ Some line → IsSayable shape → length line ≤ longest_line
    → parse taken line ≡ shape_meaning taken (Some shape)
unfolding parse_by_shape
meaning_back taken shape line e is short =
    let s = said_all shape line e is in
    let fits : nat_lt longest_line (length line) ≡ false = grind (arith, nat_tests) in
    by_shape taken line
    ∙ (λ i. if fits i then Err BadLine else if s.1 i then Ok Nothing else line_meaning taken line (s.2 i)) ∙ ap (shape_meaning taken) s.0
