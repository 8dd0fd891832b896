-- Each part of a line that says something is read back as it.
use Rattle.std.proofs.Common.{◌≡◌, ℕ, ℤ, ◌≤◌, ◌+◌, ◌-◌, Bool, true, false, cond, not, ◌==◌, List, [], ◌∷◌, ◌++◌, length, take, drop, refl, ap, sym, ◌∙◌, arith, append-nil}
use Rattle.std.specs.Prelude.{codes, nat_eq, nat_lt, map as list_map, option_and_then}
use Rattle.std.specs.declared.option.Option.{Option}
use Rattle.std.specs.declared.option.Option.TheVariants.{Some, None}
use Rattle.std.specs.Fmt.{decimal, signed_decimal}
use Rattle.std.specs.Int.{w64}
use Rattle.std.specs.Int.RustNames.{FitsSigned}
use Rattle.std.specs.List.{AllByRecursion, position, position_or_len}
use Rattle.std.specs.Option.{option_map}
use Rattle.std.proofs.lemmas.Bool.Decides.{nat_tests}
use Rattle.std.proofs.lemmas.List.{length-append, take_all}
use Rattle.std.proofs.Math.Seq.{drop-append_seam, take-append_seam, drop-append-add}
use lib.Pointwise.{pointwise_long}
use Rattle.rc_cell.specs.declared.writes.Cell.{Cell}
use Rattle.rc_cell.specs.declared.writes.Cell.TheVariants.{Live, Dead}
use Rattle.rc_cell.specs.declared.writes.Tomb.{Tomb}
use Rattle.rc_position.specs.declared.comps.Comp.TheVariants.{Text}
use Rattle.rc_rowcode.specs.Spelling.{IsTomb}
use Rattle.rc_schema.specs.SchemaValue.{is_name}
use Rattle.rc_spelling.specs.laws.{printed_bytes_read_back, printed_keys_read_back}
use Rattle.rc_spelling.specs.laws.Numerals.{decimal_number, signed_back}
use Rattle.rc_spelling.specs.Numbers.{count_of}
use Rattle.rc_spelling.specs.Printed.{AreBytes, IsComponent, bytes_of_component, printed_bytes}
use Rattle.rc_spelling.specs.Spelling.{bytes_spelled, components_spelled}
use Rattle.rc_lines.specs.declared.shapes.Bound.{Bound}
use Rattle.rc_lines.specs.declared.shapes.Stamp.{Stamp}
use Rattle.rc_lines.specs.Parts.{without_front, without_back, stamp_of, time_of, key_of, named_cell, pieces_of}
use Rattle.rc_lines.specs.calls.ShapeParts.{are_distinct, tomb_of, live_of, split_set, set_of, cell_said, each_cell_of, named_cells, some_cells_of, no_bound, bound_at, marked_bound, from_of, to_of, range_start, range_end}
use Rattle.rc_spelling.specs.Words.{is_word}
use Rattle.rc_lines.specs.Sayable.{prefix_word, from_text, to_text, cell_word, IsSomeKey, IsPrefix, IsLimit, IsBound, IsStamped, IsNamedCell, AreSayableCells}
use Rattle.rc_lines.specs.laws.Spaces.{name_plain, IsPlainByte}

-- ---- stamps

pub stamp_back : (ts : ℤ) → FitsSigned w64 ts → stamp_of (codes "ts=" ++ signed_decimal ts) ≡ Some ts
unfolding stamp_of without_front
stamp_back ts fits = signed_back ts fits

time_back : (dt : ℕ) → dt ≤ 4294967295 → time_of (codes "dt=" ++ decimal dt) ≡ Some dt
unfolding time_of without_front
time_back dt few = decimal_number 4294967295 dt (omega arith) few

few_seconds : (tomb : Tomb) → IsTomb tomb → tomb.dt ≤ 4294967295
few_seconds tomb is = omega (arith, is.1)

pub tomb_back : (tomb : Tomb) → IsTomb tomb → tomb_of (codes "ts=" ++ signed_decimal tomb.ts) (codes "dt=" ++ decimal tomb.dt) ≡ Some tomb
unfolding tomb_of
tomb_back tomb is = λ i. option_and_then (λ ts. option_map (λ dt. record { ts = ts; dt = dt }) (time_back tomb.dt (few_seconds tomb is) i)) (stamp_back tomb.ts is.0 i)

-- ---- keys and prefixes

some_key : (word key : List ℕ) → bytes_spelled word ≡ Some key → 1 ≤ length key → key_of word ≡ Some key
some_key [] [] h some = absurd (omega arith)
some_key [] (byte ∷ key) h some = absurd (cc)
some_key (byte ∷ word) key h some = h

pub key_back : (key : List ℕ) → IsSomeKey key → key_of (printed_bytes key) ≡ Some key
key_back key is = some_key (printed_bytes key) key (printed_bytes_read_back key is.0) is.1

texts : (pieces : List (List ℕ)) → AllByRecursion AreBytes pieces → AllByRecursion IsComponent (list_map (λ piece. Text piece) pieces)
texts [] are = tt
texts (piece ∷ pieces) are = (are.0, texts pieces are.1)

same_pieces : (pieces : List (List ℕ)) → list_map bytes_of_component (list_map (λ piece. Text piece) pieces) ≡ pieces
same_pieces [] = refl
same_pieces (piece ∷ pieces) = ap (λ more. piece ∷ more) (same_pieces pieces)

components_back : (piece : List ℕ) (pieces : List (List ℕ)) → AllByRecursion AreBytes (piece ∷ pieces) → components_spelled (prefix_word (piece ∷ pieces)) ≡ Some (piece ∷ pieces)
components_back piece pieces are =
    printed_keys_read_back (Text piece) (list_map (λ piece. Text piece) pieces) (texts (piece ∷ pieces) are) ∙ ap (λ more. Some (piece ∷ more)) (same_pieces pieces)

pub prefix_back : (pieces : List (List ℕ)) → IsPrefix pieces → pieces_of (prefix_word pieces) ≡ Some pieces
unfolding pieces_of
prefix_back [] is = absurd (let some : 1 ≤ length {A = List ℕ} [] = is.1 in omega arith)
prefix_back (piece ∷ pieces) is =
    ap (option_map (take 5)) (components_back piece pieces is.0) ∙ ap (λ (all : List (List ℕ)). Some all) (take_all 5 (piece ∷ pieces) is.2)

-- ---- bounds

bound_back : (inclusive : Bool) (pieces : List (List ℕ)) → IsPrefix pieces → bound_at inclusive (prefix_word pieces) ≡ Some (record { pieces = pieces; inclusive = inclusive })
unfolding bound_at
bound_back inclusive pieces is = ap (option_map (λ all. record { pieces = all; inclusive = inclusive })) (prefix_back pieces is)

from_back : (inclusive : Bool) (pieces : List (List ℕ)) → IsLimit inclusive pieces → from_of (from_text inclusive pieces) ≡ Some (record { pieces = pieces; inclusive = inclusive })
unfolding from_of without_front
from_back inclusive [] is = ap (λ b. Some (record { pieces = []; inclusive = b })) (sym is)
from_back true (piece ∷ pieces) is = bound_back true (piece ∷ pieces) is
from_back false (piece ∷ pieces) is = bound_back false (piece ∷ pieces) is

last_is : (word : List ℕ) (mark : ℕ) → length (word ++ mark ∷ []) - 1 ≡ length word
last_is word mark = let all : length (word ++ mark ∷ []) ≡ length word + 1 = length-append word (mark ∷ []) in omega arith

mark_is : (word : List ℕ) (mark : ℕ) → drop (length (word ++ mark ∷ []) - 1) (word ++ mark ∷ []) ≡ mark ∷ []
mark_is word mark = ap (λ n. drop n (word ++ mark ∷ [])) (last_is word mark) ∙ drop-append_seam word (mark ∷ [])

word_is : (word : List ℕ) (mark : ℕ) → take (length (word ++ mark ∷ []) - 1) (word ++ mark ∷ []) ≡ word
word_is word mark = ap (λ n. take n (word ++ mark ∷ [])) (last_is word mark) ∙ take-append_seam word (mark ∷ [])

-- what stands before a mark
before_mark : (word : List ℕ) (mark other : ℕ) → without_back (other ∷ []) (word ++ mark ∷ []) ≡ cond (is_word (mark ∷ []) (other ∷ [])) (Some word) None
unfolding without_back
before_mark word mark other = λ i. cond (is_word (mark_is word mark i) (other ∷ [])) (Some (word_is word mark i)) None

no_dash : (word : List ℕ) (mark : ℕ) → 1 ≤ length word → is_word (word ++ mark ∷ []) (codes "-") ≡ false
no_dash word mark some =
    elim (is_word (word ++ mark ∷ []) (codes "-")) as (λ b. is_word (word ++ mark ∷ []) (codes "-") ≡ b → b ≡ false) [
      | true ↦ λ e. absurd (let one : length (word ++ mark ∷ []) ≡ 1 = pointwise_long nat_eq (word ++ mark ∷ []) (codes "-") e in
          let all : length (word ++ mark ∷ []) ≡ length word + 1 = length-append word (mark ∷ []) in omega arith)
      | false ↦ λ e. refl
    ] refl

some_word : (word : List ℕ) (pieces : List (List ℕ)) → components_spelled word ≡ Some pieces → 1 ≤ length word
unfolding components_spelled
some_word [] pieces h = absurd (cc)
some_word (byte ∷ word) pieces h = omega arith

marked_back : (inclusive : Bool) (word : List ℕ) (pieces : List (List ℕ)) → 1 ≤ length word → bound_at inclusive word ≡ Some (record { pieces = pieces; inclusive = inclusive })
    → to_of (word ++ (cond inclusive 93 41) ∷ []) ≡ Some (record { pieces = pieces; inclusive = inclusive })
unfolding to_of
marked_back true word pieces some h =
    (λ i. cond (no_dash word 93 some i) (Some no_bound) (marked_bound (before_mark word 93 93 i) (before_mark word 93 41 i))) ∙ h
marked_back false word pieces some h =
    (λ i. cond (no_dash word 41 some i) (Some no_bound) (marked_bound (before_mark word 41 93 i) (before_mark word 41 41 i))) ∙ h

to_back : (inclusive : Bool) (pieces : List (List ℕ)) → IsLimit inclusive pieces → to_of (to_text inclusive pieces) ≡ Some (record { pieces = pieces; inclusive = inclusive })
unfolding to_of
to_back inclusive [] is = ap (λ b. Some (record { pieces = []; inclusive = b })) (sym is)
to_back inclusive (piece ∷ pieces) is =
    marked_back inclusive (prefix_word (piece ∷ pieces)) (piece ∷ pieces) (some_word (prefix_word (piece ∷ pieces)) (piece ∷ pieces) (components_back piece pieces is.0)) (bound_back inclusive (piece ∷ pieces) is)

pub begin_back : (bound : Bound) → IsBound bound → range_start (codes "from=" ++ from_text bound.inclusive bound.pieces) ≡ Some bound
unfolding range_start without_front
begin_back bound is = from_back bound.inclusive bound.pieces is

pub end_back : (bound : Bound) → IsBound bound → range_end (codes "to=" ++ to_text bound.inclusive bound.pieces) ≡ Some bound
unfolding range_end without_front
end_back bound is = to_back bound.inclusive bound.pieces is

-- ---- cells

mark_at : (name rest : List ℕ) → AllByRecursion IsPlainByte name → position_or_len (λ byte. byte == 61) (name ++ 61 ∷ rest) ≡ length name
mark_at [] rest h = refl
mark_at (byte ∷ name) rest h =
    ap (λ b. cond (not b) (1 + position_or_len (λ byte. byte == 61) (name ++ 61 ∷ rest)) 0) h.0.1 ∙ omega (arith, mark_at name rest h.1)

split_at : (word front rest : List ℕ) (n : ℕ) → position (λ byte. byte == 61) word ≡ Some n → take n word ≡ front → drop (n + 1) word ≡ rest → split_set word ≡ Some (front, rest)
unfolding split_set
split_at word front rest n p q r = ap (option_map (λ n. (take n word, drop (n + 1) word))) p ∙ (λ i. Some (q i, r i))

split_back : (name rest : List ℕ) → AllByRecursion IsPlainByte name → split_set (name ++ 61 ∷ rest) ≡ Some (name, rest)
split_back name rest h =
    let within : nat_lt (length name) (length (name ++ 61 ∷ rest)) ≡ true = (let all : length (name ++ 61 ∷ rest) ≡ length name + length (61 ∷ rest) = length-append name (61 ∷ rest) in grind (arith, nat_tests)) in
    let found : position (λ byte. byte == 61) (name ++ 61 ∷ rest) ≡ Some (length name) =
    ap (λ n. cond (nat_lt n (length (name ++ 61 ∷ rest))) (Some n) None) (mark_at name rest h) ∙ ap (λ b. cond b (Some (length name)) None) within in
    split_at (name ++ 61 ∷ rest) name rest (length name) found (take-append_seam name (61 ∷ rest)) (drop-append-add name (61 ∷ rest) 1)

named_back : (name : List ℕ) (cell : Cell) → is_name name ≡ true → named_cell name (Some cell) ≡ Some (name, cell)
unfolding named_cell
named_back name cell h = ap (λ b. cond b (Some (name, cell)) None) h

live_back : (ts : ℤ) (value : List ℕ) → AreBytes value → live_of ts (printed_bytes value) ≡ Some (Live ts value)
unfolding live_of
live_back ts value are = ap (option_map (λ bytes. Live ts bytes)) (printed_bytes_read_back value are)

set_back : (ts : ℤ) (name value : List ℕ) → is_name name ≡ true → AreBytes value → set_of ts (name ++ 61 ∷ printed_bytes value) ≡ Some (name, Live ts value)
unfolding set_of
set_back ts name value h are =
    ap (option_and_then (λ parts. named_cell parts.0 (live_of ts parts.1))) (split_back name (printed_bytes value) (name_plain name h))
    ∙ (ap (named_cell name) (live_back ts value are) ∙ named_back name (Live ts value) h)

cell_back : (stamp : Stamp) (name : List ℕ) (cell : Cell) → is_name name ≡ true → IsStamped stamp cell → cell_said stamp (cell_word (name, cell)) ≡ Some (name, cell)
cell_back stamp name (Live ts value) h is = ap (λ s. cell_said s (name ++ 61 ∷ printed_bytes value)) is.0 ∙ set_back ts name value h is.1
cell_back stamp name (Dead ts dt) h is =
    ap (λ s. cell_said s (name ++ [])) is ∙ (ap (λ word. named_cell word (Some (Dead ts dt))) (append-nil name) ∙ named_back name (Dead ts dt) h)

both_cells : (one : Option (List ℕ × Cell)) (others : Option (List (List ℕ × Cell))) (cell : List ℕ × Cell) (cells : List (List ℕ × Cell)) → one ≡ Some cell → others ≡ Some cells
    → option_and_then (λ cell. option_map (λ cells. cell ∷ cells) others) one ≡ Some (cell ∷ cells)
both_cells one others cell cells p q = λ i. option_and_then (λ cell. option_map (λ cells. cell ∷ cells) (q i)) (p i)

each_back : (stamp : Stamp) (cells : List (List ℕ × Cell)) → AllByRecursion (IsNamedCell stamp) cells → each_cell_of stamp (list_map cell_word cells) ≡ Some cells
each_back stamp [] are = refl
each_back stamp (cell ∷ cells) are =
    both_cells (cell_said stamp (cell_word cell)) (each_cell_of stamp (list_map cell_word cells)) cell cells (cell_back stamp cell.0 cell.1 are.0.0 are.0.1) (each_back stamp cells are.1)

pub cells_back : (stamp : Stamp) (cells : List (List ℕ × Cell)) → AreSayableCells stamp cells → named_cells stamp (list_map cell_word cells) ≡ Some cells
unfolding named_cells
cells_back stamp cells are =
    ap (option_and_then (λ cells. cond (are_distinct cells) (Some cells) None)) (each_back stamp cells are.1.0)
    ∙ ap (λ b. cond b (Some cells) None) are.1.1

pub some_cells_back : (stamp : Stamp) (cell : List ℕ × Cell) (cells : List (List ℕ × Cell)) → AreSayableCells stamp (cell ∷ cells)
    → some_cells_of stamp (list_map cell_word (cell ∷ cells)) ≡ Some (cell ∷ cells)
some_cells_back stamp cell cells are = cells_back stamp (cell ∷ cells) are

-- ---- counts

pub count_back : (n : ℕ) → 1 ≤ n → n ≤ 4294967295 → count_of 4294967295 (decimal n) ≡ Some n
unfolding count_of
count_back n least most =
    let some : n == 0 ≡ false = grind (arith, nat_tests) in
    ap (option_and_then (λ value. cond (value == 0) None (Some value))) (decimal_number 4294967295 n (omega arith) most)
    ∙ ap (λ b. cond b None (Some n)) some
