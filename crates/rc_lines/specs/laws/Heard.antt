-- What a line of bytes commands is what one line can say.
use Rattle.std.proofs.Common.{◌≡◌, ◌≤◌, ◌<◌, ◌+◌, ◌-◌, ◌*◌, ◌^◌, ℕ, ℤ, pos, zero, suc, Bool, true, false, cond, ◌&&◌, ◌==◌, nat_le, List, [], ◌∷◌, length, take, drop, refl, arith}
use Rattle.std.specs.Prelude.{codes, if◌then◌else◌, neg_ℤ}
use Rattle.std.specs.declared.option.Option.{Option}
use Rattle.std.specs.declared.option.Option.TheVariants.{Some, None}
use Rattle.std.specs.Char.{digit_value, is_ascii_hexdigit}
use Rattle.std.specs.Int.{w64}
use Rattle.std.specs.Int.RustNames.{FitsSigned}
use Rattle.std.specs.List.{AllByRecursion, slice_split, onto_first, position}
use Rattle.std.specs.Option.{option_map}
use Rattle.std.specs.Str.Parse.{digits_value}
use Rattle.std.proofs.lemmas.Bool.Decides.{nat_tests}
use Rattle.std.proofs.lemmas.Int.{ints}
use Rattle.rc_cell.specs.declared.writes.Cell.{Cell}
use Rattle.rc_cell.specs.declared.writes.Cell.TheVariants.{Live, Dead}
use Rattle.rc_rowcode.specs.Spelling.{IsTomb}
use Rattle.rc_schema.specs.SchemaValue.{is_name}
use Rattle.rc_spelling.specs.Numbers.{is_numeral, number_of, signed_of, count_of}
use Rattle.rc_spelling.specs.Printed.{AreBytes}
use Rattle.rc_spelling.specs.Spelling.{stands_alone, escaped_byte, lone_byte, escape, bytes_spelled, component_spelled, components_spelled}
use Rattle.rc_lines.specs.declared.shapes.Bound.{Bound}
use Rattle.rc_lines.specs.declared.shapes.Stamp.{Stamp}
use Rattle.rc_lines.specs.declared.shapes.Stamp.TheVariants.{Alive, Gone}
use Rattle.rc_lines.specs.Parts.{without_front, without_back, stamp_of, time_of, key_of, named_cell, pieces_of}
use Rattle.rc_lines.specs.calls.ShapeParts.{are_distinct, tomb_of, live_of, split_set, set_of, cell_said, each_cell_of, named_cells, some_cells_of, no_bound, bound_at, marked_bound, from_of, to_of, range_start, range_end}
use Rattle.rc_spelling.specs.Words.{each_of, is_word}
use Rattle.rc_lines.specs.Plain.{IsCount}
use Rattle.rc_lines.specs.Sayable.{IsStamped}
use Rattle.rc_lines.specs.laws.Halves.{both, up_to}
use Rattle.rc_lines.specs.laws.Said.{If, after, always, and_then, made, mapped, chosen}

-- ---- values under a test

pub tested : {X : Type 0} (P : X → Type 0) (b : Bool) (x : X) → (b ≡ true → P x) → If P (if b then Some x else None)
tested P true x h = h refl
tested P false x h = tt

unlike : {X : Type 0} (P : X → Type 0) (b : Bool) (x : X) → (b ≡ false → P x) → If P (if b then None else Some x)
unlike P true x h = tt
unlike P false x h = h refl

-- ---- bytes

dropped : (n : ℕ) (word : List ℕ) → AreBytes word → AreBytes (drop n word)
dropped zero word are = are
dropped (suc n) [] are = tt
dropped (suc n) (byte ∷ word) are = dropped n word are.1

taken : (n : ℕ) (word : List ℕ) → AreBytes word → AreBytes (take n word)
taken zero word are = tt
taken (suc n) [] are = tt
taken (suc n) (byte ∷ word) are = (are.0, taken n word are.1)

onto_words : (byte : ℕ) (words : List (List ℕ)) → byte < 256 → AllByRecursion AreBytes words → AllByRecursion AreBytes (onto_first byte words)
onto_words byte [] small are = ((small, tt), tt)
onto_words byte (word ∷ words) small are = ((small, are.0), are.1)

-- what a test cuts
pub words_heard : (p : ℕ → Bool) (line : List ℕ) → AreBytes line → AllByRecursion AreBytes (slice_split p line)
words_heard p [] are = (tt, tt)
words_heard p (byte ∷ line) are =
    elim (p byte) as (λ b. AllByRecursion AreBytes (cond b ([] ∷ slice_split p line) (onto_first byte (slice_split p line)))) [
      | true ↦ (tt, words_heard p line are.1)
      | false ↦ onto_words byte (slice_split p line) are.0 (words_heard p line are.1)
    ]

behind_heard : (text word : List ℕ) → AreBytes word → If AreBytes (without_front text word)
unfolding without_front
behind_heard text word are = tested AreBytes (is_word (take (length text) word) text) (drop (length text) word) (λ e. dropped (length text) word are)

before_heard : (text word : List ℕ) → AreBytes word → If AreBytes (without_back text word)
unfolding without_back
before_heard text word are =
    tested AreBytes (is_word (drop (length word - length text) word) text) (take (length word - length text) word) (λ e. taken (length word - length text) word are)

digit_small : (c : ℕ) → is_ascii_hexdigit c ≡ true → digit_value c < 16
digit_small c h = grind (arith, nat_tests)

-- a number below 256
abbrev IsByte : ℕ → Type 0
IsByte byte = byte < 256

escaped_heard : (high low : ℕ) → If IsByte (escaped_byte high low)
escaped_heard high low =
    tested IsByte (is_ascii_hexdigit high && is_ascii_hexdigit low) (digit_value high * 16 + digit_value low)
    (λ e. (let halves = both (is_ascii_hexdigit high) (is_ascii_hexdigit low) e in
    let a : digit_value high < 16 = digit_small high halves.0 in
    let b : digit_value low < 16 = digit_small low halves.1 in omega arith))

alone_heard : (byte : ℕ) (more : Option (List ℕ)) → byte < 256 → If AreBytes more → If AreBytes (lone_byte byte more)
alone_heard byte more small h =
    chosen AreBytes (stands_alone byte) (option_map (λ bytes. byte ∷ bytes) more) None (made AreBytes AreBytes (λ bytes. byte ∷ bytes) more h (λ bytes are. (small, are))) tt

escape_heard : (high low : ℕ) (more : Option (List ℕ)) → If AreBytes more → If AreBytes (escape high low more)
escape_heard high low more h =
    after AreBytes IsByte (λ byte. option_map (λ bytes. byte ∷ bytes) more) (escaped_byte high low) (escaped_heard high low)
    (λ byte small. made AreBytes AreBytes (λ bytes. byte ∷ bytes) more h (λ bytes are. (small, are)))

bytes_heard : (word : List ℕ) → AreBytes word → If AreBytes (bytes_spelled word)
bytes_heard [] are = tt
bytes_heard (byte ∷ []) are = alone_heard byte (Some []) are.0 tt
bytes_heard (byte ∷ next ∷ []) are = alone_heard byte (bytes_spelled (next ∷ [])) are.0 (bytes_heard (next ∷ []) are.1)
bytes_heard (byte ∷ next ∷ other ∷ rest) are =
    chosen AreBytes (byte == 37) (escape next other (bytes_spelled rest)) (lone_byte byte (bytes_spelled (next ∷ other ∷ rest)))
    (escape_heard next other (bytes_spelled rest) (bytes_heard rest are.1.1.1))
    (alone_heard byte (bytes_spelled (next ∷ other ∷ rest)) are.0 (bytes_heard (next ∷ other ∷ rest) are.1))

pub key_heard : (word : List ℕ) → AreBytes word → If AreBytes (key_of word)
key_heard [] are = tt
key_heard (byte ∷ rest) are = bytes_heard (byte ∷ rest) are

-- ---- components and bounds

-- each is bytes
abbrev pub AreAllBytes : List (List ℕ) → Type 0
AreAllBytes pieces = AllByRecursion AreBytes pieces

component_heard : (word : List ℕ) → AreBytes word → If AreBytes (component_spelled word)
component_heard [] are = tt
component_heard (byte ∷ rest) are = chosen AreBytes (is_word (byte ∷ rest) (codes "''")) (Some []) (bytes_spelled (byte ∷ rest)) tt (bytes_heard (byte ∷ rest) are)

pieces_heard : (words : List (List ℕ)) → AreAllBytes words → If AreAllBytes (each_of component_spelled words)
pieces_heard [] are = tt
pieces_heard (word ∷ words) are =
    after AreAllBytes AreBytes (λ component. option_map (λ components. component ∷ components) (each_of component_spelled words)) (component_spelled word) (component_heard word are.0)
    (λ component is. made AreAllBytes AreAllBytes (λ components. component ∷ components) (each_of component_spelled words) (pieces_heard words are.1) (λ components rest. (is, rest)))

taken_pieces : (n : ℕ) (pieces : List (List ℕ)) → AreAllBytes pieces → AreAllBytes (take n pieces)
taken_pieces zero pieces are = tt
taken_pieces (suc n) [] are = tt
taken_pieces (suc n) (piece ∷ pieces) are = (are.0, taken_pieces n pieces are.1)

pub prefix_heard : (word : List ℕ) → AreBytes word → If AreAllBytes (pieces_of word)
unfolding pieces_of components_spelled
prefix_heard word are =
    made AreAllBytes AreAllBytes (take 5) (each_of component_spelled (slice_split (λ byte. byte == 44) word)) (pieces_heard (slice_split (λ byte. byte == 44) word) (words_heard (λ byte. byte == 44) word are))
    (λ pieces all. taken_pieces 5 pieces all)

-- the components of a bound are bytes
abbrev pub HasBytes : Bound → Type 0
HasBytes bound = AreAllBytes bound.pieces

bound_heard : (inclusive : Bool) (ck : List ℕ) → AreBytes ck → If HasBytes (bound_at inclusive ck)
unfolding bound_at
bound_heard inclusive ck are = made HasBytes AreAllBytes (λ pieces. record { pieces = pieces; inclusive = inclusive }) (pieces_of ck) (prefix_heard ck are) (λ pieces all. all)

marked_heard : (one other : Option (List ℕ)) → If AreBytes one → If AreBytes other → If HasBytes (marked_bound one other)
marked_heard (Some ck) other p q = bound_heard true ck p
marked_heard None other p q = after HasBytes AreBytes (bound_at false) other q (bound_heard false)

from_heard : (word : List ℕ) → AreBytes word → If HasBytes (from_of word)
unfolding from_of
from_heard word are =
    chosen HasBytes (is_word word (codes "-")) (Some no_bound) (marked_bound (without_front (codes "[") word) (without_front (codes "(") word)) tt
    (marked_heard (without_front (codes "[") word) (without_front (codes "(") word) (behind_heard (codes "[") word are) (behind_heard (codes "(") word are))

to_heard : (word : List ℕ) → AreBytes word → If HasBytes (to_of word)
unfolding to_of
to_heard word are =
    chosen HasBytes (is_word word (codes "-")) (Some no_bound) (marked_bound (without_back (codes "]") word) (without_back (codes ")") word)) tt
    (marked_heard (without_back (codes "]") word) (without_back (codes ")") word) (before_heard (codes "]") word are) (before_heard (codes ")") word are))

pub begin_heard : (word : List ℕ) → AreBytes word → If HasBytes (range_start word)
unfolding range_start
begin_heard word are = after HasBytes AreBytes from_of (without_front (codes "from=") word) (behind_heard (codes "from=") word are) from_heard

pub end_heard : (word : List ℕ) → AreBytes word → If HasBytes (range_end word)
unfolding range_end
end_heard word are = after HasBytes AreBytes to_of (without_front (codes "to=") word) (behind_heard (codes "to=") word are) to_heard

-- ---- numbers

number_heard : (most : ℕ) (word : List ℕ) → If (λ n. n ≤ most) (number_of most word)
unfolding number_of
number_heard most word =
    tested (λ n. n ≤ most) (is_numeral word && nat_le (digits_value 10 word) most) (digits_value 10 word)
    (λ e. up_to (digits_value 10 word) most (both (is_numeral word) (nat_le (digits_value 10 word) most) e).1)

some_number : (n : ℕ) → n == 0 ≡ false → 1 ≤ n
some_number n h = grind (arith, nat_tests)

some_heard : (most : ℕ) (word : List ℕ) → If (λ n. (1 ≤ n) × (n ≤ most)) (count_of most word)
unfolding count_of
some_heard most word =
    after (λ n. (1 ≤ n) × (n ≤ most)) (λ n. n ≤ most) (λ value. if value == 0 then None else Some value) (number_of most word) (number_heard most word)
    (λ value small. unlike (λ n. (1 ≤ n) × (n ≤ most)) (value == 0) value (λ e. (some_number value e, small)))

pub count_heard : (word : List ℕ) → If IsCount (count_of 4294967295 word)
count_heard word = some_heard 4294967295 word

-- a signed number within 64 bits
abbrev IsSigned : ℤ → Type 0
IsSigned number = FitsSigned w64 number

minus_fits : (n : ℕ) → 1 ≤ n → n ≤ 2 ^ 63 → IsSigned (neg_ℤ (pos n))
minus_fits zero some most = absurd (omega arith)
minus_fits (suc n) some most = omega (arith, ints)

negative_heard : (word : List ℕ) → If IsSigned (option_map (λ n. neg_ℤ (pos n)) (count_of (2 ^ 63) word))
negative_heard word =
    made IsSigned (λ n. (1 ≤ n) × (n ≤ 2 ^ 63)) (λ n. neg_ℤ (pos n)) (count_of (2 ^ 63) word) (some_heard (2 ^ 63) word) (λ n within. minus_fits n within.0 within.1)

plus_fits : (n : ℕ) → n ≤ 2 ^ 63 - 1 → IsSigned (pos n)
plus_fits n most = omega (arith, ints)

positive_heard : (word : List ℕ) → If IsSigned (option_map pos (number_of (2 ^ 63 - 1) word))
positive_heard word = made IsSigned (λ n. n ≤ 2 ^ 63 - 1) pos (number_of (2 ^ 63 - 1) word) (number_heard (2 ^ 63 - 1) word) plus_fits

pub signed_heard : (word : List ℕ) → If IsSigned (signed_of word)
signed_heard [] = tt
signed_heard (first ∷ rest) =
    chosen IsSigned (first == 45) (option_map (λ n. neg_ℤ (pos n)) (count_of (2 ^ 63) rest)) (option_map pos (number_of (2 ^ 63 - 1) (first ∷ rest)))
    (negative_heard rest) (positive_heard (first ∷ rest))

pub stamp_heard : (word : List ℕ) → If IsSigned (stamp_of word)
unfolding stamp_of
stamp_heard word = and_then IsSigned signed_of (without_front (codes "ts=") word) signed_heard

time_heard : (word : List ℕ) → If (λ n. n ≤ 4294967295) (time_of word)
unfolding time_of
time_heard word = and_then (λ n. n ≤ 4294967295) (number_of 4294967295) (without_front (codes "dt=") word) (number_heard 4294967295)

pub tomb_heard : (stamp time : List ℕ) → If IsTomb (tomb_of stamp time)
unfolding tomb_of
tomb_heard stamp time =
    after IsTomb IsSigned (λ ts. option_map (λ dt. record { ts = ts; dt = dt }) (time_of time)) (stamp_of stamp) (stamp_heard stamp)
    (λ ts fits. made IsTomb (λ n. n ≤ 4294967295) (λ dt. record { ts = ts; dt = dt }) (time_of time) (time_heard time) (λ dt few. (fits, omega (arith, few))))

-- ---- cells

-- a cell of a stamp, with its name
abbrev pub IsOf : Stamp → List ℕ × Cell → Type 0
IsOf stamp e = IsStamped stamp e.1

-- cells of one stamp, with their names
abbrev pub AreOf : Stamp → List (List ℕ × Cell) → Type 0
AreOf stamp cells = AllByRecursion (IsOf stamp) cells

live_heard : (ts : ℤ) (value : List ℕ) → AreBytes value → If (IsStamped (Alive ts)) (live_of ts value)
unfolding live_of
live_heard ts value are = made (IsStamped (Alive ts)) AreBytes (λ bytes. Live ts bytes) (bytes_spelled value) (bytes_heard value are) (λ bytes all. (refl, all))

named_heard : (stamp : Stamp) (name : List ℕ) (cell : Option Cell) → If (IsStamped stamp) cell → If (IsOf stamp) (named_cell name cell)
unfolding named_cell
named_heard stamp name cell h = chosen (IsOf stamp) (is_name name) (option_map (λ c. (name, c)) cell) None (made (IsOf stamp) (IsStamped stamp) (λ c. (name, c)) cell h (λ c is. is)) tt

-- what stands behind the `=` is bytes
abbrev HasValue : List ℕ × List ℕ → Type 0
HasValue parts = AreBytes parts.1

split_heard : (word : List ℕ) → AreBytes word → If HasValue (split_set word)
unfolding split_set
split_heard word are =
    mapped HasValue (λ n. (take n word, drop (n + 1) word)) (position (λ byte. byte == 61) word)
    (always (λ n. AreBytes (drop (n + 1) word)) (position (λ byte. byte == 61) word) (λ n. dropped (n + 1) word are))

set_heard : (ts : ℤ) (word : List ℕ) → AreBytes word → If (IsOf (Alive ts)) (set_of ts word)
unfolding set_of
set_heard ts word are =
    after (IsOf (Alive ts)) HasValue (λ parts. named_cell parts.0 (live_of ts parts.1)) (split_set word) (split_heard word are)
    (λ parts has. named_heard (Alive ts) parts.0 (live_of ts parts.1) (live_heard ts parts.1 has))

cell_heard : (stamp : Stamp) (word : List ℕ) → AreBytes word → If (IsOf stamp) (cell_said stamp word)
cell_heard (Alive ts) word are = set_heard ts word are
cell_heard (Gone tomb) word are = named_heard (Gone tomb) word (Some (Dead tomb.ts tomb.dt)) refl

each_heard : (stamp : Stamp) (words : List (List ℕ)) → AreAllBytes words → If (AreOf stamp) (each_cell_of stamp words)
each_heard stamp [] are = tt
each_heard stamp (word ∷ words) are =
    after (AreOf stamp) (IsOf stamp) (λ cell. option_map (λ cells. cell ∷ cells) (each_cell_of stamp words)) (cell_said stamp word) (cell_heard stamp word are.0)
    (λ cell is. made (AreOf stamp) (AreOf stamp) (λ cells. cell ∷ cells) (each_cell_of stamp words) (each_heard stamp words are.1) (λ cells rest. (is, rest)))

pub cells_heard : (stamp : Stamp) (words : List (List ℕ)) → AreAllBytes words → If (AreOf stamp) (named_cells stamp words)
unfolding named_cells
cells_heard stamp words are =
    after (AreOf stamp) (AreOf stamp) (λ cells. if are_distinct cells then Some cells else None) (each_cell_of stamp words) (each_heard stamp words are)
    (λ cells all. tested (AreOf stamp) (are_distinct cells) cells (λ e. all))

pub some_cells_heard : (stamp : Stamp) (words : List (List ℕ)) → AreAllBytes words → If (AreOf stamp) (some_cells_of stamp words)
some_cells_heard stamp [] are = tt
some_cells_heard stamp (word ∷ words) are = cells_heard stamp (word ∷ words) are
