-- Cells with the names of their columns are put back into the columns of these names.
use Rattle.std.proofs.Common.{◌≡◌, ◌≤◌, ◌<◌, ℕ, zero, suc, ◌+◌, Bool, true, false, cond, not, ◌||◌, ◌==◌, nat_eq, nat_lt, List, [], ◌∷◌, ◌++◌, length, get_or, refl, sym, subst, ap, ◌∙◌, arith, append_assoc}
use Rattle.std.specs.Prelude.{if◌then◌else◌, map as list_map}
use Rattle.std.specs.declared.option.Option.{Option}
use Rattle.std.specs.declared.option.Option.TheVariants.{Some, None}
use Rattle.std.specs.FinMap.{is_sorted}
use Rattle.std.specs.FinMap.Entries.{below_all}
use Rattle.std.specs.List.{AllByRecursion, list_all, list_any, prefix_len}
use Rattle.std.specs.Option.{option_map, option_to_list, is_some}
use Rattle.std.specs.Ordering.{nat_cmp, is_lt}
use Rattle.std.specs.Cmp.Lexicographic.{same_text}
use Rattle.std.proofs.lemmas.Bool.Decides.{nat_tests}
use Rattle.rc_cell.specs.declared.writes.Cell.{Cell}
use Rattle.rc_schema.specs.Checks.{column_of}
use Rattle.rc_schema.specs.SchemaValue.{is_name, are_distinct_by}
use Rattle.rc_spelling.specs.Words.{is_word}
use Rattle.rc_lines.specs.Lines.{cells_said}
use Rattle.rc_lines.specs.calls.ShapeMeaning.{cell_named, columns_from, by_column, are_columns}
use Rattle.rc_lines.specs.laws.Halves.{both}
use Rattle.rc_lines.specs.calls.ShapeParts.{are_distinct}

-- ---- names that are distinct

same_name : (name : List ℕ) → is_word name name ≡ true
same_name [] = refl
same_name (byte ∷ name) = let e : nat_eq byte byte ≡ true = grind (arith, nat_tests) in rw e (same_name name)

flipped : (name other : List ℕ) → is_word name other ≡ false → is_word other name ≡ false
flipped name other h =
    elim (is_word other name) as (λ b. is_word other name ≡ b → b ≡ false) [
      | true ↦ λ e. (let same : other ≡ name = same_text other name (sym e) in sym (subst (λ (n : List ℕ). is_word n n ≡ true) same (same_name other)) ∙ subst (λ (n : List ℕ). is_word name n ≡ false) same h)
      | false ↦ λ e. refl
    ] refl

neither : (b c : Bool) → not (b || c) ≡ true → (b ≡ false) × (not c ≡ true)
neither true c h = absurd (cc)
neither false c h = (refl, h)

other_name : (name : List ℕ) (names : List (List ℕ)) (j : ℕ) → not (list_any (is_word name) names) ≡ true → j < length names → is_word name (get_or names j []) ≡ false
other_name name [] j h within = absurd (omega arith)
other_name name (first ∷ names) zero h within = (neither (is_word name first) (list_any (is_word name) names) h).0
other_name name (first ∷ names) (suc j) h within = other_name name names j (neither (is_word name first) (list_any (is_word name) names) h).1 (omega arith)

not_zero : (j : ℕ) → (zero == suc j) ≡ false
not_zero j = grind (arith, nat_tests)

not_suc : (i : ℕ) → (suc i == zero) ≡ false
not_suc i = grind (arith, nat_tests)

both_more : (i j : ℕ) → (suc i == suc j) ≡ (i == j)
both_more i j = grind (arith, nat_tests)

-- names at two numbers are the same where the numbers are
distinct_at : (names : List (List ℕ)) (i j : ℕ) → are_distinct_by is_word names ≡ true → i < length names → j < length names → is_word (get_or names i []) (get_or names j []) ≡ (i == j)
distinct_at [] i j d p q = absurd (omega arith)
distinct_at (name ∷ names) zero zero d p q = same_name name
distinct_at (name ∷ names) zero (suc j) d p q = other_name name names j (both (not (list_any (is_word name) names)) (are_distinct_by is_word names) d).0 (omega arith) ∙ sym (not_zero j)
distinct_at (name ∷ names) (suc i) zero d p q =
    flipped name (get_or names i []) (other_name name names i (both (not (list_any (is_word name) names)) (are_distinct_by is_word names) d).0 (omega arith)) ∙ sym (not_suc i)
distinct_at (name ∷ names) (suc i) (suc j) d p q =
    distinct_at names i j (both (not (list_any (is_word name) names)) (are_distinct_by is_word names) d).1 (omega arith) (omega arith) ∙ sym (both_more i j)

-- ---- cells by the numbers of their columns

-- each column is one of so many
abbrev pub AreBelow : ℕ → List (ℕ × Cell) → Type 0
AreBelow n cells = AllByRecursion (λ e. e.0 < n) cells

-- the first cell of a column
abbrev numbered_cell : ℕ → List (ℕ × Cell) → Option Cell
numbered_cell column [] = None
numbered_cell column (e ∷ cells) = if e.0 == column then Some e.1 else numbered_cell column cells

-- the cells of as many columns as there are names, from a number on
abbrev numbered_cells : ℕ → List (List ℕ) → List (ℕ × Cell) → List (ℕ × Cell)
numbered_cells column [] cells = []
numbered_cells column (name ∷ names) cells = option_to_list (option_map (λ cell. (column, cell)) (numbered_cell column cells)) ++ numbered_cells (column + 1) names cells

by_number : (names : List (List ℕ)) (column : ℕ) (cells : List (ℕ × Cell)) → are_distinct_by is_word names ≡ true → column < length names → AreBelow (length names) cells
    → cell_named (get_or names column []) (cells_said names cells) ≡ numbered_cell column cells
by_number names column [] d p are = refl
by_number names column (e ∷ cells) d p are =
    λ i. cond (distinct_at names e.0 column d are.0 p i) (Some e.1) (by_number names column cells d p are.1 i)

at_seam : (front : List (List ℕ)) (name : List ℕ) (rest : List (List ℕ)) → (get_or (front ++ name ∷ rest) (length front) [] ≡ name) × (length front < length (front ++ name ∷ rest))
at_seam [] name rest = (refl, omega arith)
at_seam (first ∷ front) name rest = let more = at_seam front name rest in (more.0, omega (arith, more.1))

one_more : (front : List (List ℕ)) (name : List ℕ) → length front + 1 ≡ length (front ++ name ∷ [])
one_more [] name = refl
one_more (first ∷ front) name = omega (arith, one_more front name)

to_numbers : (names front rest : List (List ℕ)) (column : ℕ) (cells : List (ℕ × Cell)) → are_distinct_by is_word names ≡ true → AreBelow (length names) cells → front ++ rest ≡ names → column ≡ length front
    → columns_from column rest (cells_said names cells) ≡ numbered_cells column rest cells
to_numbers names front [] column cells d are e at = refl
to_numbers names front (name ∷ rest) column cells d are e at =
    let seam : (get_or names column [] ≡ name) × (column < length names) =
    subst (λ (n : ℕ). (get_or names n [] ≡ name) × (n < length names)) (sym at) (subst (λ (all : List (List ℕ)). (get_or all (length front) [] ≡ name) × (length front < length all)) e (at_seam front name rest)) in
    let here : cell_named name (cells_said names cells) ≡ numbered_cell column cells = ap (λ n. cell_named n (cells_said names cells)) (sym seam.0) ∙ by_number names column cells d seam.1 are in
    let next : column + 1 ≡ length (front ++ name ∷ []) = ap (λ (n : ℕ). n + 1) at ∙ one_more front name in
    let more = to_numbers names (front ++ name ∷ []) rest (column + 1) cells d are (append_assoc front (name ∷ []) rest ∙ e) next in
    λ i. option_to_list (option_map (λ cell. (column, cell)) (here i)) ++ more i

-- columns strictly ascend, from a number on
abbrev Ascends : ℕ → List (ℕ × Cell) → Type 0
Ascends low [] = Unit {0}
Ascends low (e ∷ cells) = (low ≤ e.0) × Ascends (e.0 + 1) cells

is_more : (x y : ℕ) → is_lt (nat_cmp x y) ≡ true → x + 1 ≤ y
is_more x y h =
    elim (nat_lt x y) as (λ b. nat_lt x y ≡ b → x + 1 ≤ y) [
      | true ↦ λ e. grind (arith, nat_tests)
      | false ↦ λ e. absurd (let r : is_lt (nat_cmp x y) ≡ false = rw e (grind (arith, nat_tests)) in cc)
    ] refl

ascends : (x : ℕ) (cells : List (ℕ × Cell)) → below_all nat_cmp x cells ≡ true → is_sorted nat_cmp cells ≡ true → Ascends (x + 1) cells
ascends x [] p q = tt
ascends x (e ∷ cells) p q =
    let least = both (is_lt (nat_cmp x e.0)) (below_all nat_cmp x cells) p in
    let rest = both (below_all nat_cmp e.0 cells) (is_sorted nat_cmp cells) q in
    (is_more x e.0 least.0, ascends e.0 cells rest.0 rest.1)

all_ascend : (cells : List (ℕ × Cell)) → is_sorted nat_cmp cells ≡ true → Ascends 0 cells
all_ascend [] q = tt
all_ascend (e ∷ cells) q = let rest = both (below_all nat_cmp e.0 cells) (is_sorted nat_cmp cells) q in (omega arith, ascends e.0 cells rest.0 rest.1)

unlike : (x y : ℕ) → x < y → (y == x) ≡ false
unlike x y h = grind (arith, nat_tests)

unlike_less : (x y : ℕ) → y < x → (y == x) ≡ false
unlike_less x y h = grind (arith, nat_tests)

none_at : (column low : ℕ) (cells : List (ℕ × Cell)) → column < low → Ascends low cells → numbered_cell column cells ≡ None
none_at column low [] h asc = refl
none_at column low (e ∷ cells) h asc =
    ap (λ b. cond b (Some e.1) (numbered_cell column cells)) (unlike column e.0 (omega (arith, asc.0))) ∙ none_at column (e.0 + 1) cells (omega (arith, asc.0)) asc.1

passed : (column : ℕ) (names : List (List ℕ)) (e : ℕ × Cell) (cells : List (ℕ × Cell)) → e.0 < column → numbered_cells column names (e ∷ cells) ≡ numbered_cells column names cells
passed column [] e cells h = refl
passed column (name ∷ names) e cells h =
    let other : numbered_cell column (e ∷ cells) ≡ numbered_cell column cells = ap (λ b. cond b (Some e.1) (numbered_cell column cells)) (unlike_less column e.0 h) in
    λ i. option_to_list (option_map (λ cell. (column, cell)) (other i)) ++ passed (column + 1) names e cells (omega arith) i

none_left : (column : ℕ) (names : List (List ℕ)) → numbered_cells column names [] ≡ []
none_left column [] = refl
none_left column (name ∷ names) = none_left (column + 1) names

-- the cells of all columns are the cells
all_found : (column : ℕ) (names : List (List ℕ)) (cells : List (ℕ × Cell)) → Ascends column cells → AreBelow (column + length names) cells → numbered_cells column names cells ≡ cells
all_found column names [] asc are = none_left column names
all_found column [] (e ∷ cells) asc are = absurd (omega (arith, asc.0, are.0))
all_found column (name ∷ names) (e ∷ cells) asc are =
    let total : column + length (name ∷ names) ≡ column + 1 + length names = omega arith in
    let below = subst (λ (n : ℕ). AreBelow n (e ∷ cells)) total are in
    elim (e.0 == column) as (λ b. (e.0 == column) ≡ b → numbered_cells column (name ∷ names) (e ∷ cells) ≡ e ∷ cells) [
      | true ↦ λ t. (let same : e.0 ≡ column = grind (arith, nat_tests) in
          let here : numbered_cell column (e ∷ cells) ≡ Some e.1 = ap (λ b. cond b (Some e.1) (numbered_cell column cells)) t in
          let rest : numbered_cells (column + 1) names (e ∷ cells) ≡ cells =
          passed (column + 1) names e cells (omega (arith, same)) ∙ all_found (column + 1) names cells (subst (λ (n : ℕ). Ascends (n + 1) cells) same asc.1) below.1 in
          (λ i. option_to_list (option_map (λ cell. (column, cell)) (here i)) ++ rest i) ∙ ap (λ (n : ℕ). (n, e.1) ∷ cells) (sym same))
      | false ↦ λ f. (let more : column + 1 ≤ e.0 = (let least : column ≤ e.0 = asc.0 in grind (arith, nat_tests)) in
          let here : numbered_cell column (e ∷ cells) ≡ None = none_at column (column + 1) (e ∷ cells) (omega arith) (more, asc.1) in
          λ i. option_to_list (option_map (λ cell. (column, cell)) (here i)) ++ all_found (column + 1) names (e ∷ cells) (more, asc.1) below i)
    ] refl

-- named cells that ascend are by column what they were
pub columns_back : (names : List (List ℕ)) (cells : List (ℕ × Cell)) → are_distinct_by is_word names ≡ true → AreBelow (length names) cells → is_sorted nat_cmp cells ≡ true
    → by_column names (cells_said names cells) ≡ cells
unfolding by_column
columns_back names cells d are sorted =
    to_numbers names [] names 0 cells d are refl refl ∙ all_found 0 names cells (all_ascend cells sorted) (subst (λ (n : ℕ). AreBelow n cells) (omega arith) are)

-- ---- their names are the columns', and no name stands there twice

short_step : (b : Bool) (n m : ℕ) → (b ≡ false → n < m) → cond (not b) (1 + n) 0 < suc m
short_step true n m h = omega arith
short_step false n m h = omega (arith, h refl)

found_at : (name : List ℕ) (names : List (List ℕ)) (j : ℕ) → j < length names → is_word (get_or names j []) name ≡ true → prefix_len (λ other. not (is_word other name)) names < length names
found_at name [] j within h = absurd (omega arith)
found_at name (first ∷ names) zero within h = rw h (omega arith)
found_at name (first ∷ names) (suc j) within h =
    short_step (is_word first name) (prefix_len (λ other. not (is_word other name)) names) (length names) (λ e. found_at name names j (omega arith) h)

some_if : (n m : ℕ) → n < m → is_some (if nat_lt n m then Some n else None) ≡ true
some_if n m h = (let e : nat_lt n m ≡ true = grind (arith, nat_tests) in rw e refl)

pub known : (names : List (List ℕ)) (cells : List (ℕ × Cell)) → AreBelow (length names) cells → are_columns names (cells_said names cells) ≡ true
known names [] are = refl
known names (e ∷ cells) are =
    let name = get_or names e.0 [] in
    let here : is_some (column_of name names) ≡ true = some_if (prefix_len (λ other. not (is_word other name)) names) (length names) (found_at name names e.0 are.0 (same_name name)) in
    rw here (known names cells are.1)

pub name_at : (names : List (List ℕ)) (j : ℕ) → list_all is_name names ≡ true → j < length names → is_name (get_or names j []) ≡ true
name_at [] j h within = absurd (omega arith)
name_at (name ∷ names) zero h within = (both (is_name name) (list_all is_name names) h).0
name_at (name ∷ names) (suc j) h within = name_at names j (both (is_name name) (list_all is_name names) h).1 (omega arith)

no_other : (names : List (List ℕ)) (column low : ℕ) (cells : List (ℕ × Cell)) → are_distinct_by is_word names ≡ true → column < length names → AreBelow (length names) cells → column < low → Ascends low cells
    → list_any (is_word (get_or names column [])) (list_map (λ e. e.0) (cells_said names cells)) ≡ false
no_other names column low [] d p are h asc = refl
no_other names column low (e ∷ cells) d p are h asc =
    let here : is_word (get_or names column []) (get_or names e.0 []) ≡ false = distinct_at names column e.0 d p are.0 ∙ unlike_less e.0 column (omega (arith, asc.0)) in
    rw here (no_other names column (e.0 + 1) cells d p are.1 (omega (arith, asc.0)) asc.1)

apart : (names : List (List ℕ)) (low : ℕ) (cells : List (ℕ × Cell)) → are_distinct_by is_word names ≡ true → AreBelow (length names) cells → Ascends low cells → are_distinct (cells_said names cells) ≡ true
apart names low [] d are asc = refl
apart names low (e ∷ cells) d are asc = rw (no_other names e.0 (e.0 + 1) cells d are.0 are.1 (omega arith) asc.1) (apart names (e.0 + 1) cells d are.1 asc.1)

pub names_apart : (names : List (List ℕ)) (cells : List (ℕ × Cell)) → are_distinct_by is_word names ≡ true → AreBelow (length names) cells → is_sorted nat_cmp cells ≡ true → are_distinct (cells_said names cells) ≡ true
names_apart names cells d are sorted = apart names 0 cells d are (all_ascend cells sorted)

few_left : (n low : ℕ) (cells : List (ℕ × Cell)) → low ≤ n → AreBelow n cells → Ascends low cells → low + length cells ≤ n
few_left n low [] h are asc = omega arith
few_left n low (e ∷ cells) h are asc = omega (arith, asc.0, are.0, few_left n (e.0 + 1) cells (omega (arith, are.0)) are.1 asc.1)

-- there are at most as many cells as columns
pub few_cells : (n : ℕ) (cells : List (ℕ × Cell)) → AreBelow n cells → is_sorted nat_cmp cells ≡ true → length cells ≤ n
few_cells n cells are sorted = omega (arith, few_left n 0 cells (omega arith) are (all_ascend cells sorted))
