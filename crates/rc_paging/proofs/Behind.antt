-- What is left of a slice behind the lines that were given.
use Rattle.std.specs.Prelude.{◌≡◌, ◌⊎◌, ◌||◌, ◌-◌, Bool, true, false, ℕ, zero, suc, List, [], ◌∷◌, ◌++◌, Option, Some, None, is_some, length, take, drop, if◌then◌else◌, slice_get}
use Rattle.std.specs.Option.{option_to_list}
use Rattle.std.proofs.Common.{refl, sym, ap, ◌∙◌, subst, inl, inr, arith}
use Rattle.rc_cell.specs.declared.rows.Row.{Row}
use Rattle.rc_cell.specs.declared.writes.Tomb.{Tomb}
use Rattle.rc_cell.specs.Winner.{all_cells, winners}
use Rattle.rc_position.specs.declared.comps.Comp.{Comp}
use Rattle.rc_position.specs.declared.slices.Slice.{Slice}
use Rattle.rc_position.specs.Position.{row_pos}
use Rattle.rc_mutation.specs.declared.mutations.Mutation.{Mutation}
use Rattle.rc_mutation.specs.Fragments.{has_any}
use Rattle.rc_mutation.specs.Source.{source_at_head, static_rows}
use Rattle.rc_query.specs.declared.lines.OutLine.{OutLine}
use Rattle.rc_query.specs.declared.lines.OutLine.TheVariants as line
use Rattle.rc_query.specs.Answer.{answer, live_values, row_lines, sliced_from, static_line}
use Rattle.rc_paging.specs.declared.remainders.Remainder.{Remainder}
use Rattle.rc_paging.specs.Remainders.{IsPlacedIn, begins_static, count_given, given_before}
use Rattle.rc_paging.specs.calls.Remainders.{after_line, after_lines, last_of}
use Rattle.rc_paging.proofs.Cutting.{AreRows, all_rows_lines, from_line}

-- ---- the last of lines

less_one : (n : ℕ) (l k : OutLine) (ls : List OutLine) → slice_get (l ∷ k ∷ ls) (suc n) ≡ slice_get (k ∷ ls) n
less_one n l k ls = refl

pub last_get : (ls : List OutLine) → slice_get ls (length ls - 1) ≡ last_of ls
last_get [] = refl
last_get (l ∷ []) = refl
last_get (l ∷ k ∷ ls) =
    let e : length (l ∷ k ∷ ls) - 1 ≡ suc (length (k ∷ ls) - 1) = omega arith in
    ap (slice_get (l ∷ k ∷ ls)) e ∙ last_get (k ∷ ls)

-- behind which there is none
pub none_last : (ls : List OutLine) → last_of ls ≡ None → ls ≡ []
none_last [] h = refl
none_last (l ∷ []) h = absurd (cc)
none_last (l ∷ k ∷ ls) h = (let none : k ∷ ls ≡ [] = none_last (k ∷ ls) h in absurd (cc))

-- the lines before it
pub before_last : (ls : List OutLine) (l : OutLine) → last_of ls ≡ Some l → (a : List OutLine) × (ls ≡ a ++ (l ∷ []))
before_last [] l h = absurd (cc)
before_last (k ∷ []) l h = ([], ap (λ x. or_line x k ∷ []) h)
  where
    or_line : Option OutLine → OutLine → OutLine
    or_line None d = d
    or_line (Some x) d = x
before_last (k ∷ j ∷ ls) l h = (let r = before_last (j ∷ ls) l h in (k ∷ r.0, ap (λ x. k ∷ x) r.1))

assoc : (a : List OutLine) (b c : List OutLine) → (a ++ b) ++ c ≡ a ++ (b ++ c)
assoc [] b c = refl
assoc (x ∷ a) b c = ap (λ l. x ∷ l) (assoc a b c)

pub parted : (n : ℕ) (ls : List OutLine) → ls ≡ take n ls ++ drop n ls
parted zero ls = refl
parted (suc n) [] = refl
parted (suc n) (l ∷ ls) = ap (λ x. l ∷ x) (parted n ls)

-- ---- rows

pub no_static : (c d : List OutLine) (v : List (ℕ × List ℕ)) → AreRows (c ++ (line.Static v ∷ d)) → ⊥
no_static [] d v h = h
no_static (line.Static w ∷ c) d v h = h
no_static (line.Row k w ∷ c) d v h = no_static c d v h

pub rows_dropped : (n : ℕ) (ls : List OutLine) → AreRows ls → AreRows (drop n ls)
rows_dropped zero ls h = h
rows_dropped (suc n) [] h = tt
rows_dropped (suc n) (line.Static w ∷ ls) h = absurd h
rows_dropped (suc n) (line.Row k w ∷ ls) h = rows_dropped n ls h

begins_row : (g left : List OutLine) → AreRows (g ++ left) → begins_static g ≡ false
begins_row [] left h = refl
begins_row (line.Static w ∷ g) left h = absurd h
begins_row (line.Row k w ∷ g) left h = refl

-- the static line is one, where there is one
by_static : (b : Bool) (v : List (ℕ × List ℕ)) → ((if b then Some (line.Static v) else None) ≡ None) ⊎ ((w : List (ℕ × List ℕ)) × ((if b then Some (line.Static v) else None) ≡ Some (line.Static w)))
by_static true v = inr (v, refl)
by_static false v = inl refl

pub static_or : (head : Option Tomb) (rows : List Row) → (static_line head rows ≡ None) ⊎ ((w : List (ℕ × List ℕ)) × (static_line head rows ≡ Some (line.Static w)))
static_or head rows = (let values = live_values head (winners (all_cells rows)) in by_static (has_any values) values)

pub answer_is : (writes : List Mutation) (slice : Slice) → answer writes slice ≡ option_to_list (static_line (source_at_head writes) (static_rows writes)) ++ row_lines writes slice
unfolding answer
answer_is writes slice = refl

-- ---- behind a row

-- where the static line is told rightly, and rows end so, what is left behind the row is left
row_left : (writes : List Mutation) (slice : Slice) (s : Option OutLine) (told : Bool) (key : List Comp) (v : List (ℕ × List ℕ)) (c left : List OutLine) → told ≡ is_some s → row_lines writes slice ≡ c ++ (line.Row key v ∷ left) →
    drop (count_given told true) (option_to_list s ++ row_lines writes (sliced_from slice (row_pos key))) ≡ left
row_left writes slice None told key v c left e h =
    (λ i. drop (count_given (e i) true) (row_lines writes (sliced_from slice (row_pos key)))) ∙ ap (drop 1) (from_line writes slice key v c left h)
row_left writes slice (Some l) told key v c left e h =
    (λ i. drop (count_given (e i) true) (l ∷ row_lines writes (sliced_from slice (row_pos key)))) ∙ ap (drop 1) (from_line writes slice key v c left h)

-- how rows end of which the last so many were dropped
ends_dropped : (n : ℕ) (rows a b : List OutLine) → drop n rows ≡ a ++ b → rows ≡ (take n rows ++ a) ++ b
ends_dropped n rows a b h = parted n rows ∙ ap (λ x. take n rows ++ x) h ∙ sym (assoc (take n rows) a b)

abbrev head_line : List OutLine → OutLine → OutLine
head_line [] d = d
head_line (l ∷ ls) d = l

abbrev tail_lines : List OutLine → List OutLine
tail_lines [] = []
tail_lines (l ∷ ls) = ls

-- which lines end with a row behind those that were given before, and whether the static line was
pub record EndsWithRow (s : Option OutLine) (rows : List OutLine) (told : Bool) (key : List Comp) (v : List (ℕ × List ℕ)) (left : List OutLine) : Type 0 where
  pub before : List OutLine
  pub rows_end : rows ≡ before ++ (line.Row key v ∷ left)
  pub static_told : told ≡ is_some s

starts : (a : List OutLine) (x w : OutLine) (b : List OutLine) → x ≡ w → begins_static (w ∷ []) ≡ true → begins_static (x ∷ (a ++ b)) ≡ true
starts a x w b e h = ap (λ y. begins_static (y ∷ (a ++ b))) e ∙ still w h
  where
    still : (w : OutLine) → begins_static (w ∷ []) ≡ true → begins_static (w ∷ (a ++ b)) ≡ true
    still (line.Static v) h = refl
    still (line.Row k v) h = absurd (cc)

pub ends_row : (s : Option OutLine) (rows : List OutLine) (told row : Bool) (a left : List OutLine) (key : List Comp) (v : List (ℕ × List ℕ)) → AreRows rows → (s ≡ None) ⊎ ((w : List (ℕ × List ℕ)) × (s ≡ Some (line.Static w))) → ((told || row) ≡ true → told ≡ is_some s) →
    drop (count_given told row) (option_to_list s ++ rows) ≡ a ++ (line.Row key v ∷ left) → EndsWithRow s rows (told || begins_static (a ++ (line.Row key v ∷ []))) key v left
ends_row None rows true row a left key v are is placed h = (let none : true ≡ false = placed refl in absurd (cc))
ends_row None rows false false a left key v are is placed h = record {
  before = a;
  rows_end = h;
  static_told = begins_row (a ++ (line.Row key v ∷ [])) left (subst AreRows (h ∙ sym (assoc a (line.Row key v ∷ []) left)) are);
}
ends_row None rows false true a left key v are is placed h = record {
  before = take 1 rows ++ a;
  rows_end = ends_dropped 1 rows a (line.Row key v ∷ left) h;
  static_told = begins_row (a ++ (line.Row key v ∷ [])) left (subst AreRows (h ∙ sym (assoc a (line.Row key v ∷ []) left)) (rows_dropped 1 rows are));
}
ends_row (Some l) rows true false a left key v are is placed h = record { before = a; rows_end = h; static_told = refl }
ends_row (Some l) rows true true a left key v are is placed h = record { before = take 1 rows ++ a; rows_end = ends_dropped 1 rows a (line.Row key v ∷ left) h; static_told = refl }
ends_row (Some l) rows false true a left key v are is placed h = (let none : false ≡ true = placed refl in absurd (cc))
ends_row (Some l) rows false false a left key v are (inl n) placed h = absurd (cc)
ends_row (Some (line.Row k x)) rows false false a left key v are (inr w) placed h = absurd (cc)
ends_row (Some (line.Static x)) rows false false [] left key v are (inr w) placed h = (let none : line.Static x ≡ line.Row key v = ap (λ ls. head_line ls (line.Static x)) h in absurd (cc))
ends_row (Some (line.Static x)) rows false false (y ∷ a) left key v are (inr w) placed h = record {
  before = a;
  rows_end = ap tail_lines h;
  static_told = starts a y (line.Static x) (line.Row key v ∷ []) (sym (ap (λ ls. head_line ls (line.Static x)) h)) refl;
}

-- ---- behind the static line

ends_static : (s : Option OutLine) (rows : List OutLine) (told row : Bool) (a left : List OutLine) (v : List (ℕ × List ℕ)) → AreRows rows → drop (count_given told row) (option_to_list s ++ rows) ≡ a ++ (line.Static v ∷ left) → (drop (count_given true row) (option_to_list s ++ rows) ≡ left) × (true ≡ is_some s)
ends_static None rows false false a left v are h = absurd (no_static a left v (subst AreRows h are))
ends_static None rows true false a left v are h = absurd (no_static a left v (subst AreRows h (rows_dropped 1 rows are)))
ends_static None rows false true a left v are h = absurd (no_static a left v (subst AreRows h (rows_dropped 1 rows are)))
ends_static None rows true true a left v are h = absurd (no_static a left v (subst AreRows h (rows_dropped 2 rows are)))
ends_static (Some l) rows true false a left v are h = absurd (no_static a left v (subst AreRows h are))
ends_static (Some l) rows false true a left v are h = absurd (no_static a left v (subst AreRows h are))
ends_static (Some l) rows true true a left v are h = absurd (no_static a left v (subst AreRows h (rows_dropped 1 rows are)))
ends_static (Some l) rows false false [] left v are h = (ap tail_lines h, refl)
ends_static (Some l) rows false false (y ∷ a) left v are h = absurd (no_static a left v (subst AreRows (ap tail_lines h) are))

-- ---- what is left

-- behind lines that were given the others are left
pub record LeftBehind (writes : List Mutation) (r : Remainder) (left : List OutLine) : Type 0 where
  pub placed : IsPlacedIn writes r
  pub are : drop (given_before r) (answer writes r.slice) ≡ left

module _ (writes : List Mutation) (r : Remainder) (g left : List OutLine) (placed : IsPlacedIn writes r) (h : drop (given_before r) (answer writes r.slice) ≡ g ++ left) where
  abbrev s : Option OutLine
  s = static_line (source_at_head writes) (static_rows writes)

  abbrev told : Bool
  told = r.static_given || begins_static g

  -- the lines, by the static line and the rows
  whole : drop (given_before r) (option_to_list s ++ row_lines writes r.slice) ≡ g ++ left
  whole = ap (drop (given_before r)) (sym (answer_is writes r.slice)) ∙ h

  by_last : (l : Option OutLine) → last_of g ≡ l → LeftBehind writes (after_line told l r) left
  by_last None e = record { placed = placed; are = h ∙ ap (λ x. x ++ left) (none_last g e) }
  by_last (Some (line.Static v)) e =
      let b = before_last g (line.Static v) e in
      let k = ends_static s (row_lines writes r.slice) r.static_given r.row_given b.0 left v (all_rows_lines writes r.slice) (whole ∙ ap (λ x. x ++ left) b.1 ∙ assoc b.0 (line.Static v ∷ []) left) in
      record { placed = λ _. k.1; are = ap (drop (count_given true r.row_given)) (answer_is writes r.slice) ∙ k.0 }
  by_last (Some (line.Row key v)) e =
      let b = before_last g (line.Row key v) e in
      let k = ends_row s (row_lines writes r.slice) r.static_given r.row_given b.0 left key v (all_rows_lines writes r.slice) (static_or (source_at_head writes) (static_rows writes)) placed (whole ∙ ap (λ x. x ++ left) b.1 ∙ assoc b.0 (line.Row key v ∷ []) left) in
      let told_so : told ≡ is_some s = ap (λ x. r.static_given || begins_static x) b.1 ∙ k.static_told in
      record {
        placed = λ _. told_so;
        are = ap (drop (count_given told true)) (answer_is writes (sliced_from r.slice (row_pos key))) ∙ row_left writes r.slice s told key v k.before left told_so k.rows_end;
      }

  pub left_behind_lines : LeftBehind writes (after_lines g r) left
  left_behind_lines = by_last (last_of g) refl
