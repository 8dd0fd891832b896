-- The splice of two mutations: the rows of one before the position and those of the other from there on, joined, and the range tombstones likewise.
use Rattle.std.proofs.Common.{◌≡◌, ◌≢◌, Bool, true, false, cond, not, List, [], ◌∷◌, ◌++◌, refl, sym, ap, ◌∙◌, append-nil}
use Rattle.std.specs.Prelude.{IsTrue}
use Rattle.std.proofs.lemmas.List.Elements.{All-append, All-filter}
use Rattle.rc_cell.specs.declared.rows.Row.{Row}
use Rattle.rc_cell.specs.Columns.{ascending}
use Rattle.rc_cell.specs.Winner.{empty_row, joined_row}
use Rattle.rc_position.specs.declared.comps.Comp.{Comp}
use Rattle.rc_position.specs.declared.positions.Pos.{Pos}
use Rattle.rc_position.specs.Position.{row_pos}
use Rattle.rc_ranges.specs.Cover.{cover}
use Rattle.rc_ranges.specs.calls.Sweep.{lt}
use Rattle.rc_ranges.specs.laws.Order.{before-lt, lt-before}
use Rattle.rc_mutation.specs.declared.mutations.Mutation.{Mutation}
use Rattle.rc_mutation.specs.laws.ByKey.{KeyedRows}
use Rattle.rc_mutation.specs.laws.JoinedRows.{IsRows-joined_rows}
use Rattle.rc_mutation.specs.laws.Sources.{head-one, rows_in-joined_rows, source-determined}
use Rattle.rc_mutation.specs.Source.{IsMutation, IsRows, joined_rows, rows_in, source_at}
use Rattle.rc_spliced.specs.Spliced.{IsSpliced}
use Rattle.rc_spliced.proofs.Ranges.{cover-before, cover-from, ranges, ranges_canonical}
use Rattle.rc_spliced.proofs.Rows.{kept_rows, rows_in-append, rows_in-kept}
use Rattle.rc_spliced.proofs.Sides.{lt-reached, reached-lt}

-- whether a position stands before x, and whether it does not
abbrev pub early : Pos → Pos → Bool
early x y = lt y x

abbrev pub late : Pos → Pos → Bool
late x y = not (lt y x)

-- the rows of one list before x, and those of another from there on
abbrev pub both_rows : Pos → KeyedRows → KeyedRows → KeyedRows
both_rows x one other = kept_rows (early x) one ++ kept_rows (late x) other

pub rows_in-both : (x y : Pos) (one other : KeyedRows) (b : Bool) → lt y x ≡ b → rows_in y (both_rows x one other) ≡ cond b (rows_in y one) (rows_in y other)
rows_in-both x y one other b h =
    rows_in-append y (kept_rows (early x) one) (kept_rows (late x) other)
    ∙ (λ i. rows_in-kept (early x) y one i ++ rows_in-kept (late x) y other i)
    ∙ ap (λ t. cond t (rows_in y one) [] ++ cond (not t) (rows_in y other) []) h
    ∙ elim b as (λ t. cond t (rows_in y one) [] ++ cond (not t) (rows_in y other) [] ≡ cond t (rows_in y one) (rows_in y other)) [ true ↦ append-nil (rows_in y one) | false ↦ refl ]

-- what one mutation says at a position
pub said-alone : (m : Mutation) (y : Pos) → source_at (m ∷ []) y ≡ (joined_row (rows_in y m.rows), cover m.ranges y)
said-alone m y = λ i. (joined_row (rows_in y (append-nil m.rows i)), cover (append-nil m.ranges i) y)

module _ (x : Pos) (one other : Mutation) (is : IsMutation one) (too : IsMutation other) where
  both_are : IsRows (joined_rows (both_rows x one.rows other.rows))
  both_are =
      let HasColumns : List Comp × Row → Type 0 = λ e. IsTrue (ascending e.1.cells) in
      let IsWritten : List Comp × Row → Type 0 = λ e. e.1 ≢ empty_row in
      let before : List Comp × Row → Bool = λ e. early x (row_pos e.0) in
      let from : List Comp × Row → Bool = λ e. late x (row_pos e.0) in
      IsRows-joined_rows (both_rows x one.rows other.rows)
      (All-append HasColumns (kept_rows (early x) one.rows) (kept_rows (late x) other.rows) (All-filter before HasColumns one.rows is.rows.by_column) (All-filter from HasColumns other.rows too.rows.by_column))
      (All-append IsWritten (kept_rows (early x) one.rows) (kept_rows (late x) other.rows) (All-filter before IsWritten one.rows is.rows.written) (All-filter from IsWritten other.rows too.rows.written))

  abbrev splice : Mutation
  splice = record { pt = one.pt; statics = one.statics; rows = joined_rows (both_rows x one.rows other.rows); ranges = ranges x one.ranges other.ranges is.ranges too.ranges }

  splice-rows : (y : Pos) (b : Bool) → lt y x ≡ b → joined_row (rows_in y splice.rows) ≡ joined_row (cond b (rows_in y one.rows) (rows_in y other.rows))
  splice-rows y b h = rows_in-joined_rows y (both_rows x one.rows other.rows) ∙ ap joined_row (rows_in-both x y one.rows other.rows b h)

  splice-before : (y : Pos) → lt y x ≡ true → source_at (splice ∷ []) y ≡ source_at (one ∷ []) y
  splice-before y h = said-alone splice y ∙ (λ i. (splice-rows y true h i, cover-before x one.ranges other.ranges is.ranges too.ranges y h i)) ∙ sym (said-alone one y)

  splice-from : (y : Pos) → lt y x ≡ false → source_at (splice ∷ []) y ≡ source_at (other ∷ []) y
  splice-from y h = said-alone splice y ∙ (λ i. (splice-rows y false h i, cover-from x one.ranges other.ranges is.ranges too.ranges y h i)) ∙ sym (said-alone other y)

  pub spliced : (m : Mutation) × IsSpliced x one other m
  spliced = (
    splice,
    record {
      is_mutation = record { alone = is.alone; statics = is.statics; rows = both_are; ranges = ranges_canonical x one.ranges other.ranges is.ranges too.ranges };
      pt = refl;
      statics = refl;
      before = λ y h. splice-before y (before-lt y x h);
      from = λ y h. splice-from y (reached-lt x y h);
    },
  )

-- there is one splice
pub one_splice : (x : Pos) (first second m n : Mutation) → IsSpliced x first second m → IsSpliced x first second n → m ≡ n
one_splice x first second m n g h =
    source-determined m n g.is_mutation h.is_mutation (record {
      head = head-one m ∙ g.pt ∙ sym h.pt ∙ sym (head-one n);
      statics = ap (λ r. joined_row (r ∷ [])) (g.statics ∙ sym h.statics);
      clustered = λ y. elim (lt y x) as (λ b. lt y x ≡ b → source_at (m ∷ []) y ≡ source_at (n ∷ []) y) [
        | true ↦ λ e. g.before y (lt-before y x e) ∙ sym (h.before y (lt-before y x e))
        | false ↦ λ e. g.from y (lt-reached x y e) ∙ sym (h.from y (lt-reached x y e))
      ] refl;
    })
