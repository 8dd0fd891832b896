-- The answer over a splice, with any writes beside it.
use Rattle.std.proofs.Common.{◌≡◌, List, [], ◌∷◌, ◌++◌, Option, sym, ap, ◌∙◌}
use Rattle.std.specs.List.{cons_option}
use Rattle.rc_cell.specs.declared.rows.Row.{Row}
use Rattle.rc_cell.specs.declared.writes.Tomb.{Tomb}
use Rattle.rc_cell.specs.Greatest.{greater}
use Rattle.rc_cell.specs.laws.{joined_row-append}
use Rattle.rc_cell.specs.Orders.{tomb_cmp}
use Rattle.rc_cell.specs.Winner.{greatest, joined_row}
use Rattle.rc_position.specs.declared.positions.Pos.{Pos}
use Rattle.rc_position.specs.declared.slices.Slice.{Slice}
use Rattle.rc_ranges.specs.Cover.{cover}
use Rattle.rc_ranges.specs.laws.Covering.{cover-append}
use Rattle.rc_mutation.specs.declared.mutations.Mutation.{Mutation}
use Rattle.rc_mutation.specs.Source.{all_pieces, all_rows, partition_tombs, rows_in, source_at, static_rows}
use Rattle.rc_query.specs.Answer.{answer}
use Rattle.rc_spliced.specs.Lines.{lines_from, lines_short_of}
use Rattle.rc_spliced.specs.Spliced.{IsSpliced, SameSourceBefore, SameSourceFrom, with_head_of}
use Rattle.rc_spliced.proofs.Answering.{answer-cut, before-same, from-same}
use Rattle.rc_spliced.proofs.Rows.{rows_in-append}
use Rattle.rc_spliced.proofs.Splicing.{said-alone}

-- what a mutation says at a position joined to what writes say there
abbrev joined_to : Row × Option Tomb → List Mutation → Pos → Row × Option Tomb
joined_to said writes y = (joined_row (said.0 ∷ joined_row (rows_in y (all_rows writes)) ∷ []), greater tomb_cmp said.1 (cover (all_pieces writes) y))

says-beside : (m : Mutation) (writes : List Mutation) (y : Pos) → source_at (m ∷ writes) y ≡ joined_to (source_at (m ∷ []) y) writes y
says-beside m writes y =
    (λ i. ((ap joined_row (rows_in-append y m.rows (all_rows writes)) ∙ joined_row-append (rows_in y m.rows) (rows_in y (all_rows writes))) i, cover-append m.ranges (all_pieces writes) y i))
    ∙ ap (λ said. joined_to said writes y) (sym (said-alone m y))

-- mutations that say the same at a position do so beside any writes
same-beside : (m n : Mutation) (writes : List Mutation) (y : Pos) → source_at (m ∷ []) y ≡ source_at (n ∷ []) y → source_at (m ∷ writes) y ≡ source_at (n ∷ writes) y
same-beside m n writes y e = says-beside m writes y ∙ ap (λ said. joined_to said writes y) e ∙ sym (says-beside n writes y)

module _ (x : Pos) (first second m : Mutation) (writes : List Mutation) (is : IsSpliced x first second m) where
  as_first : SameSourceBefore x (m ∷ writes) (first ∷ writes)
  as_first = record {
    head = ap (λ t. greatest tomb_cmp (cons_option t (partition_tombs writes))) is.pt;
    statics = ap (λ r. joined_row (r ∷ static_rows writes)) is.statics;
    clustered = λ y h. same-beside m first writes y (is.before y h);
  }

  as_second : SameSourceFrom x (m ∷ writes) (with_head_of first second ∷ writes)
  as_second = record {
    head = ap (λ t. greatest tomb_cmp (cons_option t (partition_tombs writes))) is.pt;
    clustered = λ y h. same-beside m second writes y (is.from y h);
  }

  pub goes-before : (slice : Slice) → lines_short_of x (answer (m ∷ writes) slice) ≡ lines_short_of x (answer (first ∷ writes) slice)
  goes-before slice = before-same x (m ∷ writes) (first ∷ writes) slice as_first

  pub goes-from : (slice : Slice) → lines_from x (answer (m ∷ writes) slice) ≡ lines_from x (answer (with_head_of first second ∷ writes) slice)
  goes-from slice = from-same x (m ∷ writes) (with_head_of first second ∷ writes) slice as_second

  pub goes-on : (slice : Slice) → answer (m ∷ writes) slice ≡ lines_short_of x (answer (first ∷ writes) slice) ++ lines_from x (answer (with_head_of first second ∷ writes) slice)
  goes-on slice = answer-cut x (m ∷ writes) slice ∙ (λ i. goes-before slice i ++ goes-from slice i)
