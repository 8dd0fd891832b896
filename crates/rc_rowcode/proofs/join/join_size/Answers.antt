-- The parts of the two codes are those of the two rows, so their lengths are that of the joined row's code.
use Rattle.std.proofs.Common.{length, ap, ◌∙◌, arith}
use Rattle.rc_cell.specs.declared.rows.Row.{Row}
use Rattle.rc_rowcode.specs.Spelling.{row_code}
use Rattle.rc_rowcode.specs.laws.JoinedSizes.{joined_code_short}
use Rattle.rc_rowcode.proofs.Joins.{seen_coded, joined_parts, small_of_heads, size_of_parts}
use Rattle.rc_rowcode.proofs.join.join_size.Goals as goal

pub size_merged-cells-requires-clause-small : goal.size_merged-cells-requires-clause-small
size_merged-cells-requires-clause-small c =
    omega (
      arith,
      small_of_heads c.head_of-ours.result c.head_of-theirs.result
          (seen_coded c.head_of-ours.result c.requires.ours.0 (c.head_of-ours.ensures c.requires.ours.0 c.requires.ours.1 c.requires.ours.2) c.requires.ours.1)
          (seen_coded c.head_of-theirs.result c.requires.theirs.0 (c.head_of-theirs.ensures c.requires.theirs.0 c.requires.theirs.1 c.requires.theirs.2) c.requires.theirs.1),
    )

pub overflow_add-result-3 : goal.overflow_add-result-3
overflow_add-result-3 c = record {
  fits =
      omega (
        arith,
        c.size_merged-cells.ensures,
        c.marker_size.ensures.small,
        c.row_tomb_size.ensures.small,
        small_of_heads c.head_of-ours.result c.head_of-theirs.result
            (seen_coded c.head_of-ours.result c.requires.ours.0 (c.head_of-ours.ensures c.requires.ours.0 c.requires.ours.1 c.requires.ours.2) c.requires.ours.1)
            (seen_coded c.head_of-theirs.result c.requires.theirs.0 (c.head_of-theirs.ensures c.requires.theirs.0 c.requires.theirs.1 c.requires.theirs.2) c.requires.theirs.1),
      );
}

pub returns-clause-small : goal.returns-clause-small
returns-clause-small c =
    omega (
      arith,
      c.size_merged-cells.ensures,
      c.marker_size.ensures.small,
      c.row_tomb_size.ensures.small,
      small_of_heads c.head_of-ours.result c.head_of-theirs.result
          (seen_coded c.head_of-ours.result c.requires.ours.0 (c.head_of-ours.ensures c.requires.ours.0 c.requires.ours.1 c.requires.ours.2) c.requires.ours.1)
          (seen_coded c.head_of-theirs.result c.requires.theirs.0 (c.head_of-theirs.ensures c.requires.theirs.0 c.requires.theirs.1 c.requires.theirs.2) c.requires.theirs.1),
    )

pub returns-clause-value : goal.returns-clause-value
returns-clause-value c = λ r q f g e h.
    size_of_parts c.greater_of-marker.result c.greater_of-tomb.result _ c.marker_size.result c.row_tomb_size.result c.size_merged-cells.result c.marker_size.ensures.value c.row_tomb_size.ensures.value c.size_merged-cells.ensures
    ∙ ap (λ (w : Row). length (row_code w)) (joined_parts c.head_of-ours.result c.head_of-theirs.result r q c.greater_of-marker.ensures c.greater_of-tomb.ensures (c.head_of-ours.ensures r f e) (c.head_of-theirs.ensures q g h))

pub returns-clause-together : goal.returns-clause-together
returns-clause-together c =
    let r = c.requires.ours.0 in
    let q = c.requires.theirs.0 in
    let ours = c.head_of-ours.ensures r c.requires.ours.1 c.requires.ours.2 in
    let theirs = c.head_of-theirs.ensures q c.requires.theirs.1 c.requires.theirs.2 in
    omega (
      arith,
      size_of_parts c.greater_of-marker.result c.greater_of-tomb.result _ c.marker_size.result c.row_tomb_size.result c.size_merged-cells.result c.marker_size.ensures.value c.row_tomb_size.ensures.value c.size_merged-cells.ensures,
      ap (λ (w : Row). length (row_code w)) (joined_parts c.head_of-ours.result c.head_of-theirs.result r q c.greater_of-marker.ensures c.greater_of-tomb.ensures ours theirs),
      joined_code_short r q c.requires.ours.1.ascending c.requires.theirs.1.ascending,
      ap length c.requires.ours.2,
      ap length c.requires.theirs.2,
    )
