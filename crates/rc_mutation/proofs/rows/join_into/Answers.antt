-- The row joined at the key's place, or the new row in the gap, is the row put at the key.
use Rattle.std.proofs.Common.{subst, sym, ◌∙◌}
use Rattle.std.specs.List.{insert}
use Rattle.rc_mutation.specs.Rows.{IsRows}
use Rattle.rc_mutation.specs.calls.Place.{IsAt, IsGapFor}
use Rattle.rc_mutation.proofs.Places.{join_at, join_in_gap, joined_is_rows, on_ok, rows_at_place}
use Rattle.rc_mutation.proofs.rows.join_into.Goals as goal

pub returns-in-Ok-clause-ok : goal.returns-in-Ok-clause-ok
returns-in-Ok-clause-ok c =
    let here : IsAt c.args.items.now.items c.args.key.now c.in-Ok.at = subst (λ xs. IsAt xs c.args.key.now c.in-Ok.at) c.as_slice.ensures.value c.in-Ok.ensures.found in
    on_ok c.join.result (join_at c.args.items.now.items c.args.key.now c.args.row.now c.in-Ok.at c.requires.rows c.as_slice-cells.ensures.ascending here c.index_mut.result.now c.index_mut.ensures.value c.join.new.self) c.join.ensures.ok

pub returns-in-Ok-clause-rows : goal.returns-in-Ok-clause-rows
returns-in-Ok-clause-rows c =
    let here : IsAt c.args.items.now.items c.args.key.now c.in-Ok.at = subst (λ xs. IsAt xs c.args.key.now c.in-Ok.at) c.as_slice.ensures.value c.in-Ok.ensures.found in
    rows_at_place c.args.items.now.items c.args.key.now c.args.row.now c.in-Ok.at c.requires.rows c.requires.written c.as_slice-cells.ensures.ascending here c.index_mut.result.now c.index_mut.ensures.value c.join.new.self c.join.result c.join.ensures.ok c.join.ensures.err

pub returns-in_ok-insert-in-Err-clause-ok : goal.returns-in_ok-insert-in-Err-clause-ok
returns-in_ok-insert-in-Err-clause-ok c =
    let gap : IsGapFor c.args.items.now.items c.args.key.now c.in-Err.at = subst (λ xs. IsGapFor xs c.args.key.now c.in-Err.at) c.as_slice.ensures.value c.in-Err.ensures.absent in
    c.in_ok-insert-in-Err.ensures.items
    ∙ (λ i. insert c.args.items.now.items c.in-Err.at (c.in_ok-key-in-Err.ensures i, c.in_ok-row-in-Err.ensures i))
    ∙ join_in_gap c.args.items.now.items c.args.key.now c.args.row.now c.in-Err.at c.requires.rows c.as_slice-cells.ensures.ascending gap

pub returns-in_ok-insert-in-Err-clause-rows : goal.returns-in_ok-insert-in-Err-clause-rows
returns-in_ok-insert-in-Err-clause-rows c =
    let gap : IsGapFor c.args.items.now.items c.args.key.now c.in-Err.at = subst (λ xs. IsGapFor xs c.args.key.now c.in-Err.at) c.as_slice.ensures.value c.in-Err.ensures.absent in
    subst IsRows
    (sym (c.in_ok-insert-in-Err.ensures.items
    ∙ (λ i. insert c.args.items.now.items c.in-Err.at (c.in_ok-key-in-Err.ensures i, c.in_ok-row-in-Err.ensures i))
    ∙ join_in_gap c.args.items.now.items c.args.key.now c.args.row.now c.in-Err.at c.requires.rows c.as_slice-cells.ensures.ascending gap))
    (joined_is_rows c.args.items.now.items c.args.key.now c.args.row.now c.requires.rows c.as_slice-cells.ensures.ascending c.requires.written)
