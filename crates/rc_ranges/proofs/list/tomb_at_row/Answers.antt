use Rattle.std.proofs.Common.{rules, ◌≡◌, ℕ, ◌<◌, ◌≤◌, true, false, List, length, drop, get_or, ap, sym, ◌∙◌}
use Rattle.std.specs.List.Sorted.{IsPartitionedBy}
use Rattle.std.proofs.lemmas.List.Sorted.{IsPartitionPoint-from_clause}
use Rattle.std.proofs.lemmas.List.{take_rest}
use Rattle.rc_position.specs.Position.{row_pos}
use Rattle.rc_ranges.specs.declared.pieces.Piece.{Piece}
use Rattle.rc_ranges.specs.Cover.{cover}
use Rattle.rc_ranges.specs.calls.Sweep.{sweep_tomb}
use Rattle.rc_ranges.proofs.Finding.{ended, by_ended, by_ends, IsPartitionedBy-ends, cover-point}
use Rattle.rc_ranges.proofs.list.tomb_at_row.Goals as goal

pub returns : goal.returns
returns c =
    let x = row_pos c.args.key.now in
    let pieces : List Piece = c.args.pieces.now in
    let first : ℕ = c.partition_point-first.result in
    let point = IsPartitionPoint-from_clause (ended x) pieces first c.partition_point-first.ensures.partitioned (by_ended (λ f. IsPartitionedBy f pieces) x (IsPartitionedBy-ends pieces x c.requires)) (λ a r q k. search rules) in
    let found : cover pieces x ≡ sweep_tomb (drop first pieces) x =
    cover-point pieces first x c.requires
    (by_ends (λ f. (k : ℕ) (d : Piece) → 0 ≤ k → k < first → f (get_or pieces k d) ≡ true) x point.0)
    (by_ends (λ f. (k : ℕ) (d : Piece) → first ≤ k → k < length pieces → f (get_or pieces k d) ≡ false) x point.1) in
    c.tomb_in_force_at_row.ensures ∙ ap (λ (ps : List Piece). sweep_tomb ps x) (take_rest pieces first) ∙ sym found
