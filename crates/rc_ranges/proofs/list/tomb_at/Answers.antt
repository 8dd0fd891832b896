use Rattle.std.proofs.Common.{rules, ◌≡◌, List, drop, ap, sym, ◌∙◌}
use Rattle.std.proofs.lemmas.List.Sorted.{IsPartitionPoint-from_clause}
use Rattle.std.proofs.lemmas.List.{take_rest}
use Rattle.rc_ranges.specs.declared.pieces.Piece.{Piece}
use Rattle.rc_ranges.specs.Cover.{cover}
use Rattle.rc_ranges.specs.calls.Sweep.{sweep_tomb}
use Rattle.rc_ranges.proofs.Finding.{ends_by, IsPartitionedBy-ends, cover-point}
use Rattle.rc_ranges.proofs.list.tomb_at.Goals as goal

pub returns : goal.returns
returns c =
    let point = IsPartitionPoint-from_clause (ends_by c.args.x.now) c.args.pieces.now c.partition_point-first.result c.partition_point-first.ensures.partitioned (IsPartitionedBy-ends c.args.pieces.now c.args.x.now c.requires) (λ a r q k. search rules) in
    let found : cover c.args.pieces.now c.args.x.now ≡ sweep_tomb (drop c.partition_point-first.result c.args.pieces.now) c.args.x.now = cover-point c.args.pieces.now c.partition_point-first.result c.args.x.now c.requires point.0 point.1 in
    c.tomb_in_force.ensures ∙ ap (λ (ps : List Piece). sweep_tomb ps c.args.x.now) (take_rest c.args.pieces.now c.partition_point-first.result) ∙ sym found
