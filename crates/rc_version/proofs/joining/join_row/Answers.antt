use Rattle.rc_position.specs.Position.{row_pos}
use Rattle.rc_version.proofs.Gaps.{never-last}
use Rattle.rc_version.proofs.joining.join_row.Goals as goal

pub unreachable-requires : goal.unreachable-requires
unreachable-requires g c = let h = c.requires.row.4.version in never-last c.args.region.now c.args.v c.requires.row.1 c.requires.row.2 (row_pos c.args.key.now) h (c.in-Last.ensures c.requires.row.1 h.tree)
