use Rattle.rc_entries.proofs.Leaving.{beside-leaves, changed-leaves, dropped-leaves, filled-leaves, moved-leaves, pinned-leaves, released-leaves, several-leaves}
use Rattle.rc_entries.proofs.Invalidating.{relabelled-leaves}
use Rattle.rc_entries.proofs.laws.each_change_leaves_the_caches_chains.Goals as goal

pub returns : goal.returns
returns c = record {
  moved = moved-leaves;
  changed = changed-leaves;
  pinned = pinned-leaves;
  released = released-leaves;
  filled = filled-leaves;
  dropped = dropped-leaves;
  several = several-leaves;
  relabelled = relabelled-leaves;
  beside = beside-leaves;
}
