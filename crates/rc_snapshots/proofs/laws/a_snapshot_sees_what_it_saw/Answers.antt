use Rattle.rc_snapshots.specs.laws.Seeing.{all-same, all-see, both-each, both-same, both-still, both-there, lost-then, same-changes, same-then, sees-then, seen-then, snap-then, there-then}
use Rattle.rc_snapshots.proofs.laws.a_snapshot_sees_what_it_saw.Goals as goal

pub returns : goal.returns
returns c = record {
  along = seen-then;
  lossless = lost-then;
  all = all-see;
  same = same-then;
  there = snap-then;
  sees = sees-then;
  both = both-still;
  remain = there-then;
  known = both-there;
  changes = same-changes;
  both_changes = both-same;
  each_changes = both-each;
  all_changes = all-same;
}
