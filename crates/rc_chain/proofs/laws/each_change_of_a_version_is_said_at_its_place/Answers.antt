use Rattle.std.proofs.Common.{refl, ap, inl, inr, ⊎_elim}
use Rattle.rc_core.specs.Version.{state_of}
use Rattle.rc_chain.proofs.laws.each_change_of_a_version_is_said_at_its_place.Goals as goal

pub returns : goal.returns
returns c = record {
  split = λ v x s. ap state_of (c.a_split_changes_nothing.ensures s x v.entries);
  row = λ v x row i. ap state_of (c.a_joined_row_is_joined_at_its_position.ensures.there x row v.entries i.ends);
  elsewhere = λ v x row s off. ap state_of (c.a_joined_row_is_joined_at_its_position.ensures.elsewhere s x row v.entries off);
  range = λ v from to tomb s b. ap state_of (c.a_joined_range_raises_the_tombstone.ensures s from to tomb v.entries b);
  head = λ older newer v tomb. c.a_joined_partition_tombstone_raises_the_head.ensures.head older newer v tomb;
  head_alone = λ v tomb s. (c.a_joined_partition_tombstone_raises_the_head.ensures.elsewhere v tomb s, c.a_joined_partition_tombstone_raises_the_head.ensures.statics v tomb);
  statics = λ v row flag s. refl;
  entry_gone = λ v x s i b. ⊎_elim (λ e. inl (ap state_of e)) (λ e. inr (ap state_of e)) (c.a_dropped_entry_is_same_or_lost.ensures.each s x v.entries i.ascend i.ends b);
  static_gone = λ v. c.each_eviction_is_one.ensures.statics v;
}
