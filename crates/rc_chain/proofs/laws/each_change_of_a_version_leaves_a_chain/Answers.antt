use Rattle.std.specs.Prelude.{Some}
use Rattle.std.proofs.Common.{refl}
use Rattle.rc_core.specs.Change.{drop_at, entry_changed, gap_split, lost_mark, raised_mark}
use Rattle.rc_core.specs.Continuity.{with_entries, without_statics}
use Rattle.rc_core.specs.Steps.{join_flagged_statics, join_pt, range_joined, row_joined, set_flags, set_static_flag, set_statics, set_tombs, with_phase}
use Rattle.rc_core.specs.laws.Order.{ascend-map, ends-map}
use Rattle.rc_version.specs.Versions.{raised_between}
use Rattle.rc_chain.proofs.laws.each_change_of_a_version_leaves_a_chain.Goals as goal

pub returns : goal.returns
returns c = record {
  split = λ p d j x ch. c.one_version_of_a_chain_is_changed.ensures.form p d j (λ v. with_entries (gap_split x v.entries) v) (λ v i. c.each_change_leaves_a_version.ensures.split x v i) ch;
  row = λ p d j x row b ch. c.one_version_of_a_chain_is_changed.ensures.form p d j (row_joined x row) (λ v i. c.each_change_leaves_a_version.ensures.joined x row v b i) ch;
  range = λ p d j from to tomb ch. c.one_version_of_a_chain_is_changed.ensures.form p d j (range_joined from to tomb) (λ v i. c.each_change_leaves_a_version.ensures.stretch (raised_mark (Some tomb)) from to v i) ch;
  head = λ p d j tomb ch. c.one_version_of_a_chain_is_changed.ensures.form p d j (join_pt tomb) (λ v i. record { ascend = i.ascend; ends = i.ends }) ch;
  between = λ p d j from to tomb ch. c.one_version_of_a_chain_is_changed.ensures.form p d j (raised_between from to tomb) (λ v i. record { ascend = ascend-map (entry_changed (raised_mark (Some tomb)) from to) (λ _. refl) v.entries i.ascend; ends = ends-map (entry_changed (raised_mark (Some tomb)) from to) (λ _. refl) (λ _ _. refl) v.entries i.ends }) ch;
  flags = λ p d j x at gap ch. c.one_version_of_a_chain_is_changed.ensures.form p d j (set_flags x at gap) (λ v i. c.set_marks_leave_a_version.ensures.flags x at gap v i) ch;
  tombs = λ p d j x at gap ch. c.one_version_of_a_chain_is_changed.ensures.form p d j (set_tombs x at gap) (λ v i. c.set_marks_leave_a_version.ensures.tombs x at gap v i) ch;
  statics = λ p d j row flag ch. c.one_version_of_a_chain_is_changed.ensures.form p d j (set_statics row flag) (λ v i. record { ascend = i.ascend; ends = i.ends }) ch;
  static_joined = λ p d j row flag ch. c.one_version_of_a_chain_is_changed.ensures.form p d j (join_flagged_statics row flag) (λ v i. record { ascend = i.ascend; ends = i.ends }) ch;
  static_flag = λ p d j flag ch. c.one_version_of_a_chain_is_changed.ensures.form p d j (set_static_flag flag) (λ v i. record { ascend = i.ascend; ends = i.ends }) ch;
  static_gone = λ p d j ch. c.one_version_of_a_chain_is_changed.ensures.form p d j without_statics (λ v i. record { ascend = i.ascend; ends = i.ends }) ch;
  phase = λ p d j phase ch. c.one_version_of_a_chain_is_changed.ensures.form p d j (with_phase phase) (λ v i. record { ascend = i.ascend; ends = i.ends }) ch;
  entry_gone = λ p d j x b ch. c.one_version_of_a_chain_is_changed.ensures.form p d j (λ v. with_entries (drop_at x v.entries) v) (λ v i. c.each_change_leaves_a_version.ensures.taken_out lost_mark x v b i) ch;
}
