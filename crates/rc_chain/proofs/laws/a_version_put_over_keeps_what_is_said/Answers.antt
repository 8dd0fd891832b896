use Rattle.std.specs.Prelude.{[], None}
use Rattle.std.proofs.Common.{sym, subst}
use Rattle.rc_position.specs.Position.{Head}
use Rattle.rc_core.specs.Chains.{IsChainContinuous, IsMemtableChain, at_place, phase_at}
use Rattle.rc_core.specs.Steps.{IsCarriedIn, IsChain}
use Rattle.rc_chain.specs.Lives.{with_version_over}
use Rattle.rc_chain.specs.laws.PlaceBeside.{added-beside, anywhere-form, begun-beside, beside-none, either-kind}
use Rattle.rc_chain.proofs.laws.a_version_put_over_keeps_what_is_said.Goals as goal

pub returns : goal.returns
returns c = record {
  form = λ p d newest phase e u ch. either-kind (IsChain (at_place Head (with_version_over phase d))) d.kind
      (λ m. subst IsChain (sym (added-beside Head phase d m u)) (c.what_leaves_a_chain.ensures.added (at_place Head d) None phase (anywhere-form p Head d ch)))
      (λ k. subst IsChain (sym (begun-beside p phase d k)) (c.a_begun_update_keeps_the_whole_chain.ensures.form (λ _. []) (at_place p d) newest phase e ch));
  memtable = λ p d newest phase e m u att ch k. subst IsMemtableChain (sym (added-beside p phase d m u)) (c.a_new_version_keeps_the_memtables_form.ensures (at_place p d) newest None phase e ch att k);
  stands = λ writes d phase k. c.a_memtable_stands_for_its_writes.ensures.added writes d.versions phase k;
  chain = λ below p d newest phase change e k u att ch same held. subst (IsChainContinuous below) (sym (begun-beside p phase d k))
      (c.a_begun_update_keeps_the_whole_chain.ensures.chain below (at_place p d) newest phase e ch att (beside-none d.updating p u) (c.an_update_says_no_less.ensures (below (phase_at d.versions newest)) (below phase) change same) held);
  carried = λ p d phase x k u held. subst (λ now. IsCarriedIn now x) (sym (begun-beside p phase d k)) (c.an_update_keeps_what_is_carried.ensures.begin (at_place p d) phase x (beside-none d.updating p u) held);
  below = λ d phase j l. c.what_is_put_over_is_not_seen_below.ensures d.versions _ j l;
  silent = λ phase. (c.a_new_version_says_nothing.ensures None phase, c.a_new_version_stands_at_the_head.ensures phase);
}
