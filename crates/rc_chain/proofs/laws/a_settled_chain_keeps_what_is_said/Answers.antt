use Rattle.std.specs.Prelude.{None}
use Rattle.std.proofs.Common.{subst}
use Rattle.rc_position.specs.Position.{End}
use Rattle.rc_core.specs.Chains.{IsChainContinuous, at_place}
use Rattle.rc_core.specs.Steps.{IsCarriedIn, with_updating}
use Rattle.rc_chain.specs.laws.PlaceBeside.{beside-some, updating-or-not, settled-same}
use Rattle.rc_chain.proofs.laws.a_settled_chain_keeps_what_is_said.Goals as goal

pub returns : goal.returns
returns c = record {
  chain = λ below p d newest e att ch k. updating-or-not (IsChainContinuous below (with_updating None (at_place End d))) d.updating
      (λ u. c.an_ended_update_keeps_the_whole_chain.ensures.chain below (at_place End d) newest e ch (att u) (beside-some d.updating End u) k)
      (λ u. subst (IsChainContinuous below) (settled-same End d u) k);
  form = λ p q d ch. c.an_ended_update_keeps_the_whole_chain.ensures.form (at_place p d) ch;
  carried = λ p d x k. updating-or-not (IsCarriedIn (with_updating None (at_place End d)) x) d.updating
      (λ u. c.an_update_keeps_what_is_carried.ensures.end (at_place End d) x (beside-some d.updating End u) k)
      (λ u. subst (λ now. IsCarriedIn now x) (settled-same End d u) k);
}
