use Rattle.std.proofs.Common.{refl}
use Rattle.rc_core.specs.Chains.{IsChainContinuous, at_place}
use Rattle.rc_core.specs.Merge.{IsSeenAlike}
use Rattle.rc_core.specs.Steps.{IsCarriedIn, IsChain}
use Rattle.rc_chain.specs.laws.PlaceBeside.{relabelled-by}
use Rattle.rc_chain.proofs.laws.a_relabelled_chain_keeps_what_is_said.Goals as goal

pub returns : goal.returns
returns c = record {
  chain = λ below p k newest phase e ch same held. relabelled-by (λ now. IsChainContinuous below (at_place p now.chain)) phase k
      (λ att. c.a_new_phase_keeps_the_whole_chain.ensures below (at_place p k.chain) newest phase e ch att (same att) held) held;
  form = λ p k newest phase e ch. relabelled-by (λ now. IsChain (at_place p now.chain)) phase k (λ _. c.a_new_phase_changes_nothing_that_is_seen.ensures.form (at_place p k.chain) newest phase e ch) ch;
  seen = λ k newest phase e. relabelled-by (λ now. IsSeenAlike k.chain.versions now.chain.versions) phase k (λ _. c.a_new_phase_changes_nothing_that_is_seen.ensures.seen k.chain.versions newest phase e)
      (record { statics = (refl, refl); clustered = λ s. (refl, refl); head = refl });
  carried = λ p k newest phase x e held. relabelled-by (λ now. IsCarriedIn (at_place p now.chain) x) phase k (λ _. c.a_new_phase_changes_nothing_that_is_seen.ensures.carried (at_place p k.chain) newest phase x e held) held;
  below = λ below other p d ch same held. c.what_lies_below_counts_by_its_source.ensures below other (at_place p d) ch same held;
}
