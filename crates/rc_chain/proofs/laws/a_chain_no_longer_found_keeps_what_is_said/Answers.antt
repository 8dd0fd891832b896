use Rattle.rc_core.specs.Chains.{at_place}
use Rattle.rc_chain.proofs.laws.a_chain_no_longer_found_keeps_what_is_said.Goals as goal

pub returns : goal.returns
returns c = record {
  chain = λ below p q d ch held. c.a_detached_chain_stays_continuous.ensures.chain below (at_place p d) ch held;
  form = λ p q d ch. c.a_detached_chain_stays_continuous.ensures.form (at_place p d) ch;
  memtable = λ p q d held. c.pinning_keeps_the_memtables_form.ensures.detached (at_place p d) held;
}
