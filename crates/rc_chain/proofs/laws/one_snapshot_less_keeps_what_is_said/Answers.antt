use Rattle.rc_core.specs.Chains.{at_place}
use Rattle.rc_core.specs.Steps.{pins_without}
use Rattle.rc_core.specs.laws.Pins.{released-pin}
use Rattle.rc_chain.proofs.laws.one_snapshot_less_keeps_what_is_said.Goals as goal

pub returns : goal.returns
returns c = record {
  released = λ pin k. c.a_snapshots_number_stays.ensures.released pin k.chain.pins;
  kept = λ pin other k off. c.a_snapshots_number_stays.ensures.kept pin other k.chain.pins off;
  chain = λ below p pin k held. c.a_release_keeps_the_whole_chain.ensures.chain below (at_place p k.chain) pin held;
  form = λ p pin k ch. c.a_release_keeps_the_whole_chain.ensures.form (at_place p k.chain) pin ch;
  memtable = λ p pin k held. c.fewer_pins_keep_the_whole_chain.ensures.memtable (at_place p k.chain) (pins_without pin k.chain.pins) (released-pin pin k.chain.pins) held;
  carried = λ p pin k x held. held;
}
