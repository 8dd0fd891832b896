use Rattle.rc_core.specs.Chains.{at_place}
use Rattle.rc_core.specs.Steps.{pins_with}
use Rattle.rc_core.specs.laws.Pins.{pinned-or-new}
use Rattle.rc_memory.specs.Memory.{snapshot_number}
use Rattle.rc_chain.specs.laws.PlaceBeside.{beside-none, memtable-settled, snapshot-is}
use Rattle.rc_chain.proofs.laws.one_more_snapshot_keeps_what_is_said.Goals as goal

pub returns : goal.returns
returns c = record {
  number = snapshot-is;
  free = c.a_snapshots_number_stays.ensures.free;
  given = λ version k. c.a_snapshots_number_stays.ensures.given version k.chain.pins;
  others = λ version pin k off. c.a_snapshots_number_stays.ensures.others version k.chain.pins pin off;
  chain = λ below p k s att held. c.a_snapshot_keeps_the_whole_chain.ensures.chain below (at_place p k.chain) (snapshot_number k.chain) att (snapshot-is p k.chain s) held;
  form = λ p k s ch. c.a_snapshot_keeps_the_whole_chain.ensures.form (at_place p k.chain) (snapshot_number k.chain) (snapshot-is p k.chain s) ch;
  memtable = λ p k s m att held. let number = snapshot_number k.chain in c.one_more_pin_keeps_the_whole_chain.ensures.memtable (at_place p k.chain) (pins_with number k.chain.pins) number att
      ((snapshot-is p k.chain s).0 (beside-none k.chain.updating p (memtable-settled k.chain s m))) (pinned-or-new number k.chain.pins) held;
  carried = λ p version k x held. held;
}
