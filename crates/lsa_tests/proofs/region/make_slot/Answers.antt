use Rattle.lsa_tests.proofs.Seated.{slots-added}
use Rattle.lsa_tests.proofs.region.make_slot.Goals as goal

pub new_slot-requires : goal.new_slot-requires
new_slot-requires c = c.requires.all

pub returns : goal.returns
returns c = slots-added _ _ _ c.in_ok-slot.ensures c.args.slots.now c.requires
