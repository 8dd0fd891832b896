use Rattle.lsa_region.specs.declared.end.End.TheVariants.{Slot}
use Rattle.lsa_tests.proofs.Seated.{slots-stay}
use Rattle.lsa_tests.proofs.region.unlink_at.Goals as goal

pub names_same-requires : goal.names_same-requires
names_same-requires c = slots-stay c.args.region.now c.untie-parted.new.region c.args.slots.now (λ s there. c.untie-parted.ensures (Slot s) there) c.requires

pub returns : goal.returns
returns c = λ s there. c.untie-parted.ensures (Slot s) there
