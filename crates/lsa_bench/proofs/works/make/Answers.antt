use Rattle.lsa_region.specs.declared.end.End.TheVariants.{Slot}
use Rattle.lsa_bench.proofs.Moved.{made-gone, made-stays}
use Rattle.lsa_bench.proofs.works.make.Goals as goal

pub returns-then-goes-clause-slots : goal.returns-then-goes-clause-slots
returns-then-goes-clause-slots c = λ s h. c.free_obj.ensures.freed.ends (Slot s) (λ field e. cc) (c.alloc_obj-dummy.ensures.added.ends (Slot s) h)

pub returns-else-goes-clause-slots : goal.returns-else-goes-clause-slots
returns-else-goes-clause-slots c = λ s h. c.alloc_obj-dummy.ensures.added.ends (Slot s) h

pub returns-then-goes-clause-epoch : goal.returns-then-goes-clause-epoch
returns-then-goes-clause-epoch c = λ _. made-gone c.args.goes c.args.region.now.epoch c.alloc_obj-dummy.new.self.epoch c.free_obj.new.self.epoch c.if-goes.true c.alloc_obj-dummy.ensures.epoch c.free_obj.ensures.epoch

pub returns-else-goes-clause-epoch : goal.returns-else-goes-clause-epoch
returns-else-goes-clause-epoch c = λ _. made-stays c.args.goes c.args.region.now.epoch c.alloc_obj-dummy.new.self.epoch c.if-goes.false c.alloc_obj-dummy.ensures.epoch
