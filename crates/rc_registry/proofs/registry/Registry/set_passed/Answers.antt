use Rattle.std.proofs.Common.{refl, vec_capacity}
use Rattle.std.specs.VecDeque.{deque_capacity}
use Rattle.rc_registry.specs.Registry.{set_passed}
use Rattle.rc_registry.proofs.Keeping.{kept-by, seen-by}
use Rattle.rc_registry.proofs.registry.Registry.set_passed.Goals as goal

pub invariant_of-self : goal.invariant_of-self
invariant_of-self c =
    let i = c.self.inside in
    kept-by i.uses.items i.dropped.items c.args.self.now c.self.view_is c.args.id c.requires (set_passed c.args.passed) (λ u. refl) i.vacant.items i.owners.items (vec_capacity i.vacant) (deque_capacity i.dropped) c.self.invariant
    c.index_mut.result.now c.set_passed.new.chain c.index_mut.ensures.value c.set_passed.ensures

pub returns : goal.returns
returns c =
    let i = c.self.inside in
    seen-by i.uses.items i.dropped.items c.args.self.now c.self.view_is c.args.id c.requires (set_passed c.args.passed) c.index_mut.result.now c.set_passed.new.chain c.index_mut.ensures.value c.set_passed.ensures
