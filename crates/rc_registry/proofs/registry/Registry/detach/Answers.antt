use Rattle.std.proofs.Common.{refl, vec_capacity}
use Rattle.std.specs.VecDeque.{deque_capacity}
use Rattle.rc_registry.specs.Registry.{detached_use}
use Rattle.rc_registry.proofs.Keeping.{kept-by, seen-by}
use Rattle.rc_registry.proofs.registry.Registry.detach.Goals as goal

pub invariant_of-self : goal.invariant_of-self
invariant_of-self c =
    let i = c.self.inside in
    kept-by i.uses.items i.dropped.items c.args.self.now c.self.view_is c.args.id c.requires detached_use (λ u. refl) i.vacant.items i.owners.items (vec_capacity i.vacant) (deque_capacity i.dropped) c.self.invariant
    c.index_mut.result.now c.detach.new.chain c.index_mut.ensures.value c.detach.ensures

pub returns : goal.returns
returns c =
    let i = c.self.inside in
    seen-by i.uses.items i.dropped.items c.args.self.now c.self.view_is c.args.id c.requires detached_use c.index_mut.result.now c.detach.new.chain c.index_mut.ensures.value c.detach.ensures
