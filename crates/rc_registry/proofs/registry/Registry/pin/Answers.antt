use Rattle.std.proofs.Common.{refl, vec_capacity}
use Rattle.std.specs.VecDeque.{deque_capacity}
use Rattle.rc_registry.specs.Registry.{with_pin}
use Rattle.rc_registry.proofs.Keeping.{kept-if, seen-by, then-ok}
use Rattle.rc_registry.proofs.registry.Registry.pin.Goals as goal

pub invariant_of-self : goal.invariant_of-self
invariant_of-self c =
    let i = c.self.inside in
    kept-if i.uses.items i.dropped.items c.args.self.now c.self.view_is c.args.id c.requires c.pin.result (with_pin c.args.version) (λ u. refl) i.vacant.items i.owners.items (vec_capacity i.vacant) (deque_capacity i.dropped)
    c.self.invariant c.index_mut.result.now c.pin.new.chain c.index_mut.ensures.value c.pin.ensures.pinned c.pin.ensures.err

pub returns-clause-pinned : goal.returns-clause-pinned
returns-clause-pinned c =
    let i = c.self.inside in
    then-ok c.pin.result
    (seen-by i.uses.items i.dropped.items c.args.self.now c.self.view_is c.args.id c.requires (with_pin c.args.version) c.index_mut.result.now c.pin.new.chain c.index_mut.ensures.value)
    c.pin.ensures.pinned
