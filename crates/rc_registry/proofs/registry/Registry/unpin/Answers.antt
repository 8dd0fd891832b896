use Rattle.std.proofs.Common.{refl, IsSome, vec_capacity}
use Rattle.std.specs.VecDeque.{deque_capacity}
use Rattle.rc_core.specs.Steps.{pin_at}
use Rattle.rc_registry.specs.Registry.{use_at, without_pin}
use Rattle.rc_registry.proofs.Keeping.{kept-by, seen-by, some-of}
use Rattle.rc_registry.proofs.registry.Registry.unpin.Goals as goal

pub invariant_of-self : goal.invariant_of-self
invariant_of-self c =
    let i = c.self.inside in let some = some-of (λ u. IsSome (pin_at u.pins c.args.pin)) (use_at c.args.self.now.uses c.args.id) c.requires in
    kept-by i.uses.items i.dropped.items c.args.self.now c.self.view_is c.args.id some (without_pin c.args.pin) (λ u. refl) i.vacant.items i.owners.items (vec_capacity i.vacant) (deque_capacity i.dropped) c.self.invariant
    c.index_mut.result.now c.unpin.new.chain c.index_mut.ensures.value c.unpin.ensures

pub returns : goal.returns
returns c =
    let i = c.self.inside in let some = some-of (λ u. IsSome (pin_at u.pins c.args.pin)) (use_at c.args.self.now.uses c.args.id) c.requires in
    seen-by i.uses.items i.dropped.items c.args.self.now c.self.view_is c.args.id some (without_pin c.args.pin) c.index_mut.result.now c.unpin.new.chain c.index_mut.ensures.value c.unpin.ensures
