use Rattle.std.proofs.Common.{◌∙◌, ap, sym, subst, vec_capacity, arith}
use Rattle.std.specs.VecDeque.{deque_capacity}
use Rattle.rc_registry.specs.Kept.{IsKeptRegistry}
use Rattle.rc_registry.proofs.Keeping.{kept-told, seen, vacant-room}
use Rattle.rc_registry.proofs.registry.Registry.take_dropped.Goals as goal

pub push_reserved-requires : goal.push_reserved-requires
push_reserved-requires c =
    let i = c.self.inside in
    let kept = subst (λ ds. IsKeptRegistry i.uses.items i.vacant.items ds i.owners.items (vec_capacity i.vacant) (deque_capacity i.dropped)) c.in-Some.ensures.items c.self.invariant in
    let room = vacant-room i.uses.items i.vacant.items c.in-Some.id c.pop_front.new.self.items i.owners.items (vec_capacity i.vacant) (deque_capacity i.dropped) kept in
    omega (arith, room, i.vacant.ok.0)

pub invariant_of-self-2 : goal.invariant_of-self-2
invariant_of-self-2 c =
    let i = c.self.inside in
    let kept = subst (λ ds. IsKeptRegistry i.uses.items i.vacant.items ds i.owners.items (vec_capacity i.vacant) (deque_capacity i.dropped)) c.in-Some.ensures.items c.self.invariant in
    let told = kept-told i.uses.items i.vacant.items c.in-Some.id c.pop_front.new.self.items i.owners.items (vec_capacity i.vacant) (deque_capacity i.dropped) kept in
    rw (c.push_reserved.ensures.items, c.push_reserved.ensures.capacity, c.in-Some.ensures.capacity) told

pub returns : goal.returns
returns c = sym c.self.view_is ∙ ap (λ ds. seen c.self.inside.uses.items ds) c.in-Some.ensures.items
