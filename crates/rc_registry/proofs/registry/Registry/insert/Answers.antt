use Rattle.std.proofs.Common.{◌≡◌, ◌∙◌, None, Some, ap, sym, subst, vec_capacity, arith}
use Rattle.std.proofs.Math.ListN.{set}
use Rattle.std.specs.VecDeque.{deque_capacity}
use Rattle.rc_registry.specs.Kept.{IsKeptRegistry}
use Rattle.rc_registry.specs.Registry.{Registry, IsNumberIn, new_use, put_at_number, use_at, with_use}
use Rattle.rc_registry.proofs.Keeping.{kept-added, kept-wider, no-other, seen, taken-then}
use Rattle.rc_registry.proofs.registry.Registry.insert.Goals as goal

pub invariant_of-self : goal.invariant_of-self
invariant_of-self c =
    let i = c.self.inside in let m = c.make_room.new in let e = c.make_room.ensures in
    let kept = kept-wider i.uses.items i.vacant.items i.dropped.items i.owners.items m.owners.items (vec_capacity i.vacant) (deque_capacity i.dropped) (vec_capacity m.vacant) (deque_capacity m.dropped)
    c.self.invariant e.owners e.wider.0 e.wider.1 in
    rw (e.same.0, e.same.1, e.same.2) kept

pub index_mut-requires : goal.index_mut-requires
index_mut-requires c =
    let i = c.self.inside in let m = c.make_room.new in let e = c.in_ok-make_room.ensures in let t = c.take_number-id in
    let new = taken-then i.uses.items m.uses.items t.new.uses.items i.vacant.items m.vacant.items t.new.vacant.items i.dropped.items i.owners.items (vec_capacity i.vacant) (deque_capacity i.dropped) t.result
    c.self.invariant e.same.0 e.same.1 t.ensures.taken in
    omega (arith, new.within, t.new.uses.ok.0)

pub invariant_of-self-2 : goal.invariant_of-self-2
invariant_of-self-2 c =
    let i = c.self.inside in let m = c.make_room.new in let e = c.in_ok-make_room.ensures in let t = c.take_number-id in let id = t.result in let root = c.args.root in
    let v = new_use root c.args.kind in
    let new = taken-then i.uses.items m.uses.items t.new.uses.items i.vacant.items m.vacant.items t.new.vacant.items i.dropped.items i.owners.items (vec_capacity i.vacant) (deque_capacity i.dropped) id
    c.self.invariant e.same.0 e.same.1 t.ensures.taken in
    let kept = kept-added i.uses.items i.vacant.items i.dropped.items i.owners.items (vec_capacity i.vacant) (deque_capacity i.dropped) c.self.invariant id v t.new.vacant.items m.owners.items (vec_capacity t.new.vacant)
    (deque_capacity m.dropped) new.none new.once new.idle
    (new.long (Some v) (vec_capacity t.new.vacant) (omega (arith, c.self.invariant.vacant_fit, e.wider.0, t.ensures.room)) (λ none. omega (arith, (e.room none).1, t.ensures.room)))
    (new.long (Some v) (deque_capacity m.dropped) (omega (arith, c.self.invariant.dropped_fit, e.wider.1)) (λ none. (e.room none).2)) (no-other i.uses.items i.dropped.items c.args.self.now c.self.view_is root c.requires) e.owners.stay e.owners.longer e.within in
    let made = new.made (Some c.new_use.result) ∙ ap (λ u. put_at_number id (Some u) i.uses.items) c.new_use.ensures in
    rw e.same.2
    (subst (λ us. IsKeptRegistry us t.new.vacant.items i.dropped.items (set m.owners.items root.number id) (vec_capacity t.new.vacant) (deque_capacity m.dropped)) (sym made) kept)

pub returns-clause-made : goal.returns-clause-made
returns-clause-made c =
    let i = c.self.inside in let m = c.make_room.new in let e = c.in_ok-make_room.ensures in let t = c.take_number-id in let id = t.result in
    let new = taken-then i.uses.items m.uses.items t.new.uses.items i.vacant.items m.vacant.items t.new.vacant.items i.dropped.items i.owners.items (vec_capacity i.vacant) (deque_capacity i.dropped) id
    c.self.invariant e.same.0 e.same.1 t.ensures.taken in
    ap (λ ds. seen (set t.new.uses.items id (Some c.new_use.result)) ds) e.same.2 ∙ ap (λ us. seen us i.dropped.items) (new.made (Some c.new_use.result) ∙ ap (λ u. put_at_number id (Some u) i.uses.items) c.new_use.ensures)
    ∙ ap (with_use id (Some (new_use c.args.root c.args.kind))) c.self.view_is

pub returns-clause-vacant : goal.returns-clause-vacant
returns-clause-vacant c =
    let i = c.self.inside in let m = c.make_room.new in let e = c.in_ok-make_room.ensures in let t = c.take_number-id in let id = t.result in
    let new = taken-then i.uses.items m.uses.items t.new.uses.items i.vacant.items m.vacant.items t.new.vacant.items i.dropped.items i.owners.items (vec_capacity i.vacant) (deque_capacity i.dropped) id
    c.self.invariant e.same.0 e.same.1 t.ensures.taken in
    subst (λ (r : Registry). use_at r.uses id ≡ None) c.self.view_is new.none

pub returns-clause-fresh : goal.returns-clause-fresh
returns-clause-fresh c =
    let i = c.self.inside in let m = c.make_room.new in let e = c.in_ok-make_room.ensures in let t = c.take_number-id in let id = t.result in
    let new = taken-then i.uses.items m.uses.items t.new.uses.items i.vacant.items m.vacant.items t.new.vacant.items i.dropped.items i.owners.items (vec_capacity i.vacant) (deque_capacity i.dropped) id
    c.self.invariant e.same.0 e.same.1 t.ensures.taken in
    subst (λ (r : Registry). IsNumberIn r.dropped id → ⊥) c.self.view_is new.fresh
