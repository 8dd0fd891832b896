use Rattle.std.proofs.Common.{◌∷◌, ◌∙◌, ◌++◌, [], None, ap, sym, subst, vec_capacity, arith}
use Rattle.std.specs.VecDeque.{deque_capacity}
use Rattle.std.proofs.Math.ListN.{set}
use Rattle.rc_registry.specs.Kept.{IsKeptRegistry}
use Rattle.rc_registry.specs.Registry.{Registry, put_at_number}
use Rattle.rc_registry.specs.laws.Puts.{put-within}
use Rattle.rc_registry.proofs.Keeping.{dropped-room, is-there, is-within, kept-removed, seen}
use Rattle.rc_registry.proofs.registry.Registry.remove.Goals as goal

pub push_back_reserved-requires : goal.push_back_reserved-requires
push_back_reserved-requires c =
    let i = c.self.inside in
    let some = is-there i.uses.items i.dropped.items c.args.self.now c.self.view_is c.args.id c.requires in
    let room = dropped-room i.uses.items i.vacant.items i.dropped.items i.owners.items (vec_capacity i.vacant) (deque_capacity i.dropped) c.self.invariant c.args.id some in
    omega (arith, room, i.dropped.ok.0)

pub invariant_of-self : goal.invariant_of-self
invariant_of-self c =
    let i = c.self.inside in let id = c.args.id in let r = c.args.self.now in
    let some = is-there i.uses.items i.dropped.items r c.self.view_is id c.requires in
    let kept = kept-removed i.uses.items i.vacant.items i.dropped.items i.owners.items (vec_capacity i.vacant) (deque_capacity i.dropped) c.self.invariant id some in
    let uses = sym (put-within i.uses.items id None (is-within i.uses.items i.dropped.items r c.self.view_is id c.requires)) in
    rw (c.push_back_reserved.ensures.items, c.push_back_reserved.ensures.capacity) (subst (λ us. IsKeptRegistry us i.vacant.items (i.dropped.items ++ id ∷ []) i.owners.items (vec_capacity i.vacant) (deque_capacity i.dropped)) uses kept)

pub returns : goal.returns
returns c =
    let i = c.self.inside in let id = c.args.id in
    let uses = put-within i.uses.items id None (is-within i.uses.items i.dropped.items c.args.self.now c.self.view_is id c.requires) in
    ap (λ ds. seen (set i.uses.items id None) ds) c.push_back_reserved.ensures.items ∙ ap (λ us. seen us (i.dropped.items ++ id ∷ [])) uses
    ∙ ap (λ (r : Registry). seen (put_at_number id None r.uses) (r.dropped ++ id ∷ [])) c.self.view_is
