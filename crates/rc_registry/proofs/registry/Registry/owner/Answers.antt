use Rattle.std.proofs.Common.{◌∙◌, arith, vec_capacity}
use Rattle.std.specs.VecDeque.{deque_capacity}
use Rattle.rc_registry.proofs.Keeping.{has-owner, read}
use Rattle.rc_registry.proofs.registry.Registry.owner.Goals as goal

pub index-requires : goal.index-requires
index-requires c =
    let i = c.self.inside in
    let owner = has-owner i.uses.items i.vacant.items i.dropped.items i.owners.items (vec_capacity i.vacant) (deque_capacity i.dropped) c.self.invariant c.args.self.now c.self.view_is c.args.root c.requires.0 c.requires.1 in
    omega (arith, owner.0, i.owners.ok.0)

pub returns : goal.returns
returns c id has =
    let i = c.self.inside in
    let owner = has-owner i.uses.items i.vacant.items i.dropped.items i.owners.items (vec_capacity i.vacant) (deque_capacity i.dropped) c.self.invariant c.args.self.now c.self.view_is c.args.root id has in
    c.index.ensures ∙ read i.owners.items c.args.root.number c.index.result.now owner.0 ∙ owner.1
