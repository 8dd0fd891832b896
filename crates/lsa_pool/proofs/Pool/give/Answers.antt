use Rattle.std.proofs.Math.ListN.{set}
use Rattle.lsa_pool.specs.Account.{IsKept}
use Rattle.std.proofs.Common.{arith, subst, sym, ◌+◌}
use Rattle.lsa_pool.proofs.Books.{give_room, kept-give}
use Rattle.lsa_pool.proofs.Pool.give.Goals as goal

pub invariant_of-self : goal.invariant_of-self
invariant_of-self g c =
    subst (λ l. IsKept g.row.S l (set c.self.inside.free_list.items c.self.inside.free_len c.args.n) (c.self.inside.free_len + 1) c.self.inside.active) (sym c.set.ensures) (kept-give g.row.S c.self.inside.usages c.self.inside.free_list.items c.self.inside.free_len c.self.inside.active c.self.invariant c.args.n (rw c.self.view_is c.requires.closed))

pub index_mut-requires : goal.index_mut-requires
index_mut-requires g c =
    let room = give_room g.row.S c.self.inside.usages c.self.inside.free_list.items c.self.inside.free_len c.self.inside.active c.self.invariant c.args.n (rw c.self.view_is c.requires.closed) in
    omega (arith, room, c.self.inside.free_list.ok.0)

pub returns-clause-sound : goal.returns-clause-sound
returns-clause-sound g c = (invariant_of-self g c).sound
