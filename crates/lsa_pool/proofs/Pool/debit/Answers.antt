use Rattle.lsa_pool.specs.Account.{IsKept}
use Rattle.std.proofs.Common.{◌≡◌, ◌≢◌, subst, sym}
use Rattle.lsa_pool.specs.declared.State.TheVariants.{Free}
use Rattle.lsa_pool.specs.Room.{usage_of}
use Rattle.lsa_pool.proofs.Books.{debits}
use Rattle.lsa_pool.proofs.Pool.debit.Goals as goal

pub invariant_of-self : goal.invariant_of-self
invariant_of-self g c =
    let us = c.self.inside.usages in let n = c.args.n in let r = c.get-usage.result in
    let busy : (usage_of us n).state ≢ Free = rw c.self.view_is c.requires.not_free in
    let read : r ≡ usage_of us n = c.get-usage.ensures in
    subst (λ l. IsKept g.row.S l c.self.inside.free_list.items c.self.inside.free_len c.self.inside.active) (sym c.set.ensures) (debits g.row.S us c.self.inside.free_list.items c.self.inside.free_len c.self.inside.active c.self.invariant n c.args.size busy r read)

pub returns-clause-sound : goal.returns-clause-sound
returns-clause-sound g c = (invariant_of-self g c).sound
