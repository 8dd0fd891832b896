use Rattle.lsa_pool.specs.Account.{IsKept}
use Rattle.std.proofs.Common.{◌≡◌, ◌+◌, ◌<◌, ◌≤◌, length, Some, ap, ◌∙◌, arith, subst, sym}
use Rattle.lsa_pool.specs.Room.{usage_of, active_of}
use Rattle.lsa_pool.proofs.Books.{active_within, credits}
use Rattle.lsa_pool.proofs.Pool.credit.Goals as goal

pub invariant_of-self : goal.invariant_of-self
invariant_of-self g c =
    let us = c.self.inside.usages in let n = c.args.n in
    let was : active_of us ≡ Some n = ap active_of c.self.view_is ∙ c.requires.active in
    let lt : n < length us = active_within g.row.S us c.self.inside.free_list.items c.self.inside.free_len c.self.inside.active c.self.invariant n was in
    let r = c.get-usage.result in
    let read : r ≡ usage_of us n = c.get-usage.ensures in
    let fits : (usage_of us n).used + c.args.size ≤ g.row.S = rw c.self.view_is c.requires.fits in
    subst (λ l. IsKept g.row.S l c.self.inside.free_list.items c.self.inside.free_len c.self.inside.active) (sym c.set.ensures) (credits g.row.S us c.self.inside.free_list.items c.self.inside.free_len c.self.inside.active c.self.invariant n c.args.size was r read
    (omega (arith, fits, ap (λ v. v.used) read)))

pub returns-clause-sound : goal.returns-clause-sound
returns-clause-sound g c = (invariant_of-self g c).sound
