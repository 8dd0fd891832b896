use Rattle.lsa_pool.specs.Account.{IsKept}
use Rattle.std.proofs.Common.{◌≡◌, ℕ, ◌<◌, length, cond, Some, None, ap, ◌∙◌, arith, subst, sym}
use Rattle.lsa_pool.specs.declared.State.TheVariants.{Closed}
use Rattle.lsa_pool.specs.Room.{usage_of, free_count, active_of, is_state_free}
use Rattle.lsa_pool.proofs.Books.{active_state, free_count-set, active-kept, active_within, closes}
use Rattle.lsa_pool.proofs.Pool.close.Goals as goal

pub invariant_of-self : goal.invariant_of-self
invariant_of-self g c =
    let us = c.self.inside.usages in let n = c.args.n in
    let was : active_of us ≡ Some n = ap active_of c.self.view_is ∙ c.requires in
    let lt : n < length us = active_within g.row.S us c.self.inside.free_list.items c.self.inside.free_len c.self.inside.active c.self.invariant n was in
    subst (λ l. IsKept g.row.S l c.self.inside.free_list.items c.self.inside.free_len None) (sym c.set.ensures) (closes g.row.S us c.self.inside.free_list.items c.self.inside.free_len c.self.inside.active c.self.invariant n was c.get-usage.result c.get-usage.ensures)

pub returns-clause-active : goal.returns-clause-active
returns-clause-active g c = active-kept g.row.S _ c.self.inside.free_list.items c.self.inside.free_len None (invariant_of-self g c)

pub returns-clause-free : goal.returns-clause-free
returns-clause-free g c =
    let us = c.self.inside.usages in let n = c.args.n in
    let was : active_of us ≡ Some n = ap active_of c.self.view_is ∙ c.requires in
    let lt : n < length us = active_within g.row.S us c.self.inside.free_list.items c.self.inside.free_len c.self.inside.active c.self.invariant n was in
    let here = active_state g.row.S us c.self.inside.free_list.items c.self.inside.free_len c.self.inside.active c.self.invariant n was in
    let r = c.get-usage.result in
    let count : ◌≡◌ {A = ℕ} (cond (is_state_free (usage_of us n).state) 1 0) 0 = ap (λ s. cond (is_state_free s) 1 0) here in
    omega (arith, count, free_count-set us n (record { state = Closed; used = r.used; live = r.live }) lt, ap free_count c.self.view_is, ap free_count c.set.ensures)

pub returns-clause-sound : goal.returns-clause-sound
returns-clause-sound g c = (invariant_of-self g c).sound
