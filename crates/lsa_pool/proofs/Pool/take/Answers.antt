use Rattle.lsa_pool.specs.Account.{IsKept}
use Rattle.std.proofs.Common.{◌≡◌, ◌+◌, ◌-◌, ◌<◌, length, Some, sym, ap, ◌∙◌, arith, subst}
use Rattle.std.proofs.lemmas.List.{get_or_read}
use Rattle.std.proofs.lemmas.List.Sums.{count_by-le-length}
use Rattle.lsa_pool.specs.declared.State.TheVariants.{Active}
use Rattle.lsa_pool.specs.Room.{nothing, usage_of, free_count, live_sum, active_of, is_state_free}
use Rattle.lsa_pool.proofs.Books.{kept-take, active-kept, take_free, take_inside, live_sum-set}
use Rattle.lsa_pool.proofs.Pool.take.Goals as goal

pub set-requires : goal.set-requires
set-requires g c =
    let us = c.self.inside.usages in let before = c.self.inside.free_len - 1 in
    let some : 0 < free_count us = rw c.self.view_is c.requires.free in
    let counted : c.self.inside.free_len ≡ before + 1 = omega (arith, c.self.invariant.counted) in
    let short : before < length c.self.inside.free_list.items = omega (arith, c.self.invariant.counted, c.self.invariant.long, count_by-le-length (λ u. is_state_free u.state) us) in
    let is = get_or_read c.self.inside.free_list.items before c.index-n.result.now short c.index-n.ensures 0 in
    (omega arith, (take_inside g.row.S us c.self.inside.free_list.items c.self.inside.free_len c.self.inside.active c.self.invariant c.index-n.result.now before counted is, omega arith))

pub invariant_of-self : goal.invariant_of-self
invariant_of-self g c =
    let us = c.self.inside.usages in let before = c.self.inside.free_len - 1 in
    let some : 0 < free_count us = rw c.self.view_is c.requires.free in
    let none = sym (active-kept g.row.S us c.self.inside.free_list.items c.self.inside.free_len c.self.inside.active c.self.invariant) ∙ ap active_of c.self.view_is ∙ c.requires.none_active in
    let counted : c.self.inside.free_len ≡ before + 1 = omega (arith, c.self.invariant.counted) in
    let short : before < length c.self.inside.free_list.items = omega (arith, c.self.invariant.counted, c.self.invariant.long, count_by-le-length (λ u. is_state_free u.state) us) in
    let is = get_or_read c.self.inside.free_list.items before c.index-n.result.now short c.index-n.ensures 0 in
    subst (λ l. IsKept g.row.S l c.self.inside.free_list.items before (Some c.index-n.result.now)) (sym c.set.ensures) (kept-take g.row.S us c.self.inside.free_list.items c.self.inside.free_len c.self.inside.active c.self.invariant c.index-n.result.now before none counted is)

pub returns-clause-was_free : goal.returns-clause-was_free
returns-clause-was_free g c =
    let us = c.self.inside.usages in let before = c.self.inside.free_len - 1 in
    let some : 0 < free_count us = rw c.self.view_is c.requires.free in
    let counted : c.self.inside.free_len ≡ before + 1 = omega (arith, c.self.invariant.counted) in
    let short : before < length c.self.inside.free_list.items = omega (arith, c.self.invariant.counted, c.self.invariant.long, count_by-le-length (λ u. is_state_free u.state) us) in
    let is = get_or_read c.self.inside.free_list.items before c.index-n.result.now short c.index-n.ensures 0 in
    ap (λ l. (usage_of l c.index-n.result.now).state) (sym c.self.view_is)
    ∙ take_free g.row.S us c.self.inside.free_list.items c.self.inside.free_len c.self.inside.active c.self.invariant c.index-n.result.now before counted is

pub returns-clause-inside : goal.returns-clause-inside
returns-clause-inside g c =
    let us = c.self.inside.usages in let before = c.self.inside.free_len - 1 in
    let some : 0 < free_count us = rw c.self.view_is c.requires.free in
    let counted : c.self.inside.free_len ≡ before + 1 = omega (arith, c.self.invariant.counted) in
    let short : before < length c.self.inside.free_list.items = omega (arith, c.self.invariant.counted, c.self.invariant.long, count_by-le-length (λ u. is_state_free u.state) us) in
    let is = get_or_read c.self.inside.free_list.items before c.index-n.result.now short c.index-n.ensures 0 in
    omega (arith, ap length c.self.view_is, take_inside g.row.S us c.self.inside.free_list.items c.self.inside.free_len c.self.inside.active c.self.invariant c.index-n.result.now before counted is)

pub returns-clause-active : goal.returns-clause-active
returns-clause-active g c = active-kept g.row.S _ c.self.inside.free_list.items (c.self.inside.free_len - 1) (Some c.index-n.result.now) (invariant_of-self g c)

pub returns-clause-free_left : goal.returns-clause-free_left
returns-clause-free_left g c =
    let us = c.self.inside.usages in let before = c.self.inside.free_len - 1 in let n = c.index-n.result.now in
    let some : 0 < free_count us = rw c.self.view_is c.requires.free in
    omega (arith, some, c.self.invariant.counted, (invariant_of-self g c).counted, ap free_count c.self.view_is)

pub returns-clause-live : goal.returns-clause-live
returns-clause-live g c =
    let us = c.self.inside.usages in let before = c.self.inside.free_len - 1 in let n = c.index-n.result.now in
    let some : 0 < free_count us = rw c.self.view_is c.requires.free in
    let counted : c.self.inside.free_len ≡ before + 1 = omega (arith, c.self.invariant.counted) in
    let short : before < length c.self.inside.free_list.items = omega (arith, c.self.invariant.counted, c.self.invariant.long, count_by-le-length (λ u. is_state_free u.state) us) in
    let is = get_or_read c.self.inside.free_list.items before n short c.index-n.ensures 0 in
    let free = take_free g.row.S us c.self.inside.free_list.items c.self.inside.free_len c.self.inside.active c.self.invariant n before counted is in
    let lt = take_inside g.row.S us c.self.inside.free_list.items c.self.inside.free_len c.self.inside.active c.self.invariant n before counted is in
    let unused = c.self.invariant.sound.empty n free in
    omega (arith, c.self.invariant.sound.live n, unused, live_sum-set us n (record nothing { state = Active }) lt, ap live_sum c.self.view_is, ap live_sum c.set.ensures)

pub returns-clause-sound : goal.returns-clause-sound
returns-clause-sound g c = (invariant_of-self g c).sound
