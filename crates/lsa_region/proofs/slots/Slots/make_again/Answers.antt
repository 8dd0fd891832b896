use Rattle.std.proofs.Common.{◌≡◌, ◌-◌, ◌+◌, ◌<◌, None, Some, length, subst, arith}
use Rattle.std.specs.Prelude.{count_by, is_some}
use Rattle.std.proofs.Math.ListN.{set}
use Rattle.std.proofs.lemmas.List.{get_or_read, length-set}
use Rattle.lsa_region.specs.calls.Ends.{IsSlotMade}
use Rattle.lsa_region.proofs.Vacancies.{vacancy-last, vacancy-take}
use Rattle.lsa_region.proofs.SlotsLaws.{slot-made}
use Rattle.lsa_region.proofs.slots.Slots.make_again.Goals as goal

pub invariant_of-self : goal.invariant_of-self
invariant_of-self c =
    let i = c.self.inside in let slots = i.named.items in let vacancy = c.self.invariant.0 in let before = i.vacant_len - 1 in
    let less : count_by (λ s. is_some s) slots < length slots = rw c.self.view_is c.requires in
    let counted : i.vacant_len ≡ before + 1 = omega (arith, less, vacancy.counted) in
    let is = get_or_read i.vacant.items before c.index-number.result.now (omega (arith, vacancy.counted, vacancy.long)) c.index-number.ensures 0 in
    (vacancy-take slots i.vacant.items i.vacant_len vacancy c.index-number.result.now before None counted is, omega (arith, c.self.invariant.1, length-set slots c.index-number.result.now (Some None)))

pub returns : goal.returns
returns c =
    let i = c.self.inside in let slots = i.named.items in let vacancy = c.self.invariant.0 in let before = i.vacant_len - 1 in
    let less : count_by (λ s. is_some s) slots < length slots = rw c.self.view_is c.requires in
    let counted : i.vacant_len ≡ before + 1 = omega (arith, less, vacancy.counted) in
    let is = get_or_read i.vacant.items before c.index-number.result.now (omega (arith, vacancy.counted, vacancy.long)) c.index-number.ensures 0 in
    let last = vacancy-last slots i.vacant.items i.vacant_len vacancy c.index-number.result.now before counted is in
    subst (λ l. IsSlotMade l (set slots c.index-number.result.now (Some None)) c.index-number.result.now) c.self.view_is (slot-made slots c.index-number.result.now last.0 last.1 less)
