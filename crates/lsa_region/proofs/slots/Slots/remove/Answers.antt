use Rattle.std.proofs.Common.{◌≡◌, None, Some, get_or, subst, arith}
use Rattle.std.proofs.Math.ListN.{set}
use Rattle.std.proofs.lemmas.List.{length-set}
use Rattle.lsa_region.specs.calls.Ends.{IsSlotDropped}
use Rattle.lsa_region.proofs.Vacancies.{vacancy-give}
use Rattle.lsa_region.proofs.SlotsLaws.{slot-dropped}
use Rattle.lsa_region.proofs.slots.Slots.remove.Goals as goal

pub invariant_of-self : goal.invariant_of-self
invariant_of-self c =
    let i = c.self.inside in let slots = i.named.items in let n = c.args.number in
    let known : get_or slots n None ≡ Some c.requires.0 = rw c.self.view_is c.requires.1 in
    (vacancy-give slots i.vacant.items i.vacant_len c.self.invariant.0 n c.requires.0 known, omega (arith, c.self.invariant.1, length-set slots n None))

pub returns : goal.returns
returns c =
    let i = c.self.inside in let slots = i.named.items in let n = c.args.number in
    let known : get_or slots n None ≡ Some c.requires.0 = rw c.self.view_is c.requires.1 in
    subst (λ l. IsSlotDropped l (set slots n None) n) c.self.view_is (slot-dropped slots n c.requires.0 known)
