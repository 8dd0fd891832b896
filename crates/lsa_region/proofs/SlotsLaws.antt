-- A slot is made again, or dropped.
use Rattle.std.proofs.Common.{◌≡◌, ℕ, ◌<◌, List, length, get_or, cond, Option, Some, None, sym, ap, ◌∙◌, arith}
use Rattle.std.specs.Prelude.{count_by, is_some}
use Rattle.std.proofs.Math.Nat.{max-eq_left}
use Rattle.std.proofs.Math.ListN.{set}
use Rattle.std.proofs.lemmas.List.{length-set, get_or-set_same, get_or-set_other}
use Rattle.lsa_region.specs.declared.end.End.{End}
use Rattle.lsa_region.specs.calls.Ends.{IsSlotMade}
use Rattle.lsa_region.specs.calls.Ends.{IsSlotDropped}
use Rattle.lsa_region.proofs.Vacancies.{there, count-set}

pub slot-made : (slots : List (Option (Option End))) (n : ℕ) → n < length slots → get_or slots n None ≡ None → count_by (λ s. is_some s) slots < length slots → IsSlotMade slots (set slots n (Some None)) n
slot-made slots n lt fresh less =
    let none : ◌≡◌ {A = ℕ} (cond (is_some (get_or slots n None)) 1 0) 0 = ap (λ s. cond (is_some s) 1 0) fresh in
    record {
      fresh = fresh;
      here = get_or-set_same slots n (Some None) None lt;
      others = λ m ne. get_or-set_other slots n m (Some None) None ne;
      there = omega (arith, none, count-set slots n (Some None) lt);
      bound = length-set slots n (Some None) ∙ sym (max-eq_left (omega (arith, less)));
    }

pub slot-dropped : (slots : List (Option (Option End))) (n : ℕ) (was : Option End) → get_or slots n None ≡ Some was → IsSlotDropped slots (set slots n None) n
slot-dropped slots n was known =
    let lt = there slots n was known in
    let one : ◌≡◌ {A = ℕ} (cond (is_some (get_or slots n None)) 1 0) 1 = ap (λ s. cond (is_some s) 1 0) known in
    record {
      here = get_or-set_same slots n None None lt;
      others = λ m ne. get_or-set_other slots n m None None ne;
      there = omega (arith, one, count-set slots n None lt);
      bound = length-set slots n None;
    }
