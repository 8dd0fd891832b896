-- How many writes are sealed, and which.
use Rattle.std.proofs.Common.{◌≡◌, ◌==◌, ℕ, suc, ◌+◌, ◌-◌, ◌≤◌, Bool, true, false, cond, List, [], ◌∷◌, ◌++◌, length, drop, if◌then◌else◌, sym, ap, ◌∙◌, arith, append-nil}
use Rattle.std.proofs.lemmas.Bool.Decides.{nat_tests}
use Rattle.std.proofs.lemmas.List.{length-append, length-drop}
use Rattle.rc_mutation.specs.declared.mutations.Write.{Write}
use Rattle.rc_machine.specs.State.{State, unstored_writes}
use Rattle.rc_machine.specs.Steps.{sealing}

pub not_none : (n : ℕ) → (suc n == 0) ≡ false
not_none n = grind (arith, nat_tests)

-- what is sealed, and what is written since, once all is sealed unless something is
pub log_sealed : (sealed active : List Write) → (if length sealed == 0 then active else sealed) ++ (if length sealed == 0 then [] else active) ≡ sealed ++ active
log_sealed [] active = append-nil active
log_sealed (w ∷ ws) active = ap (λ (b : Bool). (if b then active else w ∷ ws) ++ (if b then [] else active)) (not_none (length ws))

sealing_at : (m : State) (b : Bool) → (m.stored == m.sealed) ≡ b → sealing m ≡ cond b (length m.log) m.sealed
sealing_at m b e = ap (λ b. cond b (length m.log) m.sealed) e

all_from : (log rest : List Write) (n : ℕ) → n ≤ length log → rest ≡ drop n log → length log ≡ n + length rest
all_from log rest n h e = (let count : length rest ≡ length log - n = ap length e ∙ length-drop n log in omega arith)

-- so many writes there are
pub log_length : (m : State) (sealed active : List Write) → m.stored ≤ length m.log → sealed ++ active ≡ unstored_writes m → length m.log ≡ m.stored + (length sealed + length active)
log_length m sealed active h log =
    let count : length m.log ≡ m.stored + length (sealed ++ active) = all_from m.log (sealed ++ active) m.stored h log in
    omega (arith, count, length-append sealed active)

-- so many are sealed, once all are unless some are
pub sealing_is : (m : State) (sealed active : List Write) → m.stored ≤ length m.log → sealed ++ active ≡ unstored_writes m → m.sealed ≡ m.stored + length sealed → sealing m ≡ m.stored + length (if length sealed == 0 then active else sealed)
sealing_is m [] active h log is =
    let t : (m.stored == m.sealed) ≡ true = grind (arith, nat_tests, is) in
    sealing_at m true t ∙ all_from m.log active m.stored h log
sealing_is m (w ∷ ws) active h log is =
    let t : (m.stored == m.sealed) ≡ false = grind (arith, nat_tests, is) in
    sealing_at m false t ∙ is ∙ ap (λ (b : Bool). m.stored + length (if b then active else w ∷ ws)) (sym (not_none (length ws)))
