-- Replies that tell a fault are counted by the store's count of faults.
use Rattle.std.proofs.Common.{◌≡◌, ℕ, ◌+◌, ◌-◌, ◌^◌, ◌≤◌, Bool, true, false, cond, min, List, [], ◌∷◌, refl, sym, subst, arith}
use Rattle.std.specs.List.{count_by}
use Rattle.std.proofs.lemmas.List.Recursion.{is_count_by}
use Rattle.rc_outside.specs.Faults.{Rose}
use Rattle.rc_shell.specs.Run.{AnswersLines}
use Rattle.rc_shell.specs.Step.{Moment, LineStep, tells_fault}

-- how many there are
abbrev pub told_in : List (List ℕ) → ℕ
told_in [] = 0
told_in (text ∷ texts) = cond (tells_fault text) (1 + told_in texts) (told_in texts)

none_more : (m s : ℕ) → min (s + 0) m ≤ s
none_more m s = omega arith

one_more : (m s mid e n : ℕ) → min (s + 1) m ≤ mid → min (mid + n) m ≤ e → min (s + (1 + n)) m ≤ e
one_more m s mid e n p q = omega arith

as_many : (m s mid e n : ℕ) → s ≤ mid → min (mid + n) m ≤ e → min (s + n) m ≤ e
as_many m s mid e n p q = omega arith

more : (b : Bool) (s mid e n : ℕ) → s ≤ mid → (b ≡ true → Rose s mid) → min (mid + n) (2 ^ 64 - 1) ≤ e → min (s + cond b (1 + n) n) (2 ^ 64 - 1) ≤ e
more true s mid e n le rose later = one_more (2 ^ 64 - 1) s mid e n (rose refl) later
more false s mid e n le rose later = as_many (2 ^ 64 - 1) s mid e n le later

counted : (old new : Moment) (lines texts : List (List ℕ)) → AnswersLines LineStep old lines texts new → min (old.faults + told_in texts) (2 ^ 64 - 1) ≤ new.faults
counted old new [] [] a = subst (λ (m : Moment). min (old.faults + 0) (2 ^ 64 - 1) ≤ m.faults) (sym a) (none_more (2 ^ 64 - 1) old.faults)
counted old new (line ∷ lines) (text ∷ texts) a = more (tells_fault text) old.faults a.0.faults new.faults (told_in texts) a.1.counts.0 a.1.counts.1 (counted a.0 new lines texts a.2)
counted old new [] (text ∷ texts) a = absurd a
counted old new (line ∷ lines) [] a = absurd a

pub faults_are_counted_lem : (old new : Moment) (lines texts : List (List ℕ)) → AnswersLines LineStep old lines texts new → min (old.faults + count_by tells_fault texts) (2 ^ 64 - 1) ≤ new.faults
faults_are_counted_lem old new lines texts a = subst (λ k. min (old.faults + k) (2 ^ 64 - 1) ≤ new.faults) (is_count_by told_in tells_fault refl (λ x xs. refl) texts) (counted old new lines texts a)
