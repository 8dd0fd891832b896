-- Two tests that both hold, and what a test on numbers says.
use Rattle.std.proofs.Common.{◌≡◌, ◌≤◌, ℕ, Bool, true, false, ◌&&◌, nat_le, refl, arith}
use Rattle.std.proofs.lemmas.Bool.Decides.{nat_tests}

pub both : (b c : Bool) → b && c ≡ true → (b ≡ true) × (c ≡ true)
both true c h = (refl, h)
both false c h = absurd (cc)

pub join : (b c : Bool) → b ≡ true → c ≡ true → b && c ≡ true
join b c p q = rw (p, q) refl

pub up_to : (n m : ℕ) → nat_le n m ≡ true → n ≤ m
up_to n m h = grind (arith, nat_tests)
