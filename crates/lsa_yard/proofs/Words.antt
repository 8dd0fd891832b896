-- A number in 8 bytes, and a size in 4.
use Rattle.std.proofs.Common.{◌≡◌, ℕ, ◌*◌, ◌/◌, ◌%◌, List, ◌∷◌, refl, sym, ap, ◌∙◌, w32}
use Rattle.std.specs.Int.{to_le_bytes}
use Rattle.std.proofs.Math.Nat.{div-div-eq-div-mul}
use Rattle.lsa_kinds.specs.Fields.{number}
use Rattle.lsa_yard.specs.Spelled.{size_field}

-- one byte more
more : {a b : ℕ} {l m : List ℕ} → b ≡ a → l ≡ m → a % 256 ∷ l ≡ b % 256 ∷ m
more {b = b} {l = l} e f = ap (λ k. k % 256 ∷ l) (sym e) ∙ ap (λ x. b % 256 ∷ x) f

-- a number divided by 256 so often
record AreShifted (n : ℕ) : Type 0 where
  two : n / 256 / 256 ≡ n / 65536
  three : n / 256 / 256 / 256 ≡ n / 16777216
  four : n / 256 / 256 / 256 / 256 ≡ n / 4294967296
  five : n / 256 / 256 / 256 / 256 / 256 ≡ n / 1099511627776
  six : n / 256 / 256 / 256 / 256 / 256 / 256 ≡ n / 281474976710656
  seven : n / 256 / 256 / 256 / 256 / 256 / 256 / 256 ≡ n / 72057594037927936

shifted : (n : ℕ) → AreShifted n
shifted n =
    let two = div-div-eq-div-mul n 256 256 in let three = ap (λ k. k / 256) two ∙ div-div-eq-div-mul n (256 * 256) 256 in let four = ap (λ k. k / 256) three ∙ div-div-eq-div-mul n (256 * 256 * 256) 256 in
    let five = ap (λ k. k / 256) four ∙ div-div-eq-div-mul n (256 * 256 * 256 * 256) 256 in let six = ap (λ k. k / 256) five ∙ div-div-eq-div-mul n (256 * 256 * 256 * 256 * 256) 256 in
    let seven = ap (λ k. k / 256) six ∙ div-div-eq-div-mul n (256 * 256 * 256 * 256 * 256 * 256) 256 in
    record { two = two; three = three; four = four; five = five; six = six; seven = seven }

pub spelled-size : (n : ℕ) → to_le_bytes w32 n ≡ size_field n
unfolding size_field
spelled-size n = let s = shifted n in more refl (more refl (more s.two (more s.three refl)))
