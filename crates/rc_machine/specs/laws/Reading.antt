-- What a read leaves of a reader's answer, and what lists that begin alike have in common.
use Rattle.std.proofs.Common.{◌≡◌, ℕ, zero, suc, ◌+◌, ◌-◌, ◌≤◌, nat_lt, true, false, List, [], ◌∷◌, length, take, drop, refl, sym, ap, ◌∙◌, arith}
use Rattle.std.proofs.lemmas.Bool.Decides.{nat_tests}
use Rattle.std.proofs.lemmas.List.{take-take, drop-take, drop-drop}
use Rattle.rc_machine.specs.State.{Reader, lines_of, rest_of}
use Rattle.rc_machine.specs.Steps.{reader_past}

first_below : (n : ℕ) → nat_lt 0 (suc n) ≡ true
first_below n = grind (arith, nat_tests)

next_below : (m n : ℕ) → nat_lt (suc m) (suc n) ≡ nat_lt m n
next_below m n =
    elim (nat_lt m n) as (λ b. nat_lt m n ≡ b → nat_lt (suc m) (suc n) ≡ b) [
      | true ↦ λ e. grind (arith, nat_tests, e)
      | false ↦ λ e. grind (arith, nat_tests, e)
    ] refl

module _ {X : Type 0} where
  -- where lists begin alike they do so up to less
  pub less : (i j : ℕ) (xs ys : List X) → i ≤ j → take j xs ≡ take j ys → take i xs ≡ take i ys
  less i j xs ys h e = sym (take-take i j xs h) ∙ ap (take i) e ∙ take-take i j ys h

  -- and behind their first elements
  pub behind : (n m : ℕ) (xs ys : List X) → take (n + m) xs ≡ take (n + m) ys → take m (drop n xs) ≡ take m (drop n ys)
  behind n m xs ys e = sym (drop-take n m xs) ∙ ap (drop n) e ∙ drop-take n m ys

  longer : (c : ℕ) (xs : List X) → nat_lt c (length (take (suc c) xs)) ≡ nat_lt c (length xs)
  longer c [] = refl
  longer zero (x ∷ xs) = first_below (length (take 0 xs)) ∙ sym (first_below (length xs))
  longer (suc c) (x ∷ xs) = next_below c (length (take (suc c) xs)) ∙ longer c xs ∙ sym (next_below c (length xs))

  -- whether there are more of them is told by one more
  pub more : (c : ℕ) (xs ys : List X) → take (suc c) xs ≡ take (suc c) ys → nat_lt c (length xs) ≡ nat_lt c (length ys)
  more c xs ys e = sym (longer c xs) ∙ ap (λ l. nat_lt c (length l)) e ∙ longer c ys

-- what is left of the answer behind a read
pub rest_past : (count : ℕ) (r : Reader) → rest_of (reader_past count r) ≡ drop count (rest_of r)
rest_past count r =
    let sum : r.settled - 1 + count + 1 - 1 ≡ r.settled - 1 + count = omega arith in
    ap (λ n. drop n (lines_of r)) sum ∙ sym (drop-drop count (r.settled - 1) (lines_of r))
