-- The words ask for a budget that a machine may have.
use Rattle.std.proofs.Common.{◌≡◌, ℕ, ◌≤◌, Bool, true, false, ◌&&◌, nat_le, List, [], ◌∷◌, Option, Some, None, arith, refl, subst}
use Rattle.std.specs.Prelude.{if◌then◌else◌}
use Rattle.std.specs.Option.{option_map_or}
use Rattle.std.proofs.lemmas.Bool.Decides.{nat_tests}
use Rattle.rc_spelling.specs.Numbers.{number_of}
use Rattle.rc_shell.specs.Late.{IsBudget}
use Rattle.rc_shell.specs.Words.{run_of, words_of}
use Rattle.rc_shell.specs.declared.words.Words.{Words}
use Rattle.rc_shell.specs.declared.words.Words.TheVariants.{Run, Refused}

-- what is chosen where it is a run
chosen : (b : Bool) (r : Words) (n : ℕ) → (if b then r else Refused) ≡ Run n → r ≡ Run n
chosen true r n e = e
chosen false r n e = absurd (cc)

-- a number is at most the greatest one
within : (b : Bool) (value most n : ℕ) → (if b && nat_le value most then Some value else None) ≡ Some n → n ≤ most
within false value most n e = absurd (cc)
within true value most n e = few (nat_le value most) refl e
  where
    few : (c : Bool) → nat_le value most ≡ c → (if c then Some value else None) ≡ Some n → n ≤ most
    few true is f = let same : value ≡ n = cc in let le : value ≤ most = grind (arith, nat_tests) in subst (λ k. k ≤ most) same le
    few false is f = absurd (cc)

number_within : (most : ℕ) (word : List ℕ) (n : ℕ) → number_of most word ≡ Some n → n ≤ most
unfolding number_of
number_within most word n e = within _ _ most n e

-- it is a budget where it is four or more
enough : (n m : ℕ) → n ≤ 4096 → (if nat_le 4 n then Run n else Refused) ≡ Run m → IsBudget m
enough n m most e = some (nat_le 4 n) refl e
  where
    some : (c : Bool) → nat_le 4 n ≡ c → (if c then Run n else Refused) ≡ Run m → IsBudget m
    some true is f = let same : n ≡ m = cc in let le : 4 ≤ n = grind (arith, nat_tests) in subst IsBudget same (le, most)
    some false is f = absurd (cc)

run_budget : (word : List ℕ) (m : ℕ) → run_of word ≡ Run m → IsBudget m
run_budget word m e = read (number_of 4096 word) refl e
  where
    read : (o : Option ℕ) → number_of 4096 word ≡ o → option_map_or (λ n. if nat_le 4 n then Run n else Refused) o Refused ≡ Run m → IsBudget m
    read (Some n) is f = enough n m (number_within 4096 word n is) f
    read None is f = absurd (cc)

pub words_budget : (words : List (List ℕ)) (m : ℕ) → words_of words ≡ Run m → IsBudget m
words_budget [] m e = absurd (cc)
words_budget (word ∷ []) m e = let is : Run 32 ≡ Run m = chosen _ (Run 32) m e in let same : 32 ≡ m = cc in subst IsBudget same (omega arith, omega arith)
words_budget (word ∷ option ∷ []) m e = run_budget _ m (chosen _ _ m e)
words_budget (word ∷ option ∷ number ∷ []) m e = run_budget number m (chosen _ _ m e)
words_budget (word ∷ option ∷ number ∷ more ∷ words) m e = absurd (cc)
