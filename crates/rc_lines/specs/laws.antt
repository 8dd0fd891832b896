-- Laws of lines, for crates above to cite.
pub mod Halves
pub mod Named
pub mod WordForms
pub mod ByShape
pub mod Refusals
pub mod Fitting
pub mod Said
pub mod Tests
pub mod FittingCommands
pub mod Plain
pub mod Spaces
pub mod Spelled
pub mod Sayable
pub mod Columns
pub mod Lengths
pub mod Lines
pub mod Users
pub mod Heard
pub mod HeardLines
use Rattle.std.specs.Prelude.{ℕ, ◌+◌, ◌<◌, true, false, nat_lt, List, length, take, Option, Err, ◌≡◌}
use Rattle.std.proofs.Common.{refl, sym, subst, ap, ◌∙◌, arith}
use Rattle.std.proofs.lemmas.List.{length-take, take_all}
use Rattle.std.proofs.lemmas.Bool.Decides.{nat_tests}
use Rattle.rc_schema.specs.SchemaValue.{SchemaValue}
use Rattle.rc_lines.specs.Grammar.{longest_line, parse}
use Rattle.rc_lines.specs.declared.commands.Refusal.TheVariants.{BadLine}

front_is_long : (n : ℕ) (line : List ℕ) → n < length line → n < length (take (n + 1) line)
front_is_long n line long = omega (arith, length-take (n + 1) line)

-- a line that is too long is a bad line, whatever it begins with
pub long_line : (taken : Option SchemaValue) (line : List ℕ) → nat_lt longest_line (length line) ≡ true → parse taken line ≡ Err BadLine
unfolding parse
long_line taken line long = rw long refl

at_limit : (n : ℕ) → n ≡ longest_line → (line : List ℕ) → nat_lt n (length line) ≡ true → nat_lt longest_line (length line) ≡ true
at_limit n e line long = subst (λ (m : ℕ). nat_lt m (length line) ≡ true) e long

cut_at : (n : ℕ) → n ≡ longest_line → (taken : Option SchemaValue) (line : List ℕ) → parse taken (take (n + 1) line) ≡ parse taken line
cut_at n e taken line =
    elim (nat_lt n (length line)) as (λ b. nat_lt n (length line) ≡ b → parse taken (take (n + 1) line) ≡ parse taken line) [
      | true ↦ λ t. (let short : n < length line = grind (arith, nat_tests) in
          let long : nat_lt n (length (take (n + 1) line)) ≡ true = (let within : n < length (take (n + 1) line) = front_is_long n line short in grind (arith, nat_tests)) in
          long_line taken (take (n + 1) line) (at_limit n e (take (n + 1) line) long) ∙ sym (long_line taken line (at_limit n e line t)))
      | false ↦ λ t. ap (parse taken) (take_all (n + 1) line (grind (arith, nat_tests)))
    ] refl

-- the first bytes of a line, one more than the longest line has, mean what the line means
pub long_lines_are_cut : (taken : Option SchemaValue) (line : List ℕ) → parse taken (take 65537 line) ≡ parse taken line
long_lines_are_cut taken line = cut_at 65536 refl taken line
