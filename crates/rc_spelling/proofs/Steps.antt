-- A word is read byte by byte: what its front spells, and then what is behind.
use Rattle.std.proofs.Common.{◌≡◌, ℕ, ◌<◌, Bool, true, false, cond, ◌==◌, List, [], ◌∷◌, ◌++◌, length, Option, Some, None, refl, ap, sym, ◌∙◌, subst, append_assoc, arith}
use Rattle.std.specs.Option.{option_map, option_and_then, is_some}
use Rattle.std.proofs.lemmas.Bool.Decides.{nat_tests}
use Rattle.rc_spelling.specs.Spelling.{stands_alone, escaped_byte, lone_byte, escape, bytes_spelled}
use Rattle.rc_spelling.specs.calls.Fronts.{first_alone, first_escaped, first_spelled}
use Rattle.rc_spelling.specs.laws.{alone_ahead, escape_ahead, not_alone}

inside : (x y : ℕ × List ℕ) → ◌≡◌ {A = Option (ℕ × List ℕ)} (Some x) (Some y) → x ≡ y
inside x y h = cc

choice_is : (t : Bool) (x y : ℕ × List ℕ) → ◌≡◌ {A = Option (ℕ × List ℕ)} (cond t (Some x) None) (Some y) → (t ≡ true) × (x ≡ y)
choice_is true x y h = (refl, inside x y h)
choice_is false x y h = cc

choice_none : (t : Bool) (x : ℕ × List ℕ) → ◌≡◌ {A = Option (ℕ × List ℕ)} (cond t (Some x) None) None → t ≡ false
choice_none true x h = cc
choice_none false x h = refl

pair_is : (o : Option ℕ) (after : List ℕ) (y : ℕ × List ℕ) → option_map (λ byte. (byte, after)) o ≡ Some y → (o ≡ Some y.0) × (after ≡ y.1)
pair_is None after y h = cc
pair_is (Some x) after y h = let e = inside (x, after) y h in (ap (λ p. Some p.0) e, ap (λ p. p.1) e)

pair_none : (o : Option ℕ) (after : List ℕ) → option_map {T = ℕ} {U = ℕ × List ℕ} (λ byte. (byte, after)) o ≡ None → o ≡ None
pair_none None after h = refl
pair_none (Some x) after h = cc

-- what a step gives: its byte is the first of what is spelled, and less is left
pub record IsStep (left : List ℕ) (found : ℕ × List ℕ) : Type 0 where
  pub spells : bytes_spelled left ≡ option_map (λ more. found.0 ∷ more) (bytes_spelled found.1)
  pub shorter : length found.1 < length left

alone_step : (byte : ℕ) (after : List ℕ) (found : ℕ × List ℕ) → first_alone byte after ≡ Some found → IsStep (byte ∷ after) found
alone_step byte after found h =
    let e = choice_is (stands_alone byte) (byte, after) found h in
    subst (IsStep (byte ∷ after)) e.1 (record { spells = alone_ahead byte after e.0; shorter = omega arith })

escape_step : (high low : ℕ) (after : List ℕ) (found : ℕ × List ℕ) → first_escaped high low after ≡ Some found → IsStep (37 ∷ high ∷ low ∷ after) found
escape_step high low after found h =
    let e = pair_is (escaped_byte high low) after found h in
    record {
      spells = escape_ahead high low found.0 after e.0 ∙ ap (λ left. option_map (λ more. found.0 ∷ more) (bytes_spelled left)) e.1;
      shorter = subst (λ (left : List ℕ). length left < length (37 ∷ high ∷ low ∷ after)) e.1 (omega arith);
    }

percent : (byte : ℕ) → byte == 37 ≡ true → byte ≡ 37
percent byte h = grind (arith, nat_tests)

long_step : (byte next other : ℕ) (rest : List ℕ) (found : ℕ × List ℕ) (b : Bool) → byte == 37 ≡ b
    → cond b (first_escaped next other rest) (first_alone byte (next ∷ other ∷ rest)) ≡ Some found → IsStep (byte ∷ next ∷ other ∷ rest) found
long_step byte next other rest found true e h = subst (λ (x : ℕ). IsStep (x ∷ next ∷ other ∷ rest) found) (sym (percent byte e)) (escape_step next other rest found h)
long_step byte next other rest found false e h = alone_step byte (next ∷ other ∷ rest) found h

pub step : (left : List ℕ) (found : ℕ × List ℕ) → first_spelled left ≡ Some found → IsStep left found
step [] found h = cc
step (byte ∷ []) found h = alone_step byte [] found h
step (byte ∷ next ∷ []) found h = alone_step byte (next ∷ []) found h
step (byte ∷ next ∷ other ∷ rest) found h = long_step byte next other rest found (byte == 37) refl h

long_stop : (byte next other : ℕ) (rest : List ℕ) (b : Bool) → byte == 37 ≡ b
    → cond b (first_escaped next other rest) (first_alone byte (next ∷ other ∷ rest)) ≡ None → bytes_spelled (byte ∷ next ∷ other ∷ rest) ≡ None
long_stop byte next other rest true e h =
    ap (λ b. cond b (escape next other (bytes_spelled rest)) (lone_byte byte (bytes_spelled (next ∷ other ∷ rest)))) e ∙ (ap (λ (o : Option ℕ). option_and_then (λ first. option_map (λ bytes. first ∷ bytes) (bytes_spelled rest)) o) (pair_none (escaped_byte next other) rest h))
long_stop byte next other rest false e h =
    ap (λ b. cond b (escape next other (bytes_spelled rest)) (lone_byte byte (bytes_spelled (next ∷ other ∷ rest)))) e ∙ (not_alone byte (bytes_spelled (next ∷ other ∷ rest)) (choice_none (stands_alone byte) (byte, next ∷ other ∷ rest) h))

-- where no byte is at the front, a word that is not empty is no spelling
pub stop : (left : List ℕ) → first_spelled left ≡ None → 0 < length left → bytes_spelled left ≡ None
stop [] h some = absurd (omega arith)
stop (byte ∷ []) h some = not_alone byte (Some []) (choice_none (stands_alone byte) (byte, []) h)
stop (byte ∷ next ∷ []) h some = not_alone byte (bytes_spelled (next ∷ [])) (choice_none (stands_alone byte) (byte, next ∷ []) h)
stop (byte ∷ next ∷ other ∷ rest) h some = long_stop byte next other rest (byte == 37) refl h

joined : (made : List ℕ) (byte : ℕ) (o : Option (List ℕ)) → option_map (λ more. (made ++ byte ∷ []) ++ more) o ≡ option_map (λ more. made ++ more) (option_map (λ more. byte ∷ more) o)
joined made byte None = refl
joined made byte (Some more) = ap Some (append_assoc made (byte ∷ []) more)

-- one byte more is made, and what is left spells the rest
pub advance : (made : List ℕ) (left : List ℕ) (found : ℕ × List ℕ) (whole : Option (List ℕ)) → IsStep left found
    → option_map (λ more. made ++ more) (bytes_spelled left) ≡ whole → option_map (λ more. (made ++ found.0 ∷ []) ++ more) (bytes_spelled found.1) ≡ whole
advance made left found whole s h = joined made found.0 (bytes_spelled found.1) ∙ sym (ap (option_map (λ more. made ++ more)) s.spells) ∙ h

-- a value with a front before it is there exactly where it is
pub is_some-front : (byte : ℕ) (o : Option (List ℕ)) → is_some (option_map (λ more. byte ∷ more) o) ≡ is_some o
is_some-front byte None = refl
is_some-front byte (Some more) = refl
