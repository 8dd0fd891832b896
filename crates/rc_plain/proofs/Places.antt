-- The place of a reader's id: what is looked up stands there, and what is written to the id goes there.
use Rattle.std.proofs.Common.{◌≡◌, ◌==◌, ℕ, suc, ◌+◌, ◌<◌, ◌≤◌, Bool, true, false, cond, not, List, [], ◌∷◌, length, get_or, set, Option, Some, None, is_some, refl, sym, ap, subst, ◌∙◌, arith, nat_lt}
use Rattle.std.specs.List.{position, position_or_len}
use Rattle.std.specs.Map.{lookup, set_value}
use Rattle.std.proofs.lemmas.Bool.Decides.{nat_tests}
use Rattle.rc_query.specs.declared.lines.OutLine.{OutLine}
use Rattle.rc_machine.specs.Steps.{most_readers}

abbrev pub Readers : Type 0
Readers = List (ℕ × List OutLine)

place : ℕ → Readers → ℕ
place id [] = 0
place id (r ∷ rs) = cond (r.0 == id) 0 (suc (place id rs))

place_is : (id : ℕ) (readers : Readers) → position_or_len (λ reader. reader.0 == id) readers ≡ place id readers
unfolding place
place_is id [] = refl
place_is id (r ∷ rs) =
    elim (r.0 == id) as (λ b. cond (not b) (1 + position_or_len (λ reader. reader.0 == id) rs) 0 ≡ cond b 0 (suc (place id rs))) [
      | true ↦ refl
      | false ↦ (let e : position_or_len (λ reader. reader.0 == id) rs ≡ place id rs = place_is id rs in omega arith)
    ]

looks_up : (id : ℕ) (readers : Readers) (d : ℕ × List OutLine) → place id readers < length readers → lookup (λ k. k == id) readers ≡ Some (get_or readers (place id readers) d).1
unfolding place
looks_up id [] d h = absurd (omega arith)
looks_up id (r ∷ rs) d h =
    elim (r.0 == id) as (λ b. cond b 0 (suc (place id rs)) < suc (length rs) → cond b (Some r.1) (lookup (λ k. k == id) rs) ≡ Some (get_or (r ∷ rs) (cond b 0 (suc (place id rs))) d).1) [
      | true ↦ λ k. refl
      | false ↦ λ k. looks_up id rs d (omega arith)
    ] h

writes : (id : ℕ) (readers : Readers) (d : ℕ × List OutLine) (rest : List OutLine) → place id readers < length readers
    → set_value (λ k. k == id) readers rest ≡ set readers (place id readers) ((get_or readers (place id readers) d).0, rest)
unfolding place
writes id [] d rest h = absurd (omega arith)
writes id (r ∷ rs) d rest h =
    elim (r.0 == id) as (λ b. cond b 0 (suc (place id rs)) < suc (length rs) → cond b ((r.0, rest) ∷ rs) (r ∷ set_value (λ k. k == id) rs rest) ≡ set (r ∷ rs) (cond b 0 (suc (place id rs))) ((get_or (r ∷ rs) (cond b 0 (suc (place id rs))) d).0, rest)) [
      | true ↦ λ k. refl
      | false ↦ λ k. ap (λ l. r ∷ l) (writes id rs d rest (omega arith))
    ] h

nothing : (id : ℕ) (readers : Readers) → length readers ≤ place id readers → lookup (λ k. k == id) readers ≡ None
unfolding place
nothing id [] h = refl
nothing id (r ∷ rs) h =
    elim (r.0 == id) as (λ b. suc (length rs) ≤ cond b 0 (suc (place id rs)) → cond b (Some r.1) (lookup (λ k. k == id) rs) ≡ None) [
      | true ↦ λ k. absurd (omega arith)
      | false ↦ λ k. nothing id rs (omega arith)
    ] h

some_is : (b : Bool) (n at : ℕ) → cond b (Some n) None ≡ Some at → (b ≡ true) × (n ≡ at)
some_is true n at e = (refl, cc)
some_is false n at e = absurd (cc)

none_is : (b : Bool) (n : ℕ) → cond b (Some n) None ≡ None → b ≡ false
none_is true n e = absurd (cc)
none_is false n e = refl

pub record IsPlaceOf (readers : Readers) (id at : ℕ) : Type 0 where
  pub in_range : at < length readers
  pub looks_up : (d : ℕ × List OutLine) → lookup (λ k. k == id) readers ≡ Some (get_or readers at d).1
  pub writes : (d : ℕ × List OutLine) (rest : List OutLine) → set_value (λ k. k == id) readers rest ≡ set readers at ((get_or readers at d).0, rest)

pub place_some : (readers : Readers) (id at : ℕ) → position (λ reader. reader.0 == id) readers ≡ Some at → IsPlaceOf readers id at
place_some readers id at e =
    let p = some_is (nat_lt (place id readers) (length readers)) (place id readers) at (subst (λ n. cond (nat_lt n (length readers)) (Some n) None ≡ Some at) (place_is id readers) e) in
    let within : place id readers < length readers = grind (arith, nat_tests, p.0) in
    rw (sym p.1) (record { in_range = within; looks_up = λ d. looks_up id readers d within; writes = λ d rest. writes id readers d rest within })

pub place_none : (readers : Readers) (id : ℕ) → position (λ reader. reader.0 == id) readers ≡ None → lookup (λ k. k == id) readers ≡ None
place_none readers id e =
    let p = none_is (nat_lt (place id readers) (length readers)) (place id readers) (subst (λ n. cond (nat_lt n (length readers)) (Some n) None ≡ None) (place_is id readers) e) in
    let past : length readers ≤ place id readers = grind (arith, nat_tests, p) in
    nothing id readers past

-- what stands at the place is the rest of the reader
pub rest_at : (readers : Readers) (id at : ℕ) (d : ℕ × List OutLine) → IsPlaceOf readers id at → get_or readers at d ≡ d → lookup (λ k. k == id) readers ≡ Some d.1
rest_at readers id at d p e = p.looks_up d ∙ ap (λ (r : ℕ × List OutLine). Some r.1) e

-- what is written there is written to the reader
pub written_at : (readers : Readers) (id at : ℕ) (d : ℕ × List OutLine) (rest : List OutLine) → IsPlaceOf readers id at → get_or readers at d ≡ d → set readers at (d.0, rest) ≡ set_value (λ k. k == id) readers rest
written_at readers id at d rest p e = ap (λ (r : ℕ × List OutLine). set readers at (r.0, rest)) (sym e) ∙ sym (p.writes d rest)

-- whether the id has a place is whether it is open
pub open_some : (readers : Readers) (id : ℕ) (r : Option ℕ) → r ≡ position (λ reader. reader.0 == id) readers → true ≡ is_some r → (rest : List OutLine) × (lookup (λ k. k == id) readers ≡ Some rest)
open_some readers id None e some = absurd (cc)
open_some readers id (Some at) e some = let p = place_some readers id at (sym e) in ((get_or readers at (id, [])).1, p.looks_up (id, []))

pub open_none : (readers : Readers) (id : ℕ) (r : Option ℕ) → r ≡ position (λ reader. reader.0 == id) readers → false ≡ is_some r → lookup (λ k. k == id) readers ≡ None
open_none readers id None e none = place_none readers id (sym e)
open_none readers id (Some at) e none = absurd (cc)

-- whether as many readers are open as may be
pub fewer : (n : ℕ) → n < most_readers → nat_lt n most_readers ≡ true
fewer n h = grind (arith, nat_tests, h)

pub as_many : (n : ℕ) → most_readers ≤ n → nat_lt n most_readers ≡ false
as_many n h = grind (arith, nat_tests, h)
