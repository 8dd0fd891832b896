-- A single write is a write to one place, and each such write is single.
use Rattle.std.specs.Prelude.{◌≡◌, ◌≤◌, ℕ, Bool, true, false, ◌&&◌, nat_le, List, [], ◌∷◌, length, Option, Some, None, is_some}
use Rattle.std.proofs.Common.{inl, inr, refl, arith}
use Rattle.std.proofs.lemmas.Bool.Decides.{nat_tests}
use Rattle.rc_cell.specs.declared.rows.Row.{Row}
use Rattle.rc_cell.specs.declared.writes.Tomb.{Tomb}
use Rattle.rc_cell.specs.Winner.{empty_row}
use Rattle.rc_position.specs.declared.comps.Comp.{Comp}
use Rattle.rc_ranges.specs.declared.pieces.Piece.{Piece}
use Rattle.rc_mutation.specs.declared.mutations.Mutation.{Mutation}
use Rattle.rc_mutation.specs.Fragments.{has_any, is_written}
use Rattle.rc_mutation.specs.laws.Written.{unwritten}
use Rattle.rc_writes.specs.Single.{just_one, IsSingle, IsOnePlace}

first : (b c : Bool) → b && c ≡ true → b ≡ true
first true c h = refl
first false c h = h

second : (b c : Bool) → b && c ≡ true → c ≡ true
second true c h = h
second false c h = absurd (cc)

up_to : (n m : ℕ) → nat_le n m ≡ true → n ≤ m
up_to n m h = grind (arith, nat_tests)

not_two : {X : Type 0} (x y : X) (xs : List X) → nat_le (length (x ∷ (y ∷ xs))) 1 ≡ true → ⊥
not_two x y xs h = let most : length (x ∷ (y ∷ xs)) ≤ 1 = up_to (length (x ∷ (y ∷ xs))) 1 h in omega arith

of_parts : (pt : Option Tomb) (written : Bool) (statics : Row) (rows : List (List Comp × Row)) (ranges : List Piece) → (written ≡ false → statics ≡ empty_row) → just_one (is_some pt) written (has_any rows) (has_any ranges) ≡ true → nat_le (length rows) 1 ≡ true → nat_le (length ranges) 1 ≡ true
    → IsOnePlace (record { pt = pt; statics = statics; rows = rows; ranges = ranges })
of_parts (Some t) true statics rows ranges e h r p = absurd (cc)
of_parts (Some t) false statics (row ∷ rows) ranges e h r p = absurd (cc)
of_parts (Some t) false statics [] (q ∷ qs) e h r p = absurd (cc)
of_parts (Some t) false statics [] [] e h r p = inr (inr (inr (t, λ i. record { pt = Some t; statics = e refl i; rows = []; ranges = [] })))
of_parts None true statics (row ∷ rows) ranges e h r p = absurd (cc)
of_parts None true statics [] (q ∷ qs) e h r p = absurd (cc)
of_parts None true statics [] [] e h r p = inr (inl (statics, refl))
of_parts None false statics (row ∷ []) (q ∷ qs) e h r p = absurd (cc)
of_parts None false statics (row ∷ []) [] e h r p = inl (row.0, row.1, λ i. record { pt = None; statics = e refl i; rows = row ∷ []; ranges = [] })
of_parts None false statics (row ∷ (other ∷ rows)) ranges e h r p = absurd (not_two row other rows r)
of_parts None false statics [] (q ∷ []) e h r p = inr (inr (inl (q, λ i. record { pt = None; statics = e refl i; rows = []; ranges = q ∷ [] })))
of_parts None false statics [] (q ∷ (other ∷ qs)) e h r p = absurd (not_two q other qs p)
of_parts None false statics [] [] e h r p = absurd (cc)

-- a single write is to a row, to the static row, to a range or to the whole partition
pub single-place : (m : Mutation) → IsSingle m → IsOnePlace m
single-place m h =
    let one = just_one (is_some m.pt) (is_written m.statics) (has_any m.rows) (has_any m.ranges) in
    let few = second one (nat_le (length m.rows) 1 && nat_le (length m.ranges) 1) h in
    of_parts m.pt (is_written m.statics) m.statics m.rows m.ranges (unwritten m.statics)
    (first one (nat_le (length m.rows) 1 && nat_le (length m.ranges) 1) h)
    (first (nat_le (length m.rows) 1) (nat_le (length m.ranges) 1) few)
    (second (nat_le (length m.rows) 1) (nat_le (length m.ranges) 1) few)
