-- What several compactions do, and how many of them make room.
use Rattle.std.proofs.Common.{◌≡◌, ℕ, zero, suc, ◌+◌, ◌-◌, ◌*◌, ◌/◌, ◌%◌, ◌^◌, ◌<◌, ◌≤◌, List, Option, Some, None, true, refl, sym, ap, subst, arith}
use Rattle.std.specs.Prelude.{min, IfSome, is_some}
use Rattle.std.proofs.Math.Nat.{min-le_left, min-le_right, le-min}
use Rattle.std.proofs.lemmas.Nat.{le-div}
use Rattle.lsa_pool.specs.Room.{spare_of}
use Rattle.lsa_region.specs.Ref.{Ref}
use Rattle.lsa_region.specs.Region.{View, IsWell, HasLayout, Renamed, objects_in}
use Rattle.lsa_move.specs.Room.{IsCompacted, Compactions}
use Rattle.lsa_region.specs.laws.Names.{renamed-same}
use Rattle.lsa_move.proofs.RenamedLaws.{composed, renamed-twice}

renamed-rounds : (size need rounds : ℕ) (old new : View) → IsWell old → HasLayout old → Compactions size need rounds old new → (names : List (Ref × Ref)) × Renamed old new names
renamed-rounds size need zero old new well layout same = subst (λ v. (names : List (Ref × Ref)) × Renamed old v names) (sym same) (renamed-same old well)
renamed-rounds size need (suc rounds) old new well layout done =
    let first = renamed-rounds size need rounds old done.0 well layout done.2 in let second = done.4.emptied in
    (composed second.0 first.0, renamed-twice old done.0 new first.0 second.0 first.1 second.1.renamed well)

well-rounds : (size need rounds : ℕ) (old new : View) → IsWell old → Compactions size need rounds old new → IsWell new
well-rounds size need zero old new well same = subst IsWell (sym same) well
well-rounds size need (suc rounds) old new well done = done.4.well

compacted-rounds : (size need rounds : ℕ) (old new : View) → Compactions size need rounds old new → new.compacted ≤ old.compacted + rounds
compacted-rounds size need zero old new same = omega (arith, ap (λ (v : View). v.compacted) same)
compacted-rounds size need (suc rounds) old new done = omega (arith, compacted-rounds size need rounds old done.0 done.2, done.4.compacted, min-le_left (done.0.compacted + 1) (2 ^ 64 - 1))

moved-rounds : (size need rounds : ℕ) (old new : View) → old.moved ≤ 2 ^ 64 - 1 → Compactions size need rounds old new → (old.moved ≤ new.moved) × (new.moved ≤ 2 ^ 64 - 1)
moved-rounds size need zero old new cap same = let is = ap (λ (v : View). v.moved) same in (omega (arith, is), omega (arith, is, cap))
moved-rounds size need (suc rounds) old new cap done =
    let before = moved-rounds size need rounds old done.0 cap done.2 in
    let more : old.moved ≤ min (done.0.moved + objects_in done.0 done.1) (2 ^ 64 - 1) = le-min (omega (arith, before.0)) cap in
    (omega (arith, more, done.4.moved), omega (arith, min-le_right (done.0.moved + objects_in done.0 done.1) (2 ^ 64 - 1), done.4.moved))

-- so many rounds were done, each because there was no room
pub record IsMakingRoom (size need : ℕ) (old new : View) : Type 0 where
  pub rounds : ℕ
  pub done : Compactions size need rounds old new
  pub gained : spare_of size old.usages + rounds * (size / 8) ≤ spare_of size new.usages
  pub bounded : rounds ≤ need / (size / 8) + 1
  pub idle : need ≤ spare_of size old.usages → new ≡ old

pub making-init : (size need : ℕ) (v : View) → IsMakingRoom size need v v
making-init size need v = record { rounds = 0; done = refl; gained = omega arith; bounded = omega arith; idle = λ _. refl }

making-step : (size need n : ℕ) (old mid new : View) → 0 < size / 8 → IsMakingRoom size need old mid → spare_of size mid.usages < need → IsCompacted size mid new n → IsMakingRoom size need old new
making-step size need n old mid new some m less step = record {
  rounds = suc m.rounds;
  done = (mid, n, m.done, less, step);
  gained = omega (arith, m.gained, step.spare);
  bounded = omega (arith, le-div m.rounds need (size / 8) some (omega (arith, m.gained, less)));
  idle = λ enough. absurd (omega (arith, enough, m.gained, less));
}

-- a segment that may hold the need has an eighth
eighth : (size need spare : ℕ) → need ≤ 7 * size / 8 → size % 64 ≡ 0 → spare < need → 0 < size / 8
eighth size need spare few even less = omega (arith, few, even, less)

pub making-more : (size need : ℕ) (old mid new : View) → need ≤ 7 * size / 8 → size % 64 ≡ 0 → spare_of size mid.usages < need → IsMakingRoom size need old mid
    → (o : Option ℕ) → true ≡ is_some o → IfSome o (IsCompacted size mid new) → IsMakingRoom size need old new
making-more size need old mid new few even less m None is step = cc is
making-more size need old mid new few even less m (Some n) is step = making-step size need n old mid new (eighth size need (spare_of size mid.usages) few even less) m less step

pub made-renamed : (size need : ℕ) (old new : View) → IsWell old → HasLayout old → IsMakingRoom size need old new → (names : List (Ref × Ref)) × Renamed old new names
made-renamed size need old new well layout m = renamed-rounds size need m.rounds old new well layout m.done

pub made-well : (size need : ℕ) (old new : View) → IsWell old → IsMakingRoom size need old new → IsWell new
made-well size need old new well m = well-rounds size need m.rounds old new well m.done

pub made-compacted : (size need : ℕ) (old new : View) → IsMakingRoom size need old new → new.compacted ≤ old.compacted + (need / (size / 8) + 1)
made-compacted size need old new m = omega (arith, compacted-rounds size need m.rounds old new m.done, m.bounded)

pub made-moved : (size need : ℕ) (old new : View) → old.moved ≤ 2 ^ 64 - 1 → IsMakingRoom size need old new → old.moved ≤ new.moved
made-moved size need old new cap m = (moved-rounds size need m.rounds old new cap m.done).0
