-- A unit of the cleaner on a whole chain.
--     chain_left         the chain after a unit; a dropped version takes its number with it
--     number_left        the number that a version has then
--     IsKnownAsBefore    what is known through some versions was known through others, with the same content
--     units_counted      the objects that the versions have left which count; Counts: which do in a chain
--     objects_of         all objects of versions: of a chain that nobody finds or reads each one counts
use Rattle.std.specs.Prelude.{◌≡◌, ◌+◌, ◌++◌, ℕ, zero, suc, Bool, true, IsTrue, List, [], ◌∷◌, Option, cond, length, option_map, map as list_map}
use Rattle.rc_cell.specs.Orders.{tomb_cmp}
use Rattle.rc_cell.specs.Winner.{greatest}
use Rattle.rc_core.specs.declared.entries.ChainKind.TheVariants.{Cache}
use Rattle.rc_core.specs.Chain.{states_at, content, has_flag}
use Rattle.rc_core.specs.Chains.{Chain}
use Rattle.rc_core.specs.Continuity.{version_tombs, static_states}
use Rattle.rc_core.specs.Steps.{number_after_removal}
use Rattle.rc_core.specs.Version.{Spot, Version}
use Rattle.rc_units.specs.Clean.{MayMerge, units_of}

-- the number of a version, once a unit left these of the version of number i and the next
abbrev pub number_left : List Version → ℕ → ℕ → ℕ
number_left [] i j = j
number_left (w ∷ []) i j = number_after_removal i j
number_left (v ∷ w ∷ more) i j = j

-- the pins then
abbrev pub pins_left : List Version → ℕ → List (Option ℕ) → List (Option ℕ)
pins_left [] i pins = pins
pins_left (w ∷ []) i pins = list_map (option_map (number_after_removal i)) pins
pins_left (v ∷ w ∷ more) i pins = pins

-- the chain with the versions that a unit left of the two between `front` and `back`
abbrev pub chain_left : List Version → List Version → List Version → Chain → Chain
chain_left front left back c = record {
  kind = c.kind;
  versions = front ++ (left ++ back);
  attached = c.attached;
  updating = c.updating;
  pins = pins_left left (length front) c.pins;
}

-- what is known now was known before with the same content, and the head stays
pub record IsKnownAsBefore (before now : List Version) : Type 0 where
  pub statics : IsTrue (has_flag Cache (static_states now)) → IsTrue (has_flag Cache (static_states before)) × (content (static_states now) ≡ content (static_states before))
  pub clustered : (s : Spot) → IsTrue (has_flag Cache (states_at s now)) → IsTrue (has_flag Cache (states_at s before)) × (content (states_at s now) ≡ content (states_at s before))
  pub head : greatest tomb_cmp (version_tombs now) ≡ greatest tomb_cmp (version_tombs before)

-- ---- that cleaning ends

-- these are the numbers of the versions that the cleaner has left to merge
pub record Counts (c : Chain) (counts : ℕ → Bool) : Type 0 where
  pub sound : (j : ℕ) → counts j ≡ true → MayMerge c j
  pub complete : (j : ℕ) → MayMerge c j → counts j ≡ true

-- the objects of the versions of such numbers, one unit for each
abbrev pub units_counted : (ℕ → Bool) → List Version → ℕ
units_counted counts [] = zero
units_counted counts (v ∷ vs) = cond (counts zero) (units_of v) zero + units_counted (λ j. counts (suc j)) vs

-- the objects of versions: their static rows and entries
abbrev pub objects_of : List Version → ℕ
objects_of [] = zero
objects_of (v ∷ vs) = units_of v + objects_of vs
