-- The two sides of an object in a tree: which links and which balances are theirs.
use Rattle.std.specs.Prelude.{ℕ}
use Rattle.lsa_shape.specs.declared.flank.Flank.{Flank}
use Rattle.lsa_shape.specs.declared.flank.Flank.TheVariants.{Low, High}

-- the other side
abbrev pub other_flank : Flank → Flank
other_flank Low = High
other_flank High = Low

-- the link to this side
abbrev pub near_link : Flank → ℕ
near_link Low = 3
near_link High = 4

-- the link to the other side
abbrev pub far_link : Flank → ℕ
far_link Low = 4
far_link High = 3

-- the balance of an object that is deeper on this side
abbrev pub near_heavy : Flank → ℕ
near_heavy Low = 1
near_heavy High = 2

-- the balance of an object that is deeper on the other side
abbrev pub far_heavy : Flank → ℕ
far_heavy Low = 2
far_heavy High = 1
