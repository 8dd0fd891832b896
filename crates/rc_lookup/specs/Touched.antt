-- How what is read of the cache becomes the most recent of its recency list.
--     IsHeadOrEnd     a place is that of a static row, or of the end of a partition
--     IsEntryOfRow, IsLineOf, IsEntryOfGiven    a place is that of a row's entry, or of one of several
--     AreRecent       the objects at some places are the most recent ones
--     AreTouched      so they are, and nothing else changed
use Rattle.std.specs.Prelude.{◌≡◌, ◌⊎◌, ℕ, List, [], ◌∷◌, ◌++◌, Option, Some, None, Contains}
use Rattle.lsa_region.specs.Region.{SameObjects}
use Rattle.rc_position.specs.declared.comps.Comp.{Comp}
use Rattle.rc_position.specs.Position.{row_pos}
use Rattle.rc_core.specs.Version.{end_position}
use Rattle.rc_query.specs.declared.lines.OutLine.{OutLine}
use Rattle.rc_query.specs.declared.lines.OutLine.TheVariants as line
use Rattle.rc_chain.specs.Lives.{IsRemainder}
use Rattle.rc_memory.specs.Memory.{Member, Memory, listed_as}

-- a place is that of the static row in a version of a chain, or of the end of its partition
abbrev pub IsHeadOrEnd : ℕ → Member → Type 0
IsHeadOrEnd id w = (w.chain ≡ id) × ((w.position ≡ None) ⊎ (w.position ≡ Some end_position))

-- a place is that of the entry of a row, in a chain
abbrev pub IsEntryOfRow : ℕ → List Comp → Member → Type 0
IsEntryOfRow id key w = (w.chain ≡ id) × (w.position ≡ Some (row_pos key))

-- a place is that of the entry of one of the rows of these lines, in a chain
abbrev pub IsLineOf : ℕ → List OutLine → Member → Type 0
IsLineOf id [] w = ⊥
IsLineOf id (line.Static values ∷ lines) w = IsLineOf id lines w
IsLineOf id (line.Row key values ∷ lines) w = IsEntryOfRow id key w ⊎ IsLineOf id lines w

-- a place is that of the entry of one of the rows of these lines, in the chain of an entry of the cache; where there is no such entry no place is
abbrev pub IsEntryOfGiven : Option ℕ → List OutLine → Member → Type 0
IsEntryOfGiven None lines w = ⊥
IsEntryOfGiven (Some id) lines w = IsLineOf id lines w

-- The objects at these places that were in the list are the most recent ones: they stand behind all others, which stand in the order in which they stood.
pub record AreRecent (these : Member → Type 0) (old new : List Member) : Type 0 where
  pub rest : List Member
  pub own : List Member
  pub split : new ≡ rest ++ own
  pub left : IsRemainder these old rest
  pub mine : (w : Member) → Contains own w → these w × Contains old w
  pub all : (w : Member) → Contains old w → these w → Contains own w

-- so they are; the chains, the numbers to be told and the counts are as they were, and no object moved, came or went
pub record AreTouched (these : Member → Type 0) (old new : Memory) : Type 0 where
  pub recency : AreRecent these old.recency new.recency
  pub same : new ≡ listed_as new.recency new.region old
  pub objects : SameObjects old.region new.region
