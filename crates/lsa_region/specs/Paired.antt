-- Pairs of ends, over any way in which ends name ends.
use Rattle.std.specs.Prelude.{◌≡◌, ◌≢◌, Option, Some, None}
use Rattle.std.specs.Option.{option_map}
use Rattle.lsa_region.specs.declared.end.End.{End}
use Rattle.lsa_region.specs.Ends.{swapped_end}

-- an end names another one exactly where that one names it, and none names itself
pub record WellPaired (named : End → Option End) : Type 0 where
  pub mates : (a b : End) → named a ≡ Some b → named b ≡ Some a
  pub apart : (a : End) → named a ≢ Some a

-- the two ends name each other now
pub record IsTied (old new : End → Option End) (a b : End) : Type 0 where
  pub first : new a ≡ Some b
  pub second : new b ≡ Some a
  pub others : (e : End) → e ≢ a → e ≢ b → new e ≡ old e

-- the two ends, which named each other, name nothing now
pub record IsParted (old new : End → Option End) (a b : End) : Type 0 where
  pub first : new a ≡ None
  pub second : new b ≡ None
  pub others : (e : End) → e ≢ a → e ≢ b → new e ≡ old e

-- the two ends have changed places: each names what the other one named, and their mates name the other one; two ends that named each other still do
pub record IsExchanged (old new : End → Option End) (a b : End) : Type 0 where
  pub first : new a ≡ option_map (swapped_end a b) (old b)
  pub second : new b ≡ option_map (swapped_end a b) (old a)
  pub others : (e : End) → e ≢ a → e ≢ b → new e ≡ option_map (swapped_end a b) (old e)
