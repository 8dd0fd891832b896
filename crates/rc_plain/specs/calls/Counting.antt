-- What a step leaves of what is counted.
use Rattle.std.specs.Prelude.{◌≡◌}
use Rattle.rc_plain.specs.Stands.{Keeping}

-- the counts of answers are as they were, and so are the budget and where asks are counted from
pub record AreSameCounts (old new : Keeping) : Type 0 where
  pub answered : new.answered ≡ old.answered
  pub segments : new.segments ≡ old.segments
  pub asked : new.asked ≡ old.asked
