-- The chains as their versions stand.
use Rattle.std.specs.Prelude.{◌≡◌, List, Option}
use Rattle.rc_memory.specs.Memory.{KeptChain, Memory}

-- the counts, the recency list and the dropped numbers are as they were, and the chains are these
pub record HasChains (now : List (Option KeptChain)) (old new : Memory) : Type 0 where
  pub chains : new.chains ≡ now
  pub recency : new.recency ≡ old.recency
  pub dropped : new.dropped ≡ old.dropped
  pub counts : new.counts ≡ old.counts
