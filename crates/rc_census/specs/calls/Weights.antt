-- What one chain adds to a census: nothing, where it is not one of the cache that is found by its key.
use Rattle.std.specs.Prelude.{ℕ, cond}
use Rattle.rc_memory.specs.Memory.{KeptChain}
use Rattle.rc_census.specs.Census.{chain_dummies, chain_rows, is_in_cache}

-- to the partitions
abbrev pub partitions_added : KeptChain → ℕ
partitions_added k = cond (is_in_cache k) 1 0

-- to the rows
abbrev pub rows_added : KeptChain → ℕ
rows_added k = cond (is_in_cache k) (chain_rows k) 0

-- to the dummies
abbrev pub dummies_added : KeptChain → ℕ
dummies_added k = cond (is_in_cache k) (chain_dummies k) 0
