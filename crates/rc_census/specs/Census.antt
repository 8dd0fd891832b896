-- How much of partitions the row cache has.
--     is_in_cache    whether a chain is one of the cache that is found by its key
--     census_of      how many of these there are, and how many entries of each sort their versions have
use Rattle.std.specs.Prelude.{ℕ, Bool, List, ◌+◌, ◌&&◌, is_none, is_some, length, filter, count_by, sum_by}
use Rattle.rc_core.specs.declared.entries.Entry.{Entry}
use Rattle.rc_core.specs.Version.{Version}
use Rattle.rc_memory.specs.Memory.{KeptChain, Memory}
use Rattle.rc_memory.specs.Kept.{present}
use Rattle.rc_chain.specs.Lives.{is_cache}
use Rattle.rc_census.specs.declared.figures.Census.{Census}

-- how many entries have a row
abbrev pub row_count : List Entry → ℕ
row_count entries = count_by (λ (e : Entry). is_some e.row) entries

-- how many entries have none, the end dummy among them
abbrev pub dummy_count : List Entry → ℕ
dummy_count entries = count_by (λ (e : Entry). is_none e.row) entries

-- how many entries with a row the versions of a chain have together
abbrev pub chain_rows : KeptChain → ℕ
chain_rows k = sum_by (λ (v : Version). row_count v.entries) k.chain.versions

-- how many without a row they have
abbrev pub chain_dummies : KeptChain → ℕ
chain_dummies k = sum_by (λ (v : Version). dummy_count v.entries) k.chain.versions

-- whether a chain is one of the cache that is found by its key
abbrev pub is_in_cache : KeptChain → Bool
is_in_cache k = is_cache k.chain.kind && k.chain.attached

-- such chains of a memory
abbrev pub cache_chains : Memory → List KeptChain
cache_chains m = filter is_in_cache (present m.chains)

-- how many there are, and how many entries with a row and without one they have together
abbrev pub census_of : Memory → Census
census_of m = record { partitions = length (cache_chains m); rows = sum_by chain_rows (cache_chains m); dummies = sum_by chain_dummies (cache_chains m) }

-- a census with so much more
abbrev pub census_raised : ℕ → ℕ → ℕ → Census → Census
census_raised partitions rows dummies c = record { partitions = c.partitions + partitions; rows = c.rows + rows; dummies = c.dummies + dummies }
