-- The figures that a shard tells.
--     figures_of      what it tells of itself
use Rattle.std.specs.Prelude.{◌-◌, ℕ}
use Rattle.lsa_pool.specs.Room.{free_count}
use Rattle.lsa_region.specs.Region.{live_bytes, objects}
use Rattle.rc_lines.specs.declared.commands.Figures.{Figures}
use Rattle.rc_census.specs.Census.{census_of}
use Rattle.rc_shard.specs.declared.shard.Shard.{Shard}

-- what a shard tells of itself, where the store was asked so often
abbrev pub figures_of : Shard → ℕ → Figures
figures_of k asks = record {
  segments = k.segments - free_count k.unstored.chains.region.usages;
  free = free_count k.unstored.chains.region.usages;
  objects = objects k.unstored.chains.region;
  live = live_bytes k.unstored.chains.region;
  partitions = (census_of k.unstored.chains).partitions;
  rows = (census_of k.unstored.chains).rows;
  dummies = (census_of k.unstored.chains).dummies;
  hits = k.answered.hits;
  misses = k.answered.misses;
  evicted = k.unstored.chains.counts.evicted;
  moved = k.unstored.chains.region.moved;
  skipped = k.unstored.chains.counts.skipped;
  asks = asks - k.asked;
}
