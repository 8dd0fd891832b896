-- How a memtable's chains are let go, once a table has their writes.
--     IsLetGo      a chain is no longer found, and where nobody pins it it is gone
--     AreLetGo     so of chains one after another
--     NoCountFell  no count is less than it was
--     TakesNoMore  the region has as many segments, no more is live, and no count fell
use Rattle.std.specs.Prelude.{◌≡◌, ◌≤◌, ◌⊎◌, ℕ, List, [], ◌∷◌, ◌++◌, Option, Some, None, length}
use Rattle.lsa_region.specs.Region.{live_bytes}
use Rattle.rc_registry.specs.Registry.{AreFree, put_at_number}
use Rattle.rc_memory.specs.Memory.{KeptChain, Memory, chain_at, on_chain, on_shown, shown_detached}

-- the chains are these, and so are the numbers to be told; the recency list and the counts are as they were, the region has as many segments, no object was moved, and no more is live in it
pub record HasLeft (those : List (Option KeptChain)) (told : List ℕ) (old new : Memory) : Type 0 where
  pub chains : new.chains ≡ those
  pub dropped : new.dropped ≡ told
  pub recency : new.recency ≡ old.recency
  pub counts : new.counts ≡ old.counts
  pub budget : length new.region.usages ≡ length old.region.usages
  pub moved : new.region.moved ≡ old.region.moved
  pub live : live_bytes new.region ≤ live_bytes old.region

-- a chain is gone, and its number is to be told
abbrev pub IsGone : ℕ → Memory → Memory → Type 0
IsGone id old new = HasLeft (put_at_number id None old.chains) (old.dropped ++ id ∷ []) old new

-- a chain is gone where nobody pins it; else all is as it was
abbrev pub IsFreedUnpinned : ℕ → Memory → Memory → Type 0
IsFreedUnpinned id old new = (k : KeptChain) → chain_at old id ≡ Some k → (AreFree k.chain.pins × IsGone id old new) ⊎ ((AreFree k.chain.pins → ⊥) × (new ≡ old))

-- a chain is gone where nobody pins it; else it is no longer found by its key
abbrev pub IsLetGo : ℕ → Memory → Memory → Type 0
IsLetGo id old new = (k : KeptChain) → chain_at old id ≡ Some k → (AreFree k.chain.pins × IsGone id old new) ⊎ ((AreFree k.chain.pins → ⊥) × HasLeft (on_chain id (on_shown shown_detached) old.chains) old.dropped old new)

-- so of each of these chains, in this order
abbrev pub AreLetGo : List ℕ → Memory → Memory → Type 0
AreLetGo [] old new = new ≡ old
AreLetGo (id ∷ ids) old new = (mid : Memory) × IsLetGo id old mid × AreLetGo ids mid new

-- no count is less than it was: of evictions, of moved objects, and of how often no room was found
pub record NoCountFell (old new : Memory) : Type 0 where
  pub evicted : old.counts.evicted ≤ new.counts.evicted
  pub moved : old.region.moved ≤ new.region.moved
  pub skipped : old.counts.skipped ≤ new.counts.skipped

-- the region has as many segments, no more is live in it, and no count is less than it was
pub record TakesNoMore (old new : Memory) : Type 0 where
  pub budget : length new.region.usages ≡ length old.region.usages
  pub live : live_bytes new.region ≤ live_bytes old.region
  pub counts : NoCountFell old new
