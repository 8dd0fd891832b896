-- How many bytes of a region the chains of memtables take, and how many those of the row cache.
--     is_chain_of       a chain is of a kind
--     kind_bytes        how many bytes the chains of a kind take together: memtable_bytes, cache_bytes
--     cache_versions    how many versions the chains of the cache have
--     IsCrowdedForWrite, LosesBeforeWrite   how full memory is where something is evicted for a write
--     HaveOneVersion    each chain of the cache has one version
--     NoUpdateStands    no update stands in a chain of the cache
--     AreInUse          no chain of the cache is to be dropped
--     cache_snapshots   how many snapshots of chains of the cache are taken
use Rattle.std.specs.Prelude.{◌≡◌, ◌⊎◌, ◌+◌, ◌-◌, ◌*◌, ◌/◌, ◌<◌, ℕ, Bool, false, not, Some, filter, length, sum_by}
use Rattle.lsa_region.specs.Region.{live_bytes}
use Rattle.rc_core.specs.declared.entries.ChainKind.{ChainKind}
use Rattle.rc_core.specs.declared.entries.ChainKind.TheVariants.{Cache, Memtable}
use Rattle.rc_memory.specs.Kept.{present}
use Rattle.rc_memory.specs.Memory.{KeptChain, Memory, chain_at}
use Rattle.rc_memory.specs.Room.{chain_bytes}
use Rattle.rc_filler.specs.Crowding.{LosesNothing, version_count}
use Rattle.rc_filler.specs.Lives.{IsIdle, is_cache}

-- whether a chain is of a kind
abbrev pub is_chain_of : ChainKind → KeptChain → Bool
is_chain_of Memtable k = not (is_cache k.chain.kind)
is_chain_of Cache k = is_cache k.chain.kind

-- how many bytes the chains of a kind take together: their versions' heads, static rows and entries
abbrev pub kind_bytes : ChainKind → Memory → ℕ
kind_bytes kind m = sum_by chain_bytes (filter (is_chain_of kind) (present m.chains))

-- how many bytes all memtables take: the sealed writes and the later ones, and chains that were let go and that readers pin
abbrev pub memtable_bytes : Memory → ℕ
memtable_bytes m = kind_bytes Memtable m

-- how many bytes the row cache takes, with the chains that are found by their keys no more
abbrev pub cache_bytes : Memory → ℕ
cache_bytes m = kind_bytes Cache m

-- how many versions the chains of the cache have
abbrev pub cache_versions : Memory → ℕ
cache_versions m = sum_by version_count (filter (is_chain_of Cache) (present m.chains))

-- More than three quarters of all but two segments are live, once to what is live is added: a quarter of a segment, for the object that was evicted last and for one that the write made smaller; 152 bytes, a head and an end dummy, for each version of the cache that went; and what chains became smaller by, which is counted.
abbrev pub IsCrowdedForWrite : ℕ → Memory → Memory → Type 0
IsCrowdedForWrite S old new = 3 * S / 4 * (length new.region.usages - 2) < live_bytes new.region + S / 4 + 152 * (cache_versions old - cache_versions new) + (new.counts.shrunk - old.counts.shrunk)

-- nothing was lost for a write, or memory was so full
abbrev pub LosesBeforeWrite : ℕ → Memory → Memory → Type 0
LosesBeforeWrite S old new = LosesNothing old new ⊎ IsCrowdedForWrite S old new

-- each chain of the cache has one version, as long as no update begins
abbrev pub HaveOneVersion : Memory → Type 0
HaveOneVersion m = (id : ℕ) (k : KeptChain) → chain_at m id ≡ Some k → k.chain.kind ≡ Cache → length k.chain.versions ≡ 1

-- no update stands in a chain of the cache
abbrev pub NoUpdateStands : Memory → Type 0
NoUpdateStands m = (id : ℕ) (k : KeptChain) → chain_at m id ≡ Some k → k.chain.kind ≡ Cache → k.chain.updating ≡ false

-- no chain of the cache is to be dropped: each is pinned, or an update stands in it, or something of it stands in the recency list
abbrev pub AreInUse : Memory → Type 0
AreInUse m = (id : ℕ) (k : KeptChain) → chain_at m id ≡ Some k → IsIdle m id k.chain → ⊥

-- how many snapshots pin versions of a chain
abbrev pub snapshots_of : KeptChain → ℕ
snapshots_of k = length (present k.chain.pins)

-- how many snapshots of chains of the cache are taken
abbrev pub cache_snapshots : Memory → ℕ
cache_snapshots m = sum_by snapshots_of (filter (is_chain_of Cache) (present m.chains))
