-- What the row cache knows of a partition.
--     IsPartitionKnown    in versions all of the partition is known
--     IsChainKnown        so it is to a chain
--     IsSnapKnown         and to a snapshot
--     IsStaticRowIn       to a chain the static row is known
--     KnowsStaticRow      and to a snapshot
use Rattle.std.specs.Prelude.{ℕ, List, IsSomeAnd, IsTrue}
use Rattle.rc_core.specs.Chain.{has_flag}
use Rattle.rc_core.specs.Continuity.{static_states}
use Rattle.rc_core.specs.declared.entries.ChainKind.{ChainKind}
use Rattle.rc_core.specs.Version.{Version, end_position}
use Rattle.rc_memory.specs.Memory.{Memory, chain_at}
use Rattle.rc_chain.specs.declared.chains.Snap.{Snap}
use Rattle.rc_cursor.specs.Snapshots.{IsKnownAs, kind_seen, versions_seen}
use Rattle.rc_cacheread.specs.Passing.{IsKnownOver}
use Rattle.rc_snapshots.specs.Streams.{first_position}

-- all of the partition is known in versions: the static row, and each position, but for those inside a row
pub record IsPartitionKnown (kind : ChainKind) (versions : List Version) : Type 0 where
  pub each : IsKnownOver (IsKnownAs kind versions) first_position end_position
  pub static_row : IsTrue (has_flag kind (static_states versions))

-- a chain is there, to whose newest version all of its partition is known
abbrev pub IsChainKnown : Memory → ℕ → Type 0
IsChainKnown m id = IsSomeAnd (chain_at m id) (λ k. IsPartitionKnown k.chain.kind k.chain.versions)

-- all of its partition is known to a snapshot
abbrev pub IsSnapKnown : Memory → Snap → Type 0
IsSnapKnown m s = IsPartitionKnown (kind_seen m s) (versions_seen m s)

-- a chain is there, to whose newest version the static row of its partition is known
abbrev pub IsStaticRowIn : Memory → ℕ → Type 0
IsStaticRowIn m id = IsSomeAnd (chain_at m id) (λ k. IsTrue (has_flag k.chain.kind (static_states k.chain.versions)))

-- the static row of its partition is known to a snapshot
abbrev pub KnowsStaticRow : Memory → Snap → Type 0
KnowsStaticRow m s = IsTrue (has_flag (kind_seen m s) (static_states (versions_seen m s)))
