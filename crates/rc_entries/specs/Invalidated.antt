-- What becomes of entries and chains where partitions were written below the cache.
--     partition_keys      the keys of partitions
--     is_one_of           whether a key is among some
--     without_keys        entries without those of some keys
--     entry_numbers       the numbers of the entries of some keys
--     AreDetached         chains that are found by their keys no more
--     IsInvalidated       and those that still are have another phase
--     IsAtRest            what neither changes
--     AreSameButPhases    versions that are the same but for their phases
--     KeepsReaders        a chain whose snapshots see what they saw
--     AreWellKept         what chains keep
--     IsBelowAlike        what lies below a chain is what it was, at a new phase
use Rattle.std.specs.Prelude.{◌≡◌, ◌<◌, ℕ, suc, Bool, List, [], ◌∷◌, ◌++◌, None, IfSome, length, map as list_map}
use Rattle.std.specs.List.{list_any}
use Rattle.std.specs.Map.{remove_entry}
use Rattle.std.specs.BTreeMap.{is_at}
use Rattle.std.specs.Option.{option_to_list}
use Rattle.std.specs.Ordering.{eq_by_cmp}
use Rattle.rc_position.specs.Position.{bytes_cmp}
use Rattle.rc_mutation.specs.declared.mutations.Mutation.{Mutation}
use Rattle.rc_mutation.specs.declared.mutations.Partition.{Partition}
use Rattle.rc_mutation.specs.Source.{SameSource}
use Rattle.rc_core.specs.Chains.{phase_at, upto}
use Rattle.rc_core.specs.Merge.{IsSeenAlike}
use Rattle.rc_core.specs.Steps.{with_phase}
use Rattle.rc_core.specs.Version.{IsVersion, Version}
use Rattle.rc_registry.specs.Registry.{IsNumberIn}
use Rattle.rc_memory.specs.Changes.{IsUnmoved, Nowhere, OfVersion, StandStill}
use Rattle.rc_memory.specs.Kept.{IsSoundChain}
use Rattle.rc_memory.specs.Memory.{KeptChain, Memory, chain_at}
use Rattle.rc_chain.specs.Lives.{IsRelabelled}
use Rattle.rc_entries.specs.Found.{entry_number}
use Rattle.rc_entries.specs.Detached.{IsDetached}

-- ---- entries

-- the keys of partitions
abbrev pub partition_keys : List Partition → List (List ℕ)
partition_keys parts = list_map (λ (p : Partition). p.key) parts

-- whether a key is among these
abbrev pub is_one_of : List (List ℕ) → List ℕ → Bool
is_one_of keys key = list_any (λ k. eq_by_cmp bytes_cmp k key) keys

-- the entries without those of these keys
abbrev pub without_keys : List (List ℕ) → List (List ℕ × ℕ) → List (List ℕ × ℕ)
without_keys [] entries = entries
without_keys (key ∷ keys) entries = without_keys keys (remove_entry (is_at (bytes_cmp key)) entries)

-- the numbers of the entries of these keys, each once
abbrev pub entry_numbers : List (List ℕ) → List (List ℕ × ℕ) → List ℕ
entry_numbers [] entries = []
entry_numbers (key ∷ keys) entries = option_to_list (entry_number entries key) ++ entry_numbers keys (remove_entry (is_at (bytes_cmp key)) entries)

-- ---- chains

-- the chains of these numbers are detached, one after another
abbrev pub AreDetached : List ℕ → Memory → Memory → Type 0
AreDetached [] old new = new ≡ old
AreDetached (id ∷ ids) old new = (mid : Memory) × IsDetached id old mid × AreDetached ids mid new

-- the chains of these numbers are detached, and then the newest version of each chain that is found by its key has this phase
pub record IsInvalidated (ids : List ℕ) (phase : ℕ) (old new : Memory) : Type 0 where
  pub between : Memory
  pub gone : AreDetached ids old between
  pub others : IsRelabelled phase between new

-- the numbers to be told and the counts are as they were, the region has as many segments, and no object moved or went
pub record IsAtRest (old new : Memory) : Type 0 where
  pub dropped : new.dropped ≡ old.dropped
  pub counts : new.counts ≡ old.counts
  pub still : StandStill Nowhere old new
  pub region : IsUnmoved old.region new.region

-- versions are the same but for their phases
abbrev pub AreSameButPhases : List Version → List Version → Type 0
AreSameButPhases old new = list_map (with_phase 0) new ≡ list_map (with_phase 0) old

-- each snapshot of a chain stays at its version and sees what it saw: the versions are the same but for their phases, and those below the newest one keep these too
pub record KeepsReaders (old new : KeptChain) : Type 0 where
  pub kind : new.chain.kind ≡ old.chain.kind
  pub pins : new.chain.pins ≡ old.chain.pins
  pub passed : new.passed ≡ old.passed
  pub same : AreSameButPhases old.chain.versions new.chain.versions
  pub older : (j : ℕ) → suc j < length old.chain.versions → upto new.chain.versions j ≡ upto old.chain.versions j
  pub seen : (j : ℕ) → IsSeenAlike (upto old.chain.versions j) (upto new.chain.versions j)

-- what chains keep, as they themselves tell: each is sound, its versions are versions, and none is there whose number is to be told
pub record AreWellKept (m : Memory) : Type 0 where
  pub sound : (id : ℕ) → IfSome (chain_at m id) (λ k. IsSoundChain k.chain)
  pub versions : (id j : ℕ) → OfVersion m id j (λ k v. IsVersion v)
  pub told : (id : ℕ) → IsNumberIn m.dropped id → chain_at m id ≡ None

-- what lies below versions says at a new phase what it said at that of the newest one, and at the phases of older ones what it said there
pub record IsBelowAlike (below other : ℕ → List Mutation) (phase : ℕ) (versions : List Version) : Type 0 where
  pub newest : (j : ℕ) → suc j ≡ length versions → SameSource (below (phase_at versions j)) (other phase)
  pub older : (j : ℕ) → suc j < length versions → SameSource (below (phase_at versions j)) (other (phase_at versions j))
