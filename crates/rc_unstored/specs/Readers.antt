-- What readers hold of the chains: snapshots, each of which sees what was written until it was taken.
--     IsSnapshotOfKey   a snapshot of what is written of the partition of a key
--     IsNoneOf          neither of two snapshots is this one
--     IsTakenIf         a snapshot was taken, where there is one
--     IsReleased        a snapshot was taken back; IsReleasedIf: where there is one
use Rattle.std.specs.Prelude.{◌≡◌, ℕ, true, false, List, Option, Some, None, IsTrue, IfSome}
use Rattle.rc_mutation.specs.declared.mutations.Write.{Write}
use Rattle.rc_mutation.specs.Source.{changes_to}
use Rattle.rc_memory.specs.Memory.{HasPin, IsSnapshotTaken, KeptChain, Memory, chain_at, on_chain, with_chains, without_snapshot}
use Rattle.rc_evict.specs.Snap.{Snap}
use Rattle.rc_snapshots.specs.declared.snaps.Snaps.{Snaps}
use Rattle.rc_snapshots.specs.Streams.{SeesChanges}
use Rattle.rc_memtable.specs.LetGo.{IsFreedUnpinned}
use Rattle.rc_memtable.specs.Writes.{names}

-- a snapshot that sees what these writes say of the partition of a key, and which was not there before, exactly where a write names the key
abbrev pub IsSnapshotOfKey : List ℕ → List Write → Memory → Memory → Option Snap → Type 0
IsSnapshotOfKey key writes old new None = names key writes ≡ false
IsSnapshotOfKey key writes old new (Some s) = IsTrue (names key writes) × SeesChanges (changes_to key writes) new s × (HasPin old s.chain s.pin → ⊥)

-- neither of both snapshots of a reader is this one
abbrev pub IsNoneOf : Snaps → Snap → Type 0
IsNoneOf snaps s = IfSome snaps.sealed (λ x. s.chain ≡ x.chain → s.pin ≡ x.pin → ⊥) × IfSome snaps.active (λ x. s.chain ≡ x.chain → s.pin ≡ x.pin → ⊥)

-- ---- what taking one, and taking it back, does to the chains

-- a snapshot was taken, where there is one; where there is none nothing was done
abbrev pub IsTakenIf : Memory → Memory → Option Snap → Type 0
IsTakenIf old new None = new ≡ old
IsTakenIf old new (Some s) = IsSnapshotTaken old new s.chain s.pin s.phase

-- the memory without a snapshot
abbrev pub taken_back : Snap → Memory → Memory
taken_back s m = with_chains (on_chain s.chain (without_snapshot s.pin) m.chains) m

-- A snapshot was taken back. Where its chain is found by its key that is all; a chain that was let go is gone with its last snapshot.
pub record IsReleased (s : Snap) (old new : Memory) : Type 0 where
  pub found : (k : KeptChain) → chain_at old s.chain ≡ Some k → k.chain.attached ≡ true → new ≡ taken_back s old
  pub freed : (k : KeptChain) → chain_at old s.chain ≡ Some k → k.chain.attached ≡ false → IsFreedUnpinned s.chain (taken_back s old) new

-- so, where there is one; where there is none nothing was done
abbrev pub IsReleasedIf : Option Snap → Memory → Memory → Type 0
IsReleasedIf None old new = new ≡ old
IsReleasedIf (Some s) old new = IsReleased s old new
