-- A reader that was opened pins its partition.
use Rattle.std.proofs.Common.{◌≡◌, ℕ, List, [], ◌∷◌, ◌++◌, Option, sym, ap, subst, ◌∙◌}
use Rattle.std.specs.Prelude.{Err, IfOk, IsSomeAnd, Ok, Result}
use Rattle.std.specs.declared.alloc.AllocError.{AllocError}
use Rattle.rc_position.specs.declared.slices.Slice.{Slice}
use Rattle.rc_schema.specs.SchemaValue.{SchemaValue}
use Rattle.rc_mutation.specs.declared.mutations.Write.{Write}
use Rattle.rc_stream.specs.declared.streams.StreamErr.{StreamErr}
use Rattle.rc_stream.specs.declared.streams.StreamErr.TheVariants as stream_err
use Rattle.rc_lines.specs.declared.commands.Command.TheVariants.{OpenRead}
use Rattle.rc_lines.specs.declared.commands.Reply.{Reply}
use Rattle.rc_lines.specs.declared.commands.Reply.TheVariants as replies
use Rattle.rc_memory.specs.Memory.{Memory}
use Rattle.rc_lookup.specs.Fillers.{losses}
use Rattle.rc_lookup.specs.Found.{entry_number}
use Rattle.rc_lookup.specs.Touched.{AreRecent, IsHeadOrEnd}
use Rattle.rc_stream.specs.Snapshot.{NoneLost}
use Rattle.rc_snapshots.specs.declared.snaps.Snaps.{Snaps}
use Rattle.rc_lookup.specs.Unstored.{Unstored}
use Rattle.rc_lookup.specs.Memtables.{HaveWrites, in_chains}
use Rattle.rc_lookup.specs.Readers.{IsSnapshotOfKey, IsTakenIf}
use Rattle.rc_lookup.specs.Steps.{AreSameKeys}
use Rattle.rc_chain.specs.declared.chains.Snap.{Snap}
use Rattle.rc_shard.specs.declared.readers.PartitionReader.{PartitionReader}
use Rattle.rc_shard.specs.declared.readers.Source.{Source}
use Rattle.rc_shard.specs.Readers.{written_snaps_of}
use Rattle.rc_shard.specs.Using.{LeavesBeside}
use Rattle.rc_shard.specs.calls.Looking.{source_snap}
use Rattle.rc_shard.specs.calls.Opened.{IsReaderPinned}
use Rattle.rc_shard.specs.declared.shard.Shard.{Shard}
use Rattle.rc_shard.specs.Filling.{IsCachedByReader, IsFilledAsTold, IsKnownOnceOpened, NoneSkipped}
use Rattle.rc_shard.specs.Knowing.{AreEndsRecent, IsRecentOnceHit, IsStaticCached}
use Rattle.rc_shard.specs.Opening.{IsOpenedAsTold, PinsPartition}
use Rattle.rc_shard.specs.calls.Keeping.{TellsOf}

-- its snapshots are those that were taken, and the chains were lent and are as they were
pub pinned-in : (key : List ℕ) (u v : Unstored 131072) (m : Memory) (snaps : Snaps) (o : PartitionReader) → m ≡ v.chains → written_snaps_of o ≡ snaps →
    ((schema : SchemaValue) (writes later : List Write) → HaveWrites schema u writes later → IsSnapshotOfKey key writes u.chains v.chains snaps.sealed) →
    ((schema : SchemaValue) (writes later : List Write) → HaveWrites schema u writes later → IsSnapshotOfKey key later u.chains v.chains snaps.active) →
    (mid : Memory) × IsTakenIf u.chains mid snaps.sealed × IsTakenIf mid v.chains snaps.active → AreSameKeys u v → PinsPartition key u (in_chains m v) o
pinned-in key u v m snaps o lent are sealed active exact keys =
    let made : PinsPartition key u v o = record {
      sealed = λ schema writes later h. subst (λ (t : Snaps). IsSnapshotOfKey key writes u.chains v.chains t.sealed) (sym are) (sealed schema writes later h);
      active = λ schema writes later h. subst (λ (t : Snaps). IsSnapshotOfKey key later u.chains v.chains t.active) (sym are) (active schema writes later h);
      exact = subst (λ (t : Snaps). (mid : Memory) × IsTakenIf u.chains mid t.sealed × IsTakenIf mid v.chains t.active) (sym are) exact;
      keys = keys;
    } in
    subst (λ (x : Memory). PinsPartition key u (in_chains x v) o) (sym lent) made

module _ (id : ℕ) (key : List ℕ) (slice : Slice) (readers : List (ℕ × PartitionReader)) (u : Unstored 131072) (readers' : List (ℕ × PartitionReader)) (v : Unstored 131072) where
  -- an opening that is answered is fine
  pub told-opened : (others : List (ℕ × PartitionReader)) (asked : Unstored 131072) (source : Source) (r : Result Reply AllocError) → others ≡ readers → LeavesBeside (source_snap source) u.chains asked.chains → AreSameKeys u asked → IfOk r (λ reply. reply ≡ replies.Fine) → IfOk r (λ _. IsReaderPinned id key source others asked readers' v) →
      IfOk r (λ reply. IsOpenedAsTold (OpenRead id key slice) reply readers u readers' v)
  told-opened others asked source (Ok reply) same rest keys fine pins =
      subst (λ q. IsOpenedAsTold (OpenRead id key slice) q readers u readers' v) (sym fine)
      (record { reader = pins.0; behind = pins.1 ∙ ap (λ (os : List (ℕ × PartitionReader)). os ++ (id, pins.0) ∷ []) same; asked = asked; rest = subst (λ (o : Option Snap). LeavesBeside o u.chains asked.chains) (sym pins.2) rest; keys = keys; pins = pins.3 })
  told-opened others asked source (Err e) same rest keys fine pins = tt

  -- one that is refused is not
  pub told-unread : (e : StreamErr) (r : Result Reply AllocError) → IfOk r (TellsOf e) → IfOk r (λ reply. IsOpenedAsTold (OpenRead id key slice) reply readers u readers' v)
  told-unread e (Err x) told = tt
  told-unread stream_err.Fault (Ok reply) told = subst (λ q. IsOpenedAsTold (OpenRead id key slice) q readers u readers' v) (sym told) tt
  told-unread (stream_err.Damaged file offset) (Ok reply) told = subst (λ q. IsOpenedAsTold (OpenRead id key slice) q readers u readers' v) (sym told) tt
  told-unread stream_err.NoMemory (Ok reply) told = absurd told

module _ (id : ℕ) (key : List ℕ) (slice : Slice) (k : Shard) where
  -- what is known of the partition is known once its reader is opened
  pub filled-opened : (before now : ℕ) (k' : Shard) (r : Result Reply AllocError) → IfOk r (λ reply. reply ≡ replies.Fine) → IfOk r (λ _. (NoneSkipped k k' → IsCachedByReader id key k') × (NoneLost (losses k.unstored.chains) (losses k'.unstored.chains) → IsKnownOnceOpened id key k k')) → IfOk r (λ reply. IsFilledAsTold (OpenRead id key slice) reply before now k k')
  filled-opened before now k' (Ok reply) fine known = subst (λ q. IsFilledAsTold (OpenRead id key slice) q before now k k') (sym fine) known
  filled-opened before now k' (Err e) fine known = tt

  pub filled-unread : (before now : ℕ) (k' : Shard) (e : StreamErr) (r : Result Reply AllocError) → IfOk r (TellsOf e) → IfOk r (λ reply. IsFilledAsTold (OpenRead id key slice) reply before now k k')
  filled-unread before now k' e (Err x) told = tt
  filled-unread before now k' stream_err.Fault (Ok reply) told = subst (λ q. IsFilledAsTold (OpenRead id key slice) q before now k k') (sym told) tt
  filled-unread before now k' (stream_err.Damaged file offset) (Ok reply) told = subst (λ q. IsFilledAsTold (OpenRead id key slice) q before now k k') (sym told) tt
  filled-unread before now k' stream_err.NoMemory (Ok reply) told = absurd told

  -- the ends of a partition of which the static row was known are the most recent objects once its reader is opened
  pub recent-opened : (l k' : Shard) (r : Result Reply AllocError) → IfOk r (λ reply. reply ≡ replies.Fine) → IfOk r (λ _. (k'.cache.entries ≡ l.cache.entries) × (k'.unstored.chains.recency ≡ l.unstored.chains.recency)) → (IsStaticCached k key → AreEndsRecent key k l) →
      IfOk r (λ reply. IsRecentOnceHit (OpenRead id key slice) reply k k')
  recent-opened l k' (Ok reply) fine same hit = subst (λ q. IsRecentOnceHit (OpenRead id key slice) q k k') (sym fine) (λ on. (
      let e : entry_number k'.cache.entries key ≡ entry_number l.cache.entries key = ap (λ es. entry_number es key) same.0 in
      subst (λ o. IsSomeAnd o (λ i. AreRecent (IsHeadOrEnd i) k.unstored.chains.recency k'.unstored.chains.recency)) (sym e)
      (subst (λ ws. IsSomeAnd (entry_number l.cache.entries key) (λ i. AreRecent (IsHeadOrEnd i) k.unstored.chains.recency ws)) (sym same.1) (hit on))))
  recent-opened l k' (Err e) fine same hit = tt

  pub recent-unread : (k' : Shard) (e : StreamErr) (r : Result Reply AllocError) → IfOk r (TellsOf e) → IfOk r (λ reply. IsRecentOnceHit (OpenRead id key slice) reply k k')
  recent-unread k' e (Err x) told = tt
  recent-unread k' stream_err.Fault (Ok reply) told = subst (λ q. IsRecentOnceHit (OpenRead id key slice) q k k') (sym told) tt
  recent-unread k' (stream_err.Damaged file offset) (Ok reply) told = subst (λ q. IsRecentOnceHit (OpenRead id key slice) q k k') (sym told) tt
  recent-unread k' stream_err.NoMemory (Ok reply) told = absurd told
