-- For which state of the machine a shard stands.
--     HaveUnstored    both memtables stand for the writes that stand in no table
--     AreSound        the writes are such as the program has, and memtables take no more than they weigh
--     AreFor, StandsBeside, Stands      all of this, over the tables of a folder
--     IsFullAsTold    when a write is refused as full
use Rattle.std.specs.Prelude.{◌≡◌, ◌≤◌, ◌+◌, ℕ, false, List, ◌++◌, length, map, All, AllPairs, Option, sum_by, ⊤}
use Rattle.std.specs.List.{AllByRecursion, AllZip}
use Rattle.rc_outside.specs.Files.{Files}
use Rattle.rc_schema.specs.SchemaValue.{SchemaValue}
use Rattle.rc_writes.specs.Weight.{weight}
use Rattle.rc_mutation.specs.declared.mutations.Mutation.{Mutation}
use Rattle.rc_mutation.specs.declared.mutations.Write.{Write}
use Rattle.rc_mutation.specs.Source.{IsMutation}
use Rattle.rc_query.specs.declared.lines.OutLine.{OutLine}
use Rattle.rc_lines.specs.declared.commands.Command.{Command}
use Rattle.rc_lines.specs.declared.commands.Command.TheVariants.{Put}
use Rattle.rc_lines.specs.declared.commands.Refusal.TheVariants.{Full}
use Rattle.rc_lines.specs.declared.commands.Reply.{Reply}
use Rattle.rc_lines.specs.declared.commands.Reply.TheVariants.{Refused}
use Rattle.rc_memory.specs.Memory.{Memory}
use Rattle.rc_lookup.specs.Unstored.{Unstored}
use Rattle.rc_lookup.specs.Memtables.{HaveWrites, IsFullFor}
use Rattle.rc_lookup.specs.Footprint.{cache_snapshots, memtable_bytes}
use Rattle.rc_paging.specs.declared.forms.PartReader.{PartReader}
use Rattle.rc_folder.specs.Tabled.{Tabled}
use Rattle.rc_machine.specs.State.{State, unstored_writes}
use Rattle.rc_machine.specs.Standing.{IsOver}
use Rattle.rc_shard.specs.declared.shard.Shard.{Shard}
use Rattle.rc_shard.specs.declared.readers.PartitionReader.{PartitionReader}
use Rattle.rc_shard.specs.Cached.{HaveCached}
use Rattle.rc_shard.specs.Readers.{AreTwo, IsOfItsKey, IsServed, cached_readers, holding}

-- under a schema both memtables stand for the writes of the state that stand in no table: one for those that are sealed, the other for the later ones
pub record HaveUnstored (schema : SchemaValue) (u : Unstored 131072) (m : State) : Type 0 where
  pub sealed : List Write
  pub later : List Write
  pub have : HaveWrites schema u sealed later
  pub are : sealed ++ later ≡ unstored_writes m
  pub count : m.sealed ≡ m.stored + length sealed

-- the writes of the state are such as the program has, and memtables take no more than they weigh
pub record AreSound (memory : Memory) (m : State) : Type 0 where
  pub mutations : All (λ w. IsMutation w.change) m.log
  pub budget : length memory.region.usages ≡ m.segments
  pub weigh : memtable_bytes memory ≤ sum_by (λ w. weight w.change) m.log

-- These lines are left to a reader over memory, where the tables say this.
module _ (lines : PartReader → Memory → List Mutation → List OutLine → Type 0) where
  -- Over a store with these files, a folder, both memtables, the row cache's entries, open readers and a budget of segments stand for the state, where of the row cache so many snapshots more are taken than open readers hold. A flush is whole, so nothing that is written is left to a cache.
  pub record AreFor (told : Option Files) (f : Tabled) (u : Unstored 131072) (entries : List (List ℕ × ℕ)) (readers : List (ℕ × PartitionReader)) (segments more : ℕ) (m : State) : Type 0 where
    pub over : IsOver told f.schema f.infos m
    pub have : HaveUnstored f.schema u m
    pub whole : m.written ≡ false
    pub left : m.left ≡ 0
    pub budget : m.segments ≡ segments
    pub sound : AreSound u.chains m
    pub cached : HaveCached f.schema entries u.chains m
    pub taken : cache_snapshots u.chains ≤ cached_readers readers + more
    pub served : AllZip (IsServed lines cached.below m u.chains) readers m.readers
    pub two : AllPairs AreTwo (map holding readers)
    pub apart : AllByRecursion (IsOfItsKey entries) readers

  -- so does a shard, where so many snapshots more of the row cache are taken than its readers hold
  abbrev pub StandsBeside : ℕ → Option Files → Shard → State → Type 0
  StandsBeside more told k m = AreFor told k.folder k.unstored k.cache.entries k.readers.items k.segments more m

  -- over a store with these files the shard stands for the state: each snapshot of the row cache is a reader's
  abbrev pub Stands : Option Files → Shard → State → Type 0
  Stands told k m = StandsBeside 0 told k m

-- A write is refused as full only where there is no room for it then, nor can it be made.
abbrev pub IsFullAsTold : Command → Reply → SchemaValue → Unstored 131072 → Type 0
IsFullAsTold (Put w) (Refused Full) schema u = IsFullFor 131072 schema w u
IsFullAsTold command reply schema u = ⊤
