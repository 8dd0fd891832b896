-- The machine without a cache: one step, by cases of the command.
--     MaySay, IsSaid, Opens      what the tables say to a reader that is opened
--     IsResaid, Gives            what they say to one that is read from, and the lines that it is given next
--     Stores                     how sealed writes become a table
--     Steps, AfterSteps          one step, and several
use Rattle.std.specs.Prelude.{◌≡◌, ◌≢◌, ℕ, ◌+◌, ◌-◌, ◌≤◌, ◌==◌, ◌⊎◌, Bool, true, false, not, nat_lt, List, [], ◌∷◌, ◌++◌, length, take, fold, None, MatchBool, MatchOption, option_map, if◌then◌else◌}
use Rattle.std.specs.List.{filter, AllByRecursion}
use Rattle.std.specs.Map.{set_value}
use Rattle.std.specs.FinMap as map
use Rattle.rc_position.specs.declared.slices.Slice.{Slice}
use Rattle.rc_schema.specs.SchemaValue.{SchemaValue}
use Rattle.rc_mutation.specs.declared.mutations.Mutation.{Mutation}
use Rattle.rc_mutation.specs.declared.mutations.Partition.{Partition}
use Rattle.rc_mutation.specs.Source.{changes_to}
use Rattle.rc_mutation.specs.Fragments.{IsParts, units}
use Rattle.rc_tfile.specs.Before.{text}
use Rattle.rc_tfile.specs.Info.{info_of}
use Rattle.rc_tfile.specs.TableText.{whole_table, IsTable}
use Rattle.rc_tables.specs.Located.{SaysOf}
use Rattle.rc_tables.specs.Tables.{IsDamageAmong, changes_at, listing}
use Rattle.rc_lines.specs.declared.commands.Command.{Command}
use Rattle.rc_lines.specs.declared.commands.Command.TheVariants.{Nothing, SetSchema, Put, OpenRead, Read, Close, Flush, FlushBegin, FlushStep, Stats}
use Rattle.rc_lines.specs.declared.commands.Figures.{Figures}
use Rattle.rc_lines.specs.declared.commands.Refusal.{Refusal}
use Rattle.rc_lines.specs.declared.commands.Reply.{Reply}
use Rattle.rc_lines.specs.declared.commands.Reply.TheVariants as replies
use Rattle.rc_lines.specs.declared.commands.Refusal.TheVariants.{SchemaDiffers, NoReader, ReaderInUse, TooManyReaders, FlushInProgress, NothingToFlush, NoFlush, NoNumber, Full, ReadFault, WriteFault, Damaged}
use Rattle.rc_machine.specs.State.{State, Reader, lines_of, rest_of, numbers, unstored_writes, reader_of}
use Rattle.rc_machine.specs.Room.{MayBeFull}

-- at most so many readers are open at once
abbrev pub most_readers : ℕ
most_readers = 64

-- the greatest number of a table
abbrev pub last_number : ℕ
last_number = 4294967295

-- one more than the last of tables' numbers, or 1
abbrev pub next_number : List ℕ → ℕ
next_number ns = fold (λ last n. n) 0 ns + 1

-- a command is refused, and this is the next state
abbrev pub Refuses : State → Refusal → Reply → State → Type 0
Refuses next refusal reply new = (reply ≡ replies.Refused refusal) × (new ≡ next)

-- a command is done, and this is the next state
abbrev pub Does : State → Reply → State → Type 0
Does next reply new = (reply ≡ replies.Fine) × (new ≡ next)

-- what so many tables of a schema may say of a partition, where it is not known what they hold: each anything once that a table of the schema can hold
abbrev pub MaySay : SchemaValue → ℕ → List Mutation → Type 0
MaySay schema n said = (length said ≤ n) × AllByRecursion (SaysOf schema) said

-- What the tables say of a partition to a reader that is opened: exactly what they hold, where the folder is told. Else what as many may say as list it;
-- where none lists it they say nothing.
abbrev pub IsSaid : State → List ℕ → List Mutation → Type 0
IsSaid m key said = MatchOption m.files (MaySay m.schema (listing key m.infos) said) (λ files. said ≡ changes_at key m.tables)

-- What the tables say to an open reader: what they said before; or, where the folder is not told, what as many may say as listed the partition when it was
-- opened, if the lines of its answer that are settled stay.
abbrev pub IsResaid : State → Reader → List Mutation → Type 0
IsResaid m r said = (said ≡ r.said) ⊎ ((m.files ≡ None) × MaySay m.schema r.listed said × (take r.settled (lines_of (record r { said = said })) ≡ take r.settled (lines_of r)))

-- a partition could not be read: the store failed; or, where the folder is not told, what was read of a table that lists the key contradicts what is
-- known of it, so it is not what it was
abbrev pub ReadFails : State → List ℕ → Reply → State → Type 0
ReadFails m key reply new = Refuses m ReadFault reply new
    ⊎ ((file : ℕ) × (offset : ℕ) × (m.files ≡ None) × IsDamageAmong m.schema key m.infos file offset × Refuses m (Damaged file offset) reply new)

-- a reader as it is opened, to which the tables say this
abbrev pub reader_with : State → List ℕ → Slice → List Mutation → Reader
reader_with m key slice said = record { key = key; slice = slice; said = said; writes = changes_to key (unstored_writes m); listed = listing key m.infos; settled = 0 }

-- a reader is opened: its answer is to what the tables say and then the writes that stand in none; or its partition could not be read
abbrev pub Opens : State → ℕ → List ℕ → Slice → Reply → State → Type 0
Opens m id key slice reply new =
    ((said : List Mutation) × IsSaid m key said × Does (record m { readers = m.readers ++ (id, reader_with m key slice said) ∷ [] }) reply new) ⊎ ReadFails m key reply new

-- a reader that was asked for so many lines: they are settled, and the one behind them
abbrev pub reader_past : ℕ → Reader → Reader
reader_past count r = record r { settled = r.settled - 1 + count + 1 }

-- a reader gives the next lines of its answer to what the tables say now, and whether there are more; or its partition could not be read
abbrev pub Gives : State → ℕ → ℕ → Reader → Reply → State → Type 0
Gives m id count r reply new = ((said : List Mutation) × IsResaid m r said × (let now = record r { said = said } in
    (reply ≡ replies.Given (take count (rest_of now)) (nat_lt count (length (rest_of now)))) × (new ≡ record m { readers = set_value (λ k. k == id) m.readers (reader_past count now) })))
    ⊎ ReadFails m r.key reply new

-- how many writes stand in tables or in the next one, once what is not sealed yet is sealed, unless something is
abbrev pub sealing : State → ℕ
sealing m = if m.stored == m.sealed then length m.log else m.sealed

-- partitions are what a flush writes: the parts of the writes that are sealed or would be, and the text of a table
abbrev pub IsFlushed : State → List Partition → Type 0
IsFlushed m parts = IsParts parts (take (sealing m - m.stored) (unstored_writes m)) × IsTable (text (whole_table m.schema parts)) m.schema parts

-- the state in which the sealed writes stand in one more table, with its file, and the cache does not have it yet
abbrev pub with_table : State → List Partition → State
with_table m parts = let n = next_number (numbers m.tables) in
    let files = option_map (λ files. map.insert files n (text (whole_table m.schema parts))) m.files in
    record m { files = files; tables = m.tables ++ (n, parts) ∷ []; infos = m.infos ++ info_of n m.schema parts ∷ []; sealed = sealing m; written = true; left = units parts }

-- the state once the cache has the last table: the sealed writes stand in tables
abbrev pub without_sealed : State → State
without_sealed m = record m { stored = m.sealed; written = false; left = 0 }

-- The sealed writes become the next table, and the state goes on from there; or the store fails, and they stay sealed.
abbrev pub Stores : State → (State → State) → Reply → State → Type 0
Stores m on reply new = ((parts : List Partition) × IsFlushed m parts × Does (on (with_table m parts)) reply new) ⊎ Refuses (record m { sealed = sealing m }) WriteFault reply new

-- a flush begins: none is in progress, there is something to flush, and a number for its table
abbrev pub Flushes : State → (State → State) → Reply → State → Type 0
Flushes m on reply new = MatchBool m.written (Refuses m FlushInProgress reply new) (MatchBool (m.stored == length m.log) (Refuses m NothingToFlush reply new)
    (MatchBool (nat_lt last_number (next_number (numbers m.tables))) (Refuses m NoNumber reply new) (Stores m on reply new)))

-- from a state a command may be answered by the reply, and the other state is next
abbrev pub Steps : State → Command → Reply → State → Type 0
Steps m Nothing reply new = (reply ≡ replies.Nothing) × (new ≡ m)
Steps m (SetSchema schema) reply new = ((m.schema ≡ schema) × Does m reply new) ⊎ ((m.schema ≢ schema) × Refuses m SchemaDiffers reply new)
Steps m (Put w) reply new = Does (record m { log = m.log ++ w ∷ [] }) reply new ⊎ (MayBeFull m × Refuses m Full reply new)
Steps m (OpenRead id key slice) reply new =
    MatchOption (reader_of id m) (MatchBool (nat_lt (length m.readers) most_readers) (Opens m id key slice reply new) (Refuses m TooManyReaders reply new)) (λ r. Refuses m ReaderInUse reply new)
Steps m (Read id count) reply new = MatchOption (reader_of id m) (Refuses m NoReader reply new) (λ r. Gives m id count r reply new)
Steps m (Close id) reply new = MatchOption (reader_of id m) (Refuses m NoReader reply new) (λ r. Does (record m { readers = filter (λ reader. not (reader.0 == id)) m.readers }) reply new)
Steps m Flush reply new = Flushes m without_sealed reply new
Steps m FlushBegin reply new = Flushes m (λ next. next) reply new
Steps m (FlushStep count) reply new = MatchBool m.written (MatchBool (nat_lt count m.left) ((reply ≡ replies.Going) × (new ≡ record m { left = m.left - count }))
    ((reply ≡ replies.Done) × (new ≡ without_sealed m))) (Refuses m NoFlush reply new)
Steps m Stats reply new = (figures : Figures) × (figures.segments + figures.free ≡ m.segments) × (reply ≡ replies.Stats figures) × (new ≡ m)
Steps m command reply new = Does m reply new

-- the state after steps, each a command with its reply
abbrev pub AfterSteps : State → List (Command × Reply) → State → Type 0
AfterSteps m [] new = new ≡ m
AfterSteps m (step ∷ steps) new = (next : State) × Steps m step.0 step.1 next × AfterSteps next steps new

-- whether a command reads from a reader or closes it
abbrev pub is_of : ℕ → Command → Bool
is_of id (Read other count) = other == id
is_of id (Close other) = other == id
is_of id command = false
