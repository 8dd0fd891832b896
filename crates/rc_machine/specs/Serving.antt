-- What a call that serves a command does, whatever it keeps and whatever state that stood for.
--     Takes, Stops      it takes a step, or memory runs out
--     most_asks          how many ranges it may ask for
--     FaultsAreCounted      a reply that tells a fault comes only where the store failed
use Rattle.std.specs.Prelude.{◌≡◌, ℕ, ◌+◌, ◌*◌, ◌/◌, ◌≤◌, ◌==◌, ◌⊎◌, List, length, sum_by, Option, Some, Result, IfOk, ⊤}
use Rattle.std.specs.Option.{option_map_or}
use Rattle.std.specs.Map.{set_value}
use Rattle.rc_outside.specs.Files.{Files}
use Rattle.rc_outside.specs.Faults.{Rose}
use Rattle.rc_mutation.specs.declared.mutations.Mutation.{Mutation}
use Rattle.rc_lines.specs.declared.commands.Command.{Command}
use Rattle.rc_lines.specs.declared.commands.Command.TheVariants.{OpenRead, Read, Flush, FlushBegin}
use Rattle.rc_lines.specs.declared.commands.Refusal.{Refusal}
use Rattle.rc_lines.specs.declared.commands.Refusal.TheVariants.{ReadFault, WriteFault}
use Rattle.rc_lines.specs.declared.commands.Reply.{Reply}
use Rattle.rc_lines.specs.declared.commands.Reply.TheVariants.{Refused}
use Rattle.rc_tables.specs.Tables.{listing}
use Rattle.rc_machine.specs.State.{Reader, State, reader_of}
use Rattle.rc_machine.specs.Steps.{IsResaid, Steps, sealing}

-- what want of memory leaves: a flush may have sealed the writes, a read may have told its reader anew what the tables say, nothing else changes
abbrev pub IsLeft : State → Command → State → Type 0
IsLeft m Flush left = (left ≡ m) ⊎ (left ≡ record m { sealed = sealing m })
IsLeft m FlushBegin left = (left ≡ m) ⊎ (left ≡ record m { sealed = sealing m })
IsLeft m (Read id count) left = (left ≡ m) ⊎ ((r : Reader) × (said : List Mutation) × (reader_of id m ≡ Some r) × IsResaid m r said × (left ≡ record m { readers = set_value (λ k. k == id) m.readers (record r { said = said }) }))
IsLeft m command left = left ≡ m

-- What is kept stands over a store's files for a state, in a way of its own.
module _ {Kept : Type 0} (Stands : Option Files → Kept → State → Type 0) where
  -- a command is answered by a step to a state for which what is kept stands then
  abbrev pub Takes : Option Files → Kept → Command → Reply → Option Files → Kept → Type 0
  Takes files k command reply files' k' = (m : State) → Stands files k m → (next : State) × Steps m command reply next × Stands files' k' next

  -- memory ran out
  abbrev pub Stops : Option Files → Kept → Command → Option Files → Kept → Type 0
  Stops files k command files' k' = (m : State) → Stands files k m → (left : State) × IsLeft m command left × Stands files' k' left

-- at most so many ranges of files with these bytes are asked for while each is checked
abbrev pub checks_of : List (List ℕ) → ℕ
checks_of files = sum_by (λ bytes. length bytes / 2048 + 2) files

-- at most so many ranges of table files are asked for by a command: an open reads its partition from each table that lists it, and a read of an open
-- reader may read that reader's partition again
abbrev pub most_asks : State → Command → ℕ
most_asks m (OpenRead id key slice) = 2 * listing key m.infos
most_asks m (Read id count) = option_map_or (λ (r : Reader). 2 * listing r.key m.infos) (reader_of id m) 0
most_asks m command = 0

-- a refusal that says that the store failed
abbrev pub OnRefusedFault : Refusal → Type 0 → Type 0
OnRefusedFault ReadFault P = P
OnRefusedFault WriteFault P = P
OnRefusedFault refusal P = ⊤

-- so much holds of a reply that says that the store failed
abbrev pub OnFaulty : Reply → Type 0 → Type 0
OnFaulty (Refused refusal) P = OnRefusedFault refusal P
OnFaulty reply P = ⊤

-- the count of faults does not fall, and rose where a reply says that the store failed
abbrev pub FaultsAreCounted : {E : Type 0} → Result Reply E → (before now : ℕ) → Type 0
FaultsAreCounted result before now = (before ≤ now) × IfOk result (λ reply. OnFaulty reply (Rose before now))
