-- What a step may change of a state, by cases: every law over steps goes by these.
use Rattle.std.proofs.Common.{◌≡◌, inl, inr, ℕ, ◌-◌, ◌==◌, nat_lt, Bool, true, false, not, List, [], ◌∷◌, ◌++◌, length, Option, Some, None, MatchBool, MatchOption, refl, ap}
use Rattle.std.specs.List.{filter}
use Rattle.rc_position.specs.declared.slices.Slice.{Slice}
use Rattle.rc_mutation.specs.declared.mutations.Partition.{Partition}
use Rattle.rc_mutation.specs.declared.mutations.Write.{Write}
use Rattle.rc_lines.specs.declared.commands.Command.{Command}
use Rattle.rc_lines.specs.declared.commands.Command.TheVariants.{Nothing, SetSchema, Put, OpenRead, Read, Close, Flush, FlushBegin, FlushStep, Evict, Compact, Clean, Stats}
use Rattle.rc_lines.specs.declared.commands.Refusal.{Refusal}
use Rattle.rc_lines.specs.declared.commands.Refusal.TheVariants.{TooManyReaders, ReaderInUse, NoReader, NothingToFlush, NoNumber, NoFlush, FlushInProgress}
use Rattle.rc_lines.specs.declared.commands.Reply.{Reply}
use Rattle.rc_lines.specs.declared.commands.Reply.TheVariants as replies
use Rattle.rc_machine.specs.State.{State, Reader, numbers, reader_of}
use Rattle.rc_machine.specs.Steps.{Steps, Opens, Gives, Stores, Refuses, IsFlushed, with_table, without_sealed, sealing, next_number, last_number, most_readers}
use Rattle.rc_machine.specs.Flushed.{accepted_by}

-- nothing but readers; a write behind the others; writes are sealed; they are written as a table, which the cache has in steps or at once; or the
-- cache has some, or all, of it
pub data Change (m : State) (command : Command) (reply : Reply) (new : State) : Type 0 where
  Reads : (readers : List (ℕ × Reader)) → new ≡ record m { readers = readers } → accepted_by command reply ≡ [] → Change m command reply new
  Writes : (w : Write) → new ≡ record m { log = m.log ++ w ∷ [] } → accepted_by command reply ≡ w ∷ [] → Change m command reply new
  Seals : m.written ≡ false → new ≡ record m { sealed = sealing m } → accepted_by command reply ≡ [] → Change m command reply new
  Begins : (parts : List Partition) → IsFlushed m parts → m.written ≡ false → new ≡ with_table m parts → accepted_by command reply ≡ [] → Change m command reply new
  Stored : (parts : List Partition) → IsFlushed m parts → m.written ≡ false → new ≡ without_sealed (with_table m parts) → accepted_by command reply ≡ [] → Change m command reply new
  Goes : (left : ℕ) → new ≡ record m { left = left } → accepted_by command reply ≡ [] → Change m command reply new
  Ends : m.written ≡ true → new ≡ without_sealed m → accepted_by command reply ≡ [] → Change m command reply new

module _ (m : State) (command : Command) (reply : Reply) (new : State) (none : accepted_by command reply ≡ []) where
  -- nothing changes
  same : new ≡ m → Change m command reply new
  same e = Reads m.readers e none

  refuses : (why : Refusal) → Refuses m why reply new → Change m command reply new
  refuses why s = same s.1

  opens : (id : ℕ) (key : List ℕ) (slice : Slice) → Opens m id key slice reply new → Change m command reply new
  opens id key slice (inl s) = Reads _ s.2.1 none
  opens id key slice (inr (inl s)) = same s.1
  opens id key slice (inr (inr s)) = same s.4.1

  tries : (id : ℕ) (key : List ℕ) (slice : Slice) (r : Option Reader) (b : Bool)
      → MatchOption r (MatchBool b (Opens m id key slice reply new) (Refuses m TooManyReaders reply new)) (λ _. Refuses m ReaderInUse reply new) → Change m command reply new
  tries id key slice None true s = opens id key slice s
  tries id key slice None false s = same s.1
  tries id key slice (Some r) b s = same s.1

  gives : (id count : ℕ) (r : Reader) → Gives m id count r reply new → Change m command reply new
  gives id count r (inl s) = Reads _ s.2.1 none
  gives id count r (inr (inl s)) = same s.1
  gives id count r (inr (inr s)) = same s.4.1

  reads : (id count : ℕ) (r : Option Reader) → MatchOption r (Refuses m NoReader reply new) (λ r. Gives m id count r reply new) → Change m command reply new
  reads id count None s = same s.1
  reads id count (Some r) s = gives id count r s

  closes : (readers : List (ℕ × Reader)) (r : Option Reader) → MatchOption r (Refuses m NoReader reply new) (λ _. (reply ≡ replies.Fine) × (new ≡ record m { readers = readers })) → Change m command reply new
  closes readers None s = same s.1
  closes readers (Some r) s = Reads readers s.1 none

  module _ (on : State → State) (how : (parts : List Partition) → IsFlushed m parts → m.written ≡ false → new ≡ on (with_table m parts) → Change m command reply new) where
    stores : m.written ≡ false → Stores m on reply new → Change m command reply new
    stores idle (inl s) = how s.0 s.1 idle s.2.1
    stores idle (inr s) = Seals idle s.1 none

    flushes : (written empty full : Bool) → m.written ≡ written
        → MatchBool written (Refuses m FlushInProgress reply new) (MatchBool empty (Refuses m NothingToFlush reply new) (MatchBool full (Refuses m NoNumber reply new) (Stores m on reply new)))
        → Change m command reply new
    flushes true empty full e s = same s.1
    flushes false true full e s = same s.1
    flushes false false true e s = same s.1
    flushes false false false e s = stores e s

  steps : (written more : Bool) (left : ℕ) → m.written ≡ written
      → MatchBool written (MatchBool more ((reply ≡ replies.Going) × (new ≡ record m { left = left })) ((reply ≡ replies.Done) × (new ≡ without_sealed m))) (Refuses m NoFlush reply new)
      → Change m command reply new
  steps true true left e s = Goes left s.1 none
  steps true false left e s = Ends e s.1 none
  steps false more left e s = same s.1

pub change_of : (m : State) (command : Command) (reply : Reply) (new : State) → Steps m command reply new → Change m command reply new
change_of m Nothing reply new s = same m Nothing reply new refl s.1
change_of m (SetSchema schema) reply new (inl s) = same m (SetSchema schema) reply new refl s.1.1
change_of m (SetSchema schema) reply new (inr s) = same m (SetSchema schema) reply new refl s.1.1
change_of m (Put w) reply new (inl s) = Writes w s.1 (ap (λ r. accepted_by (Put w) r) s.0)
change_of m (Put w) reply new (inr s) = same m (Put w) reply new (ap (λ r. accepted_by (Put w) r) s.1.0) s.1.1
change_of m (OpenRead id key slice) reply new s = tries m (OpenRead id key slice) reply new refl id key slice (reader_of id m) (nat_lt (length m.readers) most_readers) s
change_of m (Read id count) reply new s = reads m (Read id count) reply new refl id count (reader_of id m) s
change_of m (Close id) reply new s = closes m (Close id) reply new refl (filter (λ reader. not (reader.0 == id)) m.readers) (reader_of id m) s
change_of m Flush reply new s = flushes m Flush reply new refl without_sealed (λ parts is idle e. Stored parts is idle e refl) m.written (m.stored == length m.log) (nat_lt last_number (next_number (numbers m.tables))) refl s
change_of m FlushBegin reply new s = flushes m FlushBegin reply new refl (λ next. next) (λ parts is idle e. Begins parts is idle e refl) m.written (m.stored == length m.log) (nat_lt last_number (next_number (numbers m.tables))) refl s
change_of m (FlushStep count) reply new s = steps m (FlushStep count) reply new refl m.written (nat_lt count m.left) (m.left - count) refl s
change_of m (Evict count) reply new s = same m (Evict count) reply new refl s.1
change_of m (Compact count) reply new s = same m (Compact count) reply new refl s.1
change_of m (Clean count) reply new s = same m (Clean count) reply new refl s.1
change_of m Stats reply new s = same m Stats reply new refl s.3
