-- An open reader is not changed by what is done elsewhere.
use Rattle.std.proofs.Common.{◌≡◌, ◌==◌, ℕ, ◌-◌, MatchBool, nat_lt, length, Bool, true, false, cond, not, ◌&&◌, List, [], ◌∷◌, ◌++◌, Option, Some, None, MatchOption, refl, ap, ◌∙◌, inl, inr, arith}
use Rattle.std.specs.List.{filter, list_all}
use Rattle.std.specs.Map.{lookup, set_value}
use Rattle.std.proofs.lemmas.Map.Entries.{lookup-filter-keys}
use Rattle.rc_position.specs.declared.slices.Slice.{Slice}
use Rattle.rc_lines.specs.declared.commands.Command.{Command}
use Rattle.rc_lines.specs.declared.commands.Command.TheVariants.{Nothing, SetSchema, Put, OpenRead, Read, Close, Flush, FlushBegin, FlushStep, Evict, Compact, Clean, Stats}
use Rattle.rc_lines.specs.declared.commands.Refusal.{Refusal}
use Rattle.rc_lines.specs.declared.commands.Refusal.TheVariants.{NoReader, ReaderInUse, TooManyReaders, NothingToFlush, NoNumber, FlushInProgress, NoFlush}
use Rattle.rc_lines.specs.declared.commands.Reply.{Reply}
use Rattle.rc_lines.specs.declared.commands.Reply.TheVariants as replies
use Rattle.rc_machine.specs.State.{State, Reader, numbers, reader_of}
use Rattle.rc_machine.specs.Steps.{Steps, AfterSteps, Refuses, Opens, Gives, Stores, is_of, most_readers, last_number, next_number, with_table, without_sealed}

abbrev pub Readers : Type 0
Readers = List (ℕ × Reader)

-- behind what is found nothing matters
stays_behind : (id : ℕ) (readers more : Readers) (r : Reader) → lookup (λ k. k == id) readers ≡ Some r → lookup (λ k. k == id) (readers ++ more) ≡ Some r
stays_behind id [] more r e = absurd (cc)
stays_behind id (q ∷ qs) more r e =
    elim (q.0 == id) as (λ b. cond b (Some q.1) (lookup (λ k. k == id) qs) ≡ Some r → cond b (Some q.1) (lookup (λ k. k == id) (qs ++ more)) ≡ Some r) [
      | true ↦ λ f. f
      | false ↦ λ f. stays_behind id qs more r f
    ] e

apart : (other id k : ℕ) → (other == id) ≡ false → (k == id) ≡ true → (k == other) ≡ false
apart other id k h e = grind (arith, h, e)

-- another id's reader may be written
stays_beside : (other id : ℕ) (readers : Readers) (new : Reader) → (other == id) ≡ false → lookup (λ k. k == id) (set_value (λ k. k == other) readers new) ≡ lookup (λ k. k == id) readers
stays_beside other id [] new h = refl
stays_beside other id (r ∷ rs) new h =
    elim (r.0 == id) as (λ b. (r.0 == id) ≡ b → lookup (λ k. k == id) (cond (r.0 == other) ((r.0, new) ∷ rs) (r ∷ set_value (λ k. k == other) rs new)) ≡ cond b (Some r.1) (lookup (λ k. k == id) rs)) [
      | true ↦ λ e. rw (apart other id r.0 h e) (ap (λ b. cond b (Some r.1) (lookup (λ k. k == id) (set_value (λ k. k == other) rs new))) e)
      | false ↦ λ e.
          elim (r.0 == other) as (λ c. lookup (λ k. k == id) (cond c ((r.0, new) ∷ rs) (r ∷ set_value (λ k. k == other) rs new)) ≡ lookup (λ k. k == id) rs) [
            | true ↦ ap (λ b. cond b (Some new) (lookup (λ k. k == id) rs)) e
            | false ↦ ap (λ b. cond b (Some r.1) (lookup (λ k. k == id) (set_value (λ k. k == other) rs new))) e ∙ stays_beside other id rs new h
          ]
    ] refl

not_true : (b : Bool) → b ≡ false → not b ≡ true
not_true b e = ap not e

closed_beside : (other id : ℕ) (readers : Readers) → (other == id) ≡ false → lookup (λ k. k == id) (filter (λ reader. not (reader.0 == other)) readers) ≡ lookup (λ k. k == id) readers
closed_beside other id readers h = lookup-filter-keys (λ k. k == id) (λ k. not (k == other)) true (λ k e. not_true (k == other) (apart other id k h e)) readers

closed : (id : ℕ) (readers : Readers) → lookup (λ k. k == id) (filter (λ reader. not (reader.0 == id)) readers) ≡ None
closed id readers = lookup-filter-keys (λ k. k == id) (λ k. not (k == id)) false (λ k e. ap not e) readers

module _ (m new : State) (id : ℕ) (r : Reader) (reply : Reply) (open_before : reader_of id m ≡ Some r) where
  -- the readers stay
  stays : new.readers ≡ m.readers → reader_of id new ≡ Some r
  stays same = ap (lookup (λ k. k == id)) same ∙ open_before

  -- nothing changes
  still : new ≡ m → reader_of id new ≡ Some r
  still e = stays (ap (λ (m : State). m.readers) e)

  opens : (other : ℕ) (key : List ℕ) (slice : Slice) → Opens m other key slice reply new → reader_of id new ≡ Some r
  opens other key slice (inl s) = ap (λ (m : State). lookup (λ k. k == id) m.readers) s.2.1 ∙ stays_behind id m.readers _ r open_before
  opens other key slice (inr (inl s)) = still s.1
  opens other key slice (inr (inr s)) = still s.4.1

  tries : (other : ℕ) (key : List ℕ) (slice : Slice) (o : Option Reader) (b : Bool)
      → MatchOption o (MatchBool b (Opens m other key slice reply new) (Refuses m TooManyReaders reply new)) (λ _. Refuses m ReaderInUse reply new) → reader_of id new ≡ Some r
  tries other key slice None true s = opens other key slice s
  tries other key slice None false s = still s.1
  tries other key slice (Some more) b s = still s.1

  gives : (other count : ℕ) (left : Reader) → (other == id) ≡ false → Gives m other count left reply new → reader_of id new ≡ Some r
  gives other count left h (inl s) = ap (λ (m : State). lookup (λ k. k == id) m.readers) s.2.1 ∙ stays_beside other id m.readers _ h ∙ open_before
  gives other count left h (inr (inl s)) = still s.1
  gives other count left h (inr (inr s)) = still s.4.1

  read : (other count : ℕ) (o : Option Reader) → (other == id) ≡ false → MatchOption o (Refuses m NoReader reply new) (λ left. Gives m other count left reply new) → reader_of id new ≡ Some r
  read other count None h s = still s.1
  read other count (Some left) h s = gives other count left h s

  shut : (other : ℕ) (o : Option Reader) → (other == id) ≡ false
      → MatchOption o (Refuses m NoReader reply new) (λ _. (reply ≡ replies.Fine) × (new ≡ record m { readers = filter (λ reader. not (reader.0 == other)) m.readers })) → reader_of id new ≡ Some r
  shut other None h s = still s.1
  shut other (Some left) h s = ap (λ (m : State). lookup (λ k. k == id) m.readers) s.1 ∙ closed_beside other id m.readers h ∙ open_before

  module _ (on : State → State) (keeps : (m : State) → (on m).readers ≡ m.readers) where
    stored : Stores m on reply new → reader_of id new ≡ Some r
    stored (inl s) = stays (ap (λ (m : State). m.readers) s.2.1 ∙ keeps (with_table m s.0))
    stored (inr s) = stays (ap (λ (m : State). m.readers) s.1)

    flushed : (a b c : Bool)
        → MatchBool a (Refuses m FlushInProgress reply new) (MatchBool b (Refuses m NothingToFlush reply new) (MatchBool c (Refuses m NoNumber reply new) (Stores m on reply new))) → reader_of id new ≡ Some r
    flushed true b c s = still s.1
    flushed false true c s = still s.1
    flushed false false true s = still s.1
    flushed false false false s = stored s

  stepped : (written more : Bool) (left : ℕ)
      → MatchBool written (MatchBool more ((reply ≡ replies.Going) × (new ≡ record m { left = left })) ((reply ≡ replies.Done) × (new ≡ without_sealed m))) (Refuses m NoFlush reply new) → reader_of id new ≡ Some r
  stepped true true left s = stays (ap (λ (m : State). m.readers) s.1)
  stepped true false left s = stays (ap (λ (m : State). m.readers) s.1)
  stepped false more left s = still s.1

pub fixed : (m : State) (id : ℕ) (r : Reader) (command : Command) (reply : Reply) (new : State) → reader_of id m ≡ Some r → is_of id command ≡ false → Steps m command reply new → reader_of id new ≡ Some r
fixed m id r Nothing reply new e h s = still m new id r reply e s.1
fixed m id r (SetSchema schema) reply new e h (inl s) = still m new id r reply e s.1.1
fixed m id r (SetSchema schema) reply new e h (inr s) = still m new id r reply e s.1.1
fixed m id r (Put w) reply new e h (inl s) = stays m new id r reply e (ap (λ (m : State). m.readers) s.1)
fixed m id r (Put w) reply new e h (inr s) = still m new id r reply e s.1.1
fixed m id r (OpenRead other key slice) reply new e h s = tries m new id r reply e other key slice (reader_of other m) (nat_lt (length m.readers) most_readers) s
fixed m id r (Read other count) reply new e h s = read m new id r reply e other count (reader_of other m) h s
fixed m id r (Close other) reply new e h s = shut m new id r reply e other (reader_of other m) h s
fixed m id r Flush reply new e h s = flushed m new id r reply e without_sealed (λ m. refl) m.written (m.stored == length m.log) (nat_lt last_number (next_number (numbers m.tables))) s
fixed m id r FlushBegin reply new e h s = flushed m new id r reply e (λ m. m) (λ m. refl) m.written (m.stored == length m.log) (nat_lt last_number (next_number (numbers m.tables))) s
fixed m id r (FlushStep count) reply new e h s = stepped m new id r reply e m.written (nat_lt count m.left) (m.left - count) s
fixed m id r (Evict count) reply new e h s = still m new id r reply e s.1
fixed m id r (Compact count) reply new e h s = still m new id r reply e s.1
fixed m id r (Clean count) reply new e h s = still m new id r reply e s.1
fixed m id r Stats reply new e h s = still m new id r reply e s.3

both : (a b : Bool) → (not a && b) ≡ true → (a ≡ false) × (b ≡ true)
both false b h = (refl, h)
both true b h = absurd (cc)

pub fixed_after : (m : State) (id : ℕ) (r : Reader) (steps : List (Command × Reply)) (new : State) → reader_of id m ≡ Some r → list_all (λ step. not (is_of id step.0)) steps ≡ true → AfterSteps m steps new → reader_of id new ≡ Some r
fixed_after m id r [] new e h s = ap (λ (m : State). reader_of id m) s ∙ e
fixed_after m id r (step ∷ steps) new e h s =
    let h' = both (is_of id step.0) (list_all (λ step. not (is_of id step.0)) steps) h in
    fixed_after s.0 id r steps new (fixed m id r step.0 step.1 s.0 e h'.0 s.1) h'.1 s.2

not_refused : (why : Refusal) → replies.Fine ≡ replies.Refused why → ⊥
not_refused why e = absurd (cc)

gone : (m new : State) (id : ℕ) (o : Option Reader)
    → MatchOption o (Refuses m NoReader replies.Fine new) (λ _. (replies.Fine ≡ replies.Fine) × (new ≡ record m { readers = filter (λ reader. not (reader.0 == id)) m.readers })) → reader_of id new ≡ None
gone m new id None s = absurd (not_refused NoReader s.0)
gone m new id (Some left) s = ap (λ (m : State). lookup (λ k. k == id) m.readers) s.1 ∙ closed id m.readers

-- a reader that was closed is not open
pub closed_gone : (m : State) (id : ℕ) (new : State) → Steps m (Close id) replies.Fine new → reader_of id new ≡ None
closed_gone m id new s = gone m new id (reader_of id m) s
