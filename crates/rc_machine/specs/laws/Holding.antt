-- What was flushed: each step keeps what the tables and files hold.
use Rattle.std.proofs.Common.{◌≡◌, ℕ, zero, suc, ◌+◌, ◌==◌, ◌-◌, ◌≤◌, Bool, true, false, List, [], ◌∷◌, ◌++◌, length, take, drop, Option, Some, None, refl, sym, ap, subst, ◌∙◌, append_assoc, append-nil, arith, le_refl, length-append}
use Rattle.std.specs.Prelude.{All, if◌then◌else◌, option_map}
use Rattle.std.specs.FinMap as finite
use Rattle.std.proofs.lemmas.List.{map-append, take-append-le, take-append-drop, take-take, drop-take}
use Rattle.std.proofs.lemmas.List.Elements.{All-append, All-cons}
use Rattle.rc_outside.specs.Files.{Files}
use Rattle.rc_schema.specs.SchemaValue.{SchemaValue}
use Rattle.rc_mutation.specs.declared.mutations.Partition.{Partition}
use Rattle.rc_mutation.specs.declared.mutations.Write.{Write}
use Rattle.rc_tfile.specs.Before.{text}
use Rattle.rc_tfile.specs.TableText.{whole_table, IsTable}
use Rattle.rc_lines.specs.declared.commands.Command.{Command}
use Rattle.rc_lines.specs.declared.commands.Reply.{Reply}
use Rattle.rc_machine.specs.State.{State, Table, numbers, unstored_writes}
use Rattle.rc_machine.specs.Steps.{AfterSteps, IsFlushed, with_table, without_sealed, sealing, next_number}
use Rattle.rc_machine.specs.Flushed.{Flush, IsFlushOf, HasFlushed, AreNext, tables_of, writes_of, files_with, in_tables, writes_of_steps, accepted_by}
use Rattle.rc_machine.specs.laws.Changes.{Change, Reads, Writes, Seals, Begins, Stored, Goes, Ends, change_of}

-- the first writes, and then the next of those behind them
front_and_next : {X : Type 0} (n k : ℕ) (xs : List X) → n ≤ k → take n xs ++ take (k - n) (drop n xs) ≡ take k xs
front_and_next {X} n k xs le =
    let whole : n + (k - n) ≡ k = omega (arith, le) in
    ap (λ ys. take n xs ++ ys) (sym (drop-take n (k - n) xs) ∙ ap (λ m. drop n (take m xs)) whole) ∙ ap (λ ys. ys ++ drop n (take k xs)) (sym (take-take n k xs le)) ∙ take-append-drop n (take k xs)

tables_of-append : (fs gs : List Flush) → tables_of (fs ++ gs) ≡ tables_of fs ++ tables_of gs
tables_of-append fs gs = map-append (λ (f : Flush). f.0) fs gs

writes_of-append : (fs gs : List Flush) → writes_of (fs ++ gs) ≡ writes_of fs ++ writes_of gs
writes_of-append [] gs = refl
writes_of-append (f ∷ fs) gs = ap (λ ws. f.1 ++ ws) (writes_of-append fs gs) ∙ sym (append_assoc f.1 (writes_of fs) (writes_of gs))

files_with-append : (schema : SchemaValue) (files : Files) (ts us : List Table) → files_with schema files (ts ++ us) ≡ files_with schema (files_with schema files ts) us
files_with-append schema files [] us = refl
files_with-append schema files (t ∷ ts) us = files_with-append schema (finite.insert files t.0 (text (whole_table schema t.1))) ts us

-- one table more, with its file
one_more : (schema : SchemaValue) (first now : Option Files) (ts : List Table) (t : Table) → now ≡ option_map (λ files. files_with schema files ts) first
    → option_map (λ files. finite.insert files t.0 (text (whole_table schema t.1))) now ≡ option_map (λ files. files_with schema files (ts ++ t ∷ [])) first
one_more schema None now ts t e = ap (option_map (λ files. finite.insert files t.0 (text (whole_table schema t.1)))) e
one_more schema (Some files) now ts t e =
    ap (option_map (λ files. finite.insert files t.0 (text (whole_table schema t.1)))) e ∙ ap (λ f. Some f) (sym (files_with-append schema files ts (t ∷ [])))

if_true : {X : Type 0} (b : Bool) (x y : X) → b ≡ true → (if b then x else y) ≡ x
if_true b x y e = ap (λ c. if c then x else y) e

if_false : {X : Type 0} (b : Bool) (x y : X) → b ≡ false → (if b then x else y) ≡ y
if_false b x y e = ap (λ c. if c then x else y) e

next-append : (before ns : List ℕ) (n : ℕ) → AreNext before ns → n ≡ next_number (before ++ ns) → AreNext before (ns ++ n ∷ [])
next-append before [] n next e = (e ∙ ap next_number (append-nil before), tt)
next-append before (k ∷ ks) n next e = (next.0, next-append (before ++ k ∷ []) ks n next.1 (e ∙ ap next_number (sym (append_assoc before (k ∷ []) ks))))

-- what is sealed then is among the accepted writes, behind what is sealed
pub sealing_within : (m : State) → m.stored ≤ m.sealed → m.sealed ≤ length m.log → (m.stored ≤ sealing m) × (sealing m ≤ length m.log)
sealing_within m stored sealed = either (m.stored == m.sealed)
  where
    either : (b : Bool) → (m.stored ≤ (if b then length m.log else m.sealed)) × ((if b then length m.log else m.sealed) ≤ length m.log)
    either true = (omega (arith, stored, sealed), le_refl (length m.log))
    either false = (stored, sealed)

-- a table is flushed
module _ (first m : State) (flushes : List Flush) (h : HasFlushed first m flushes) (parts : List Partition) (is : IsFlushed m parts) (idle : m.written ≡ false) where
  -- the writes that are sealed, or would be
  abbrev to_flush : List Write
  to_flush = take (sealing m - m.stored) (unstored_writes m)

  flush : Flush
  flush = ((next_number (numbers m.tables), parts), to_flush)

  within : (m.stored ≤ sealing m) × (sealing m ≤ length m.log)
  within = sealing_within m h.stored h.sealed

  is_flush : IsFlushOf first.schema flush
  unfolding flush
  is_flush = record { of_writes = is.0; is_table = subst (λ z. IsTable (text (whole_table z parts)) z parts) h.schema is.1 }

  all : All (IsFlushOf first.schema) (flushes ++ flush ∷ [])
  all = All-append (IsFlushOf first.schema) flushes (flush ∷ []) h.each (All-cons (IsFlushOf first.schema) flush [] is_flush (λ k d l. absurd (omega arith)))

  its_tables : m.tables ++ (next_number (numbers m.tables), parts) ∷ [] ≡ first.tables ++ tables_of (flushes ++ flush ∷ [])
  unfolding flush
  its_tables =
      ap (λ ts. ts ++ (next_number (numbers m.tables), parts) ∷ []) h.tables ∙ append_assoc first.tables (tables_of flushes) ((next_number (numbers m.tables), parts) ∷ [])
      ∙ ap (λ ts. first.tables ++ ts) (sym (tables_of-append flushes (flush ∷ [])))

  its_numbers : AreNext (numbers first.tables) (numbers (tables_of (flushes ++ flush ∷ [])))
  unfolding flush
  its_numbers =
      subst (AreNext (numbers first.tables)) (sym (map-append (λ (t : Table). t.0) (tables_of flushes) ((next_number (numbers m.tables), parts) ∷ [])) ∙ ap numbers (sym (tables_of-append flushes (flush ∷ []))))
      (next-append (numbers first.tables) (numbers (tables_of flushes)) (next_number (numbers m.tables)) h.numbered (ap (λ ts. next_number (numbers ts)) h.tables ∙ ap next_number (map-append (λ (t : Table). t.0) first.tables (tables_of flushes))))

  its_files : option_map (λ files. finite.insert files (next_number (numbers m.tables)) (text (whole_table m.schema parts))) m.files ≡ option_map (λ files. files_with first.schema files (tables_of (flushes ++ flush ∷ []))) first.files
  unfolding flush
  its_files =
      ap (λ z. option_map (λ files. finite.insert files (next_number (numbers m.tables)) (text (whole_table z parts))) m.files) h.schema
      ∙ one_more first.schema first.files m.files (tables_of flushes) (next_number (numbers m.tables), parts) h.files
      ∙ ap (λ ts. option_map (λ files. files_with first.schema files ts) first.files) (sym (tables_of-append flushes (flush ∷ [])))

  its_writes : writes_of (flushes ++ flush ∷ []) ≡ take (sealing m) m.log
  unfolding flush
  its_writes =
      writes_of-append flushes (flush ∷ [])
      ∙ ap (λ ws. writes_of flushes ++ ws) (append-nil to_flush)
      ∙ ap (λ ws. ws ++ to_flush) (h.writes ∙ ap (λ n. take n m.log) (if_false m.written m.sealed m.stored idle))
      ∙ front_and_next m.stored (sealing m) m.log within.0

  began : HasFlushed first (with_table m parts) (flushes ++ flush ∷ [])
  began = record { schema = h.schema; each = all; tables = its_tables; numbered = its_numbers; files = its_files; writes = its_writes; stored = within.0; sealed = within.1 }

  stored_whole : HasFlushed first (without_sealed (with_table m parts)) (flushes ++ flush ∷ [])
  stored_whole = record { schema = h.schema; each = all; tables = its_tables; numbered = its_numbers; files = its_files; writes = its_writes; stored = le_refl (sealing m); sealed = within.1 }

-- what was flushed, after a step
pub holds_on : (first m : State) (command : Command) (reply : Reply) (new : State) (flushes : List Flush) → HasFlushed first m flushes → Change m command reply new → (more : List Flush) × HasFlushed first new more
holds_on first m command reply new flushes h (Reads readers e none) =
    subst (λ x. (more : List Flush) × HasFlushed first x more) (sym e)
    (flushes, record { schema = h.schema; each = h.each; tables = h.tables; numbered = h.numbered; files = h.files; writes = h.writes; stored = h.stored; sealed = h.sealed })
holds_on first m command reply new flushes h (Goes left e none) =
    subst (λ x. (more : List Flush) × HasFlushed first x more) (sym e)
    (flushes, record { schema = h.schema; each = h.each; tables = h.tables; numbered = h.numbered; files = h.files; writes = h.writes; stored = h.stored; sealed = h.sealed })
holds_on first m command reply new flushes h (Writes w e some) =
    subst (λ x. (more : List Flush) × HasFlushed first x more) (sym e) (
      flushes,
      record {
        schema = h.schema;
        each = h.each;
        tables = h.tables;
        numbered = h.numbered;
        files = h.files;
        writes = h.writes ∙ sym (take-append-le (in_tables m) m.log (w ∷ []) (few m.written));
        stored = h.stored;
        sealed = omega (arith, h.sealed, length-append m.log (w ∷ []));
      },
    )
  where
    few : (b : Bool) → (if b then m.sealed else m.stored) ≤ length m.log
    few true = h.sealed
    few false = omega (arith, h.stored, h.sealed)
holds_on first m command reply new flushes h (Seals idle e none) =
    let within = sealing_within m h.stored h.sealed in
    subst (λ x. (more : List Flush) × HasFlushed first x more) (sym e) (
      flushes,
      record {
        schema = h.schema;
        each = h.each;
        tables = h.tables;
        numbered = h.numbered;
        files = h.files;
        writes = h.writes ∙ ap (λ n. take n m.log) (if_false m.written m.sealed m.stored idle ∙ sym (if_false m.written (sealing m) m.stored idle));
        stored = within.0;
        sealed = within.1;
      },
    )
holds_on first m command reply new flushes h (Ends written e none) =
    subst (λ x. (more : List Flush) × HasFlushed first x more) (sym e) (
      flushes,
      record {
        schema = h.schema;
        each = h.each;
        tables = h.tables;
        numbered = h.numbered;
        files = h.files;
        writes = h.writes ∙ ap (λ n. take n m.log) (if_true m.written m.sealed m.stored written);
        stored = le_refl m.sealed;
        sealed = h.sealed;
      },
    )
holds_on first m command reply new flushes h (Begins parts is idle e none) = subst (λ x. (more : List Flush) × HasFlushed first x more) (sym e) (_, began first m flushes h parts is idle)
holds_on first m command reply new flushes h (Stored parts is idle e none) = subst (λ x. (more : List Flush) × HasFlushed first x more) (sym e) (_, stored_whole first m flushes h parts is idle)

-- the log grows by what is accepted
pub grows : (m : State) (command : Command) (reply : Reply) (new : State) → Change m command reply new → new.log ≡ m.log ++ accepted_by command reply
grows m command reply new (Reads readers e none) = ap (λ (x : State). x.log) e ∙ sym (append-nil m.log) ∙ ap (λ ws. m.log ++ ws) (sym none)
grows m command reply new (Writes w e some) = ap (λ (x : State). x.log) e ∙ ap (λ ws. m.log ++ ws) (sym some)
grows m command reply new (Seals idle e none) = ap (λ (x : State). x.log) e ∙ sym (append-nil m.log) ∙ ap (λ ws. m.log ++ ws) (sym none)
grows m command reply new (Begins parts is idle e none) = ap (λ (x : State). x.log) e ∙ sym (append-nil m.log) ∙ ap (λ ws. m.log ++ ws) (sym none)
grows m command reply new (Stored parts is idle e none) = ap (λ (x : State). x.log) e ∙ sym (append-nil m.log) ∙ ap (λ ws. m.log ++ ws) (sym none)
grows m command reply new (Goes left e none) = ap (λ (x : State). x.log) e ∙ sym (append-nil m.log) ∙ ap (λ ws. m.log ++ ws) (sym none)
grows m command reply new (Ends written e none) = ap (λ (x : State). x.log) e ∙ sym (append-nil m.log) ∙ ap (λ ws. m.log ++ ws) (sym none)

-- the schema stays
pub schema_stays : (m : State) (command : Command) (reply : Reply) (new : State) → Change m command reply new → new.schema ≡ m.schema
schema_stays m command reply new (Reads readers e none) = ap (λ (x : State). x.schema) e
schema_stays m command reply new (Writes w e some) = ap (λ (x : State). x.schema) e
schema_stays m command reply new (Seals idle e none) = ap (λ (x : State). x.schema) e
schema_stays m command reply new (Begins parts is idle e none) = ap (λ (x : State). x.schema) e
schema_stays m command reply new (Stored parts is idle e none) = ap (λ (x : State). x.schema) e
schema_stays m command reply new (Goes left e none) = ap (λ (x : State). x.schema) e
schema_stays m command reply new (Ends written e none) = ap (λ (x : State). x.schema) e

take_nothing : (n : ℕ) (ws : List Write) → ws ≡ [] → take n ws ≡ []
take_nothing zero ws e = refl
take_nothing (suc n) [] e = refl
take_nothing (suc n) (w ∷ ws) e = absurd (cc)

-- nothing was flushed before the first step
pub holds_at_first : (m : State) → m.log ≡ [] → m.stored ≡ 0 → m.sealed ≡ 0 → HasFlushed m m []
holds_at_first m none stored sealed = record {
  schema = refl;
  each = λ k d l. absurd (omega arith);
  tables = sym (append-nil m.tables);
  numbered = tt;
  files = same m.files;
  writes = sym (take_nothing (in_tables m) m.log none);
  stored = omega (arith, stored, sealed);
  sealed = omega (arith, sealed);
}
  where
    same : (o : Option Files) → o ≡ option_map (λ files. files) o
    same None = refl
    same (Some files) = refl

pub holds_after : (first m : State) (steps : List (Command × Reply)) (new : State) (flushes : List Flush) → HasFlushed first m flushes → AfterSteps m steps new
    → ((more : List Flush) × HasFlushed first new more) × (new.log ≡ m.log ++ writes_of_steps steps)
holds_after first m [] new flushes h a = (subst (λ x. (more : List Flush) × HasFlushed first x more) (sym a) (flushes, h), ap (λ (x : State). x.log) a ∙ sym (append-nil m.log))
holds_after first m (step ∷ steps) new flushes h a =
    let change = change_of m step.0 step.1 a.0 a.1 in
    let next = holds_on first m step.0 step.1 a.0 flushes h change in
    let rest = holds_after first a.0 steps new next.0 next.1 a.2 in
    (rest.0, rest.1 ∙ ap (λ ws. ws ++ writes_of_steps steps) (grows m step.0 step.1 a.0 change) ∙ append_assoc m.log (accepted_by step.0 step.1) (writes_of_steps steps))
