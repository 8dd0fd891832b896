-- For which state the plain program stands after each step.
use Rattle.std.proofs.Common.{◌≡◌, ◌==◌, ℕ, ◌+◌, ◌<◌, ◌≤◌, inl, inr, Bool, true, false, cond, not, List, [], ◌∷◌, ◌++◌, length, take, drop, map, Option, Some, None, nat_lt, option_map, unwrap_or, refl, sym, ap, subst, ◌∙◌, arith, append_assoc}
use Rattle.std.specs.List.{filter}
use Rattle.std.specs.Map.{lookup, set_value}
use Rattle.std.specs.Ordering.{eq_by_cmp}
use Rattle.std.proofs.Math.Seq.{drop-append-le}
use Rattle.std.proofs.lemmas.List.{length-map, map-append}
use Rattle.std.proofs.lemmas.List.Elements.{filter-append}
use Rattle.rc_outside.specs.Files.{Files}
use Rattle.rc_position.specs.Position.{bytes_cmp}
use Rattle.rc_position.specs.declared.slices.Slice.{Slice}
use Rattle.rc_schema.specs.SchemaValue.{SchemaValue}
use Rattle.rc_mutation.specs.declared.mutations.Mutation.{Mutation}
use Rattle.rc_mutation.specs.declared.mutations.Write.{Write}
use Rattle.rc_mutation.specs.Source.{changes_to, IsJoinOf}
use Rattle.rc_query.specs.declared.lines.OutLine.{OutLine}
use Rattle.rc_query.specs.Answer.{answer}
use Rattle.rc_query.specs.laws.Answers.{answer-joined}
use Rattle.rc_stream.specs.declared.streams.StreamErr.{StreamErr}
use Rattle.rc_stream.specs.declared.streams.StreamErr.TheVariants as stream_err
use Rattle.rc_tfile.specs.declared.info.TableInfo.{TableInfo}
use Rattle.rc_tables.specs.Tables.{IsDamageOf}
use Rattle.rc_lines.specs.Fits.{CommandFits}
use Rattle.rc_lines.specs.declared.commands.Command.{Command}
use Rattle.rc_lines.specs.declared.commands.Command.TheVariants.{Put, OpenRead, Read, Close}
use Rattle.rc_lines.specs.declared.commands.Reply.{Reply}
use Rattle.rc_lines.specs.declared.commands.Reply.TheVariants as replies
use Rattle.rc_lines.specs.declared.commands.Refusal.TheVariants.{NoReader, ReaderInUse, TooManyReaders, ReadFault, Damaged}
use Rattle.rc_machine.specs.State.{State, Reader, rest_of}
use Rattle.rc_machine.specs.Standing.{IsOver}
use Rattle.rc_machine.specs.Steps.{IsSaid, most_readers, reader_with, reader_past, sealing}
use Rattle.rc_machine.specs.Serving.{Takes}
use Rattle.rc_machine.specs.laws.Reading.{rest_past}
use Rattle.rc_folder.specs.laws.Sealing.{log_sealed, log_length as writes_in_all, sealing_is}
use Rattle.rc_folder.specs.laws.Over.{over_reading, over_sealed, over_written}
use Rattle.rc_plain.specs.Stands.{Keeping, PlainStands, rests}
use Rattle.rc_plain.specs.calls.Answering.{IsAnswer}
use Rattle.rc_plain.specs.calls.Storing.{sealed_all}
use Rattle.rc_plain.proofs.Places.{Readers, fewer, as_many}
use Rattle.rc_plain.proofs.Numbers.{joined_halves}

-- ---- what readers have not given yet

rests_lookup : (id : ℕ) (readers : List (ℕ × Reader)) → lookup (λ q. q == id) (rests readers) ≡ option_map rest_of (lookup (λ q. q == id) readers)
rests_lookup id [] = refl
rests_lookup id (r ∷ rs) =
    elim (r.0 == id) as (λ b. cond b (Some (rest_of r.1)) (lookup (λ q. q == id) (rests rs)) ≡ option_map rest_of (cond b (Some r.1) (lookup (λ q. q == id) rs))) [
      | true ↦ refl
      | false ↦ rests_lookup id rs
    ]

not_there : (o : Option Reader) → option_map rest_of o ≡ None → o ≡ None
not_there None e = refl
not_there (Some r) e = absurd (cc)

there : (o : Option Reader) (rest : List OutLine) → option_map rest_of o ≡ Some rest → (r : Reader) × (o ≡ Some r) × (rest_of r ≡ rest)
there None rest e = absurd (cc)
there (Some r) rest e = (r, refl, ap (λ (o : Option (List OutLine)). unwrap_or o []) e)

rests_set : (id : ℕ) (readers : List (ℕ × Reader)) (r : Reader) → rests (set_value (λ q. q == id) readers r) ≡ set_value (λ q. q == id) (rests readers) (rest_of r)
rests_set id [] r = refl
rests_set id (x ∷ xs) r =
    elim (x.0 == id) as (λ b. rests (cond b ((x.0, r) ∷ xs) (x ∷ set_value (λ q. q == id) xs r)) ≡ cond b ((x.0, rest_of r) ∷ rests xs) ((x.0, rest_of x.1) ∷ set_value (λ q. q == id) (rests xs) (rest_of r))) [
      | true ↦ refl
      | false ↦ ap (λ rs. (x.0, rest_of x.1) ∷ rs) (rests_set id xs r)
    ]

rests_filter : (id : ℕ) (readers : List (ℕ × Reader)) → rests (filter (λ reader. not (reader.0 == id)) readers) ≡ filter (λ reader. not (reader.0 == id)) (rests readers)
rests_filter id [] = refl
rests_filter id (x ∷ xs) =
    elim (x.0 == id) as (λ b. rests (cond (not b) (x ∷ filter (λ reader. not (reader.0 == id)) xs) (filter (λ reader. not (reader.0 == id)) xs)) ≡ cond (not b) ((x.0, rest_of x.1) ∷ filter (λ reader. not (reader.0 == id)) (rests xs)) (filter (λ reader. not (reader.0 == id)) (rests xs))) [
      | true ↦ rests_filter id xs
      | false ↦ ap (λ rs. (x.0, rest_of x.1) ∷ rs) (rests_filter id xs)
    ]

open_none : (files : Option Files) (k : Keeping) (m : State) (id : ℕ) → PlainStands files k m → lookup (λ q. q == id) k.readers ≡ None → lookup (λ q. q == id) m.readers ≡ None
open_none files k m id s e = not_there (lookup (λ q. q == id) m.readers) (sym (rests_lookup id m.readers) ∙ ap (lookup (λ q. q == id)) s.readers ∙ e)

open_some : (files : Option Files) (k : Keeping) (m : State) (id : ℕ) (rest : List OutLine) → PlainStands files k m → lookup (λ q. q == id) k.readers ≡ Some rest → (r : Reader) × (lookup (λ q. q == id) m.readers ≡ Some r) × (rest_of r ≡ rest)
open_some files k m id rest s e = there (lookup (λ q. q == id) m.readers) rest (sym (rests_lookup id m.readers) ∙ ap (lookup (λ q. q == id)) s.readers ∙ e)

count_is : (files : Option Files) (k : Keeping) (m : State) → PlainStands files k m → length m.readers ≡ length k.readers
count_is files k m s = sym (length-map m.readers (λ (r : ℕ × Reader). (r.0, rest_of r.1))) ∙ ap length s.readers

-- the same with other readers
abbrev pub reading : Keeping → Readers → Keeping
reading k readers = record k { readers = readers }

stands_reading : (files : Option Files) (k : Keeping) (m : State) (given : List (ℕ × Reader)) (readers : Readers) → rests given ≡ readers → PlainStands files k m → PlainStands files (reading k readers) (record m { readers = given })
stands_reading files k m given readers e s = record {
  over = over_reading files k.schema k.infos m given s.over;
  log = s.log;
  sealed = s.sealed;
  whole = s.whole;
  left = s.left;
  readers = e;
  budget = s.budget;
}

-- ---- a write

-- the same with later writes
abbrev pub writing : Keeping → List Write → Keeping
writing k active = record k { active = active }

stored_within : (files : Option Files) (k : Keeping) (m : State) → PlainStands files k m → m.stored ≤ length m.log
stored_within files k m s = omega (arith, s.over.stored, s.over.sealed)

stands_writing : (files : Option Files) (k : Keeping) (m : State) (w : Write) → CommandFits k.schema (Put w) → PlainStands files k m → PlainStands files (writing k (k.active ++ w ∷ [])) (record m { log = m.log ++ w ∷ [] })
stands_writing files k m w fits s = record {
  over = over_written files k.schema k.infos m w fits s.over;
  log = sym (append_assoc k.sealed k.active (w ∷ [])) ∙ ap (λ ws. ws ++ w ∷ []) s.log ∙ sym (drop-append-le m.stored m.log (w ∷ []) (stored_within files k m s));
  sealed = s.sealed;
  whole = s.whole;
  left = s.left;
  readers = s.readers;
  budget = s.budget;
}

takes_put : (files : Option Files) (k : Keeping) (w : Write) (active : List Write) → CommandFits k.schema (Put w) → active ≡ k.active ++ w ∷ [] → Takes PlainStands files k (Put w) replies.Fine files (writing k active)
takes_put files k w active fits more = λ m s.
    (record m { log = m.log ++ w ∷ [] }, inl (refl, refl), subst (λ active. PlainStands files (writing k active) (record m { log = m.log ++ w ∷ [] })) (sym more) (stands_writing files k m w fits s))

-- the same of an equal write
pub takes_copy : (files : Option Files) (k : Keeping) (w v : Write) (active : List Write) → CommandFits k.schema (Put w) → v ≡ w → active ≡ k.active ++ v ∷ [] → Takes PlainStands files k (Put w) replies.Fine files (writing k active)
takes_copy files k w v active fits same more = takes_put files k w active fits (more ∙ ap (λ w. k.active ++ w ∷ []) same)

-- ---- steps that change nothing

pub takes_in_use : (files : Option Files) (k : Keeping) (id : ℕ) (key : List ℕ) (slice : Slice) (rest : List OutLine) → lookup (λ q. q == id) k.readers ≡ Some rest
    → Takes PlainStands files k (OpenRead id key slice) (replies.Refused ReaderInUse) files k
takes_in_use files k id key slice rest e = λ m s. (m, rw ((open_some files k m id rest s e).1) (refl, refl), s)

pub takes_too_many : (files : Option Files) (k : Keeping) (id : ℕ) (key : List ℕ) (slice : Slice) → lookup (λ q. q == id) k.readers ≡ None → most_readers ≤ length k.readers
    → Takes PlainStands files k (OpenRead id key slice) (replies.Refused TooManyReaders) files k
takes_too_many files k id key slice e many = λ m s.
    (m, rw (open_none files k m id s e, as_many (length m.readers) (subst (λ n. most_readers ≤ n) (sym (count_is files k m s)) many)) (refl, refl), s)

few : (files : Option Files) (k : Keeping) (m : State) → PlainStands files k m → length k.readers < most_readers → nat_lt (length m.readers) most_readers ≡ true
few files k m s h = fewer (length m.readers) (subst (λ n. n < most_readers) (sym (count_is files k m s)) h)

pub takes_fault : (files : Option Files) (k : Keeping) (id : ℕ) (key : List ℕ) (slice : Slice) → lookup (λ q. q == id) k.readers ≡ None → length k.readers < most_readers
    → Takes PlainStands files k (OpenRead id key slice) (replies.Refused ReadFault) files k
takes_fault files k id key slice e h = λ m s. (m, rw (open_none files k m id s e, few files k m s h) (inr (inl (refl, refl))), s)

pub takes_damaged : (files : Option Files) (k : Keeping) (id : ℕ) (key : List ℕ) (slice : Slice) (file offset : ℕ) → lookup (λ q. q == id) k.readers ≡ None → length k.readers < most_readers
    → files ≡ None → IsDamageOf k.schema key k.infos (stream_err.Damaged file offset) → Takes PlainStands files k (OpenRead id key slice) (replies.Refused (Damaged file offset)) files k
takes_damaged files k id key slice file offset e h none damage = λ m s.
    let damaged : IsDamageOf m.schema key m.infos (stream_err.Damaged file offset) =
    subst (λ (schema : SchemaValue). IsDamageOf schema key m.infos (stream_err.Damaged file offset)) (sym s.over.schema)
    (subst (λ (infos : List TableInfo). IsDamageOf k.schema key infos (stream_err.Damaged file offset)) (sym s.over.infos) damage) in
    (m, rw (open_none files k m id s e, few files k m s h) (inr (inr (file, offset, s.over.files ∙ none, damaged, (refl, refl)))), s)

-- ---- readers

pub takes_open : (files : Option Files) (k : Keeping) (id : ℕ) (key : List ℕ) (slice : Slice) (lines : List OutLine) (readers : Readers) → lookup (λ q. q == id) k.readers ≡ None → length k.readers < most_readers
    → ((m : State) → PlainStands files k m → IsAnswer m key slice lines) → readers ≡ k.readers ++ (id, lines) ∷ [] → Takes PlainStands files k (OpenRead id key slice) replies.Fine files (reading k readers)
takes_open files k id key slice lines readers e h answered more = λ m s.
    let said = answered m s in
    let reader : Reader = reader_with m key slice said.0 in
    let given : List (ℕ × Reader) = m.readers ++ (id, reader) ∷ [] in
    let left : rests given ≡ readers = map-append (λ (r : ℕ × Reader). (r.0, rest_of r.1)) m.readers ((id, reader) ∷ []) ∙ (λ j. s.readers j ++ (id, sym said.2 j) ∷ []) ∙ sym more in
    (record m { readers = given }, rw (open_none files k m id s e, few files k m s h) (inl (said.0, said.1, (refl, refl))), stands_reading files k m given readers left s)

pub takes_no_read : (files : Option Files) (k : Keeping) (id count : ℕ) → lookup (λ q. q == id) k.readers ≡ None → Takes PlainStands files k (Read id count) (replies.Refused NoReader) files k
takes_no_read files k id count e = λ m s. (m, rw (open_none files k m id s e) (refl, refl), s)

pub takes_read : (files : Option Files) (k : Keeping) (id count : ℕ) (rest lines : List OutLine) (more : Bool) (readers : Readers) → lookup (λ q. q == id) k.readers ≡ Some rest → lines ≡ take count rest → more ≡ nat_lt count (length rest)
    → readers ≡ set_value (λ q. q == id) k.readers (drop count rest) → Takes PlainStands files k (Read id count) (replies.Given lines more) files (reading k readers)
takes_read files k id count rest lines more readers e first left set = λ m s.
    let r = open_some files k m id rest s e in
    let past : Reader = reader_past count r.0 in
    let given : List (ℕ × Reader) = set_value (λ q. q == id) m.readers past in
    let lines_are : lines ≡ take count (rest_of r.0) = first ∙ ap (take count) (sym r.2) in
    let more_is : more ≡ nat_lt count (length (rest_of r.0)) = left ∙ ap (λ (l : List OutLine). nat_lt count (length l)) (sym r.2) in
    let reply : replies.Given lines more ≡ replies.Given (take count (rest_of r.0)) (nat_lt count (length (rest_of r.0))) = λ i. replies.Given (lines_are i) (more_is i) in
    let left_is : rest_of past ≡ drop count rest = rest_past count r.0 ∙ ap (drop count) r.2 in
    let kept : rests given ≡ readers = rests_set id m.readers past ∙ (λ i. set_value (λ q. q == id) (s.readers i) (left_is i)) ∙ sym set in
    (record m { readers = given }, rw r.1 (inl (r.0.said, inl refl, (reply, refl))), stands_reading files k m given readers kept s)

pub takes_no_close : (files : Option Files) (k : Keeping) (id : ℕ) → lookup (λ q. q == id) k.readers ≡ None → Takes PlainStands files k (Close id) (replies.Refused NoReader) files k
takes_no_close files k id e = λ m s. (m, rw (open_none files k m id s e) (refl, refl), s)

pub takes_close : (files : Option Files) (k : Keeping) (id : ℕ) (rest : List OutLine) (readers : Readers) → lookup (λ q. q == id) k.readers ≡ Some rest → readers ≡ filter (λ reader. not (reader.0 == id)) k.readers
    → Takes PlainStands files k (Close id) replies.Fine files (reading k readers)
takes_close files k id rest readers e kept = λ m s.
    let r = open_some files k m id rest s e in
    let given : List (ℕ × Reader) = filter (λ reader. not (reader.0 == id)) m.readers in
    let left : rests given ≡ readers = rests_filter id m.readers ∙ ap (filter (λ reader. not (reader.0 == id))) s.readers ∙ sym kept in
    (record m { readers = given }, rw r.1 (refl, refl), stands_reading files k m given readers left s)

-- ---- answers

changes_to-append : (key : List ℕ) (xs ys : List Write) → changes_to key (xs ++ ys) ≡ changes_to key xs ++ changes_to key ys
changes_to-append key xs ys =
    ap (map (λ (w : Write). w.change)) (filter-append (λ (w : Write). eq_by_cmp bytes_cmp w.key key) xs ys)
    ∙ map-append (λ (w : Write). w.change) (filter (λ w. eq_by_cmp bytes_cmp w.key key) xs) (filter (λ w. eq_by_cmp bytes_cmp w.key key) ys)

-- some changes and what both memtables say, joined
pub answered_with : (older later : List Write) (key : List ℕ) (slice : Slice) (lines : List OutLine) (some sealed both active all : Mutation) (changes : List Mutation) → IsJoinOf some changes
    → IsJoinOf sealed (changes_to key older) → IsJoinOf both (some ∷ sealed ∷ []) → IsJoinOf active (changes_to key later) → IsJoinOf all (both ∷ active ∷ []) → lines ≡ answer (all ∷ []) slice
    → lines ≡ answer (changes ++ changes_to key (older ++ later)) slice
answered_with older later key slice lines some sealed both active all changes is_some is_sealed is_both is_active is_all is =
    let first : IsJoinOf both (changes ++ changes_to key older) = joined_halves some sealed both changes (changes_to key older) is_some is_sealed is_both in
    let whole : IsJoinOf all ((changes ++ changes_to key older) ++ changes_to key later) = joined_halves both active all (changes ++ changes_to key older) (changes_to key later) first is_active is_all in
    let same : (changes ++ changes_to key older) ++ changes_to key later ≡ changes ++ changes_to key (older ++ later) =
    append_assoc changes (changes_to key older) (changes_to key later) ∙ ap (λ cs. changes ++ cs) (sym (changes_to-append key older later)) in
    is ∙ sym (answer-joined all (changes ++ changes_to key (older ++ later)) slice (subst (IsJoinOf all) same whole))

-- what the tables say, and the writes that stand in none
pub answered : (files : Option Files) (k : Keeping) (key : List ℕ) (slice : Slice) (lines : List OutLine) (join : Mutation) → ((m : State) → IsOver files k.schema k.infos m → (said : List Mutation) × IsSaid m key said × IsJoinOf join said)
    → ((changes : List Mutation) → IsJoinOf join changes → lines ≡ answer (changes ++ changes_to key (k.sealed ++ k.active)) slice)
    → (m : State) → PlainStands files k m → IsAnswer m key slice lines
answered files k key slice lines join said is m s =
    let all = said m s.over in
    (all.0, all.1, is all.0 all.2 ∙ ap (λ ws. answer (all.0 ++ changes_to key ws) slice) s.log)

-- a damage of what is kept inside is one of what is seen
pub damage_seen : (inside now : Keeping) (key : List ℕ) (e : StreamErr) → inside ≡ now → IsDamageOf inside.schema key inside.infos e → IsDamageOf now.schema key now.infos e
damage_seen inside now key e is damage = subst (λ (k : Keeping). IsDamageOf k.schema key k.infos e) is damage

-- ---- sealing

-- so many writes there are
pub log_length : (files : Option Files) (k : Keeping) (m : State) → PlainStands files k m → length m.log ≡ m.stored + (length k.sealed + length k.active)
log_length files k m s = writes_in_all m k.sealed k.active (stored_within files k m s) s.log

-- the writes are sealed
pub stands_sealed : (files : Option Files) (k : Keeping) (m : State) → PlainStands files k m → PlainStands files (sealed_all k) (record m { sealed = sealing m })
stands_sealed files k m s =
    let is : sealing m ≡ m.stored + length (sealed_all k).sealed = sealing_is m k.sealed k.active (stored_within files k m s) s.log s.sealed in
    record {
      over = over_sealed files k.schema k.infos m s.over;
      log = log_sealed k.sealed k.active ∙ s.log;
      sealed = is;
      whole = s.whole;
      left = s.left;
      readers = s.readers;
      budget = s.budget;
    }

-- ---- from what the program keeps inside

pub from : {files files' : Option Files} {k old k' : Keeping} (command : Command) (reply : Reply) → k ≡ old → Takes PlainStands files k command reply files' k' → Takes PlainStands files old command reply files' k'
from {files} {files'} {k} {old} {k'} command reply e t = subst (λ k. Takes PlainStands files k command reply files' k') e t

pub to_files : {files files' : Option Files} {k k' : Keeping} (command : Command) (reply : Reply) → files' ≡ files → Takes PlainStands files k command reply files k' → Takes PlainStands files k command reply files' k'
to_files {files} {files'} {k} {k'} command reply e t = subst (λ now. Takes PlainStands files k command reply now k') (sym e) t

pub stay : {files files' : Option Files} {k old : Keeping} (command : Command) (reply : Reply) → k ≡ old → Takes PlainStands files k command reply files' k → Takes PlainStands files old command reply files' old
stay {files} {files'} {k} {old} command reply e t = subst (λ k. Takes PlainStands files k command reply files' k) e t
