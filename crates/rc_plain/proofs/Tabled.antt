-- What a flush does.
use Rattle.std.proofs.Common.{◌≡◌, ◌==◌, ℕ, ◌+◌, ◌≤◌, inl, inr, true, false, List, ◌++◌, length, Option, Some, None, nat_lt, refl, sym, ap, subst, ◌∙◌, arith}
use Rattle.std.proofs.lemmas.Bool.Decides.{nat_tests}
use Rattle.rc_outside.specs.Files.{Files, IsNoFile}
use Rattle.rc_mutation.specs.declared.mutations.Partition.{Partition}
use Rattle.rc_mutation.specs.Fragments.{IsParts}
use Rattle.rc_tfile.specs.TableText.{PartsFit}
use Rattle.rc_lines.specs.declared.commands.Command.TheVariants.{Flush}
use Rattle.rc_lines.specs.declared.commands.Reply.{Reply}
use Rattle.rc_lines.specs.declared.commands.Reply.TheVariants as replies
use Rattle.rc_lines.specs.declared.commands.Refusal.TheVariants.{NothingToFlush, NoNumber, WriteFault}
use Rattle.rc_machine.specs.State.{State, numbers}
use Rattle.rc_machine.specs.Steps.{IsFlushed, next_number, last_number, sealing, with_table, without_sealed}
use Rattle.rc_machine.specs.Serving.{Takes, Stops}
use Rattle.rc_folder.specs.Tabled.{IsNextNumber}
use Rattle.rc_folder.specs.laws.Fitting.{sealed_parts_fit}
use Rattle.rc_folder.specs.laws.Flushing.{flushes, in_time, too_late, is_flushed, later_writes}
use Rattle.rc_folder.specs.laws.Over.{fresh, over_added, over_let_go}
use Rattle.rc_plain.specs.Stands.{Keeping, PlainStands}
use Rattle.rc_plain.specs.calls.Storing.{sealed_all, folder_of, IsTableKept, IsFlushKept}
use Rattle.rc_plain.proofs.Standing.{log_length, stands_sealed}

-- whether something is to be flushed
all_stored : (files : Option Files) (k : Keeping) (m : State) → PlainStands files k m → length k.sealed + length k.active ≡ 0 → (m.stored == length m.log) ≡ true
all_stored files k m s none = (let count = log_length files k m s in grind (arith, nat_tests, count, none))

some_left : (files : Option Files) (k : Keeping) (m : State) → PlainStands files k m → 1 ≤ length k.sealed + length k.active → (m.stored == length m.log) ≡ false
some_left files k m s some = (let count = log_length files k m s in grind (arith, nat_tests, count, some))

-- ---- a flush that is refused

pub takes_no_flush : (files : Option Files) (k : Keeping) → length k.sealed + length k.active ≡ 0 → Takes PlainStands files k Flush (replies.Refused NothingToFlush) files k
takes_no_flush files k none = λ m s. (m, flushes without_sealed m _ m true (nat_lt last_number (next_number (numbers m.tables))) s.whole (all_stored files k m s none) refl (refl, refl), s)

pub takes_no_number : (files : Option Files) (k : Keeping) → 1 ≤ length k.sealed + length k.active → IsNextNumber k.infos None → Takes PlainStands files k Flush (replies.Refused NoNumber) files k
takes_no_number files k some past = λ m s. (m, flushes without_sealed m _ m false true s.whole (some_left files k m s some) (too_late files k.schema k.infos m s.over past) (refl, refl), s)

-- the store failed: the writes stay sealed
pub takes_write_fault : (files files' : Option Files) (k k' : Keeping) (n : ℕ) → 1 ≤ length k.sealed + length k.active → IsNextNumber k.infos (Some n) → k' ≡ sealed_all k → files' ≡ files
    → Takes PlainStands files k Flush (replies.Refused WriteFault) files' k'
takes_write_fault files files' k k' n some is same still = λ m s.
    let sealed : State = record m { sealed = sealing m } in
    let stands : PlainStands files' k' sealed = subst (λ files. PlainStands files k' sealed) (sym still) (subst (λ k. PlainStands files k sealed) (sym same) (stands_sealed files k m s)) in
    (sealed, flushes without_sealed m _ _ false false s.whole (some_left files k m s some) (in_time files k.schema k.infos m n s.over is) (inr (refl, refl)), stands)

-- want of memory: the writes stay sealed
pub stops_sealed : (files files' : Option Files) (k k' : Keeping) → k' ≡ sealed_all k → files' ≡ files → Stops PlainStands files k Flush files' k'
stops_sealed files files' k k' same still = λ m s.
    let sealed : State = record m { sealed = sealing m } in
    (sealed, inr refl, subst (λ files. PlainStands files k' sealed) (sym still) (subst (λ k. PlainStands files k sealed) (sym same) (stands_sealed files k m s)))

-- ---- a flush that is done

-- what was written is what the state's flush writes
flushed : (files files' : Option Files) (k k' : Keeping) (m : State) (n : ℕ) (i : IsTableKept files (sealed_all k) n files' k') → PlainStands files k m → IsFlushed m i.parts
flushed files files' k k' m n i s =
    let s1 = stands_sealed files k m s in
    is_flushed files k.schema k.infos m (sealed_all k).sealed (sealed_all k).active i.parts s.over s1.log s1.sealed i.of_writes i.added.is_table

stands_stored : (files files' : Option Files) (k k' : Keeping) (m : State) (n : ℕ) (i : IsTableKept files (sealed_all k) n files' k') → PlainStands files k m → IsNextNumber k.infos (Some n) → PlainStands files' k' (without_sealed (with_table m i.parts))
stands_stored files files' k k' m n i s is =
    let s1 = stands_sealed files k m s in
    let new : State = with_table m i.parts in
    let none : length k'.sealed ≡ 0 = ap (λ (k : Keeping). length k.sealed) i.keeps in
    record {
      over = over_let_go files' k'.schema k'.infos new (over_added files files' (folder_of (sealed_all k)) (folder_of k') n m i.parts s.over is i.added i.of_writes.mutations);
      log = ap (λ (k : Keeping). k.sealed ++ k.active) i.keeps ∙ later_writes m (sealed_all k).sealed (sealed_all k).active (sealing m) s1.log s1.sealed;
      sealed = omega (arith, none);
      whole = refl;
      left = refl;
      readers = s.readers ∙ sym (ap (λ (k : Keeping). k.readers) i.keeps);
      budget = s.budget ∙ sym (ap (λ (k : Keeping). k.segments) i.keeps);
    }

-- the sealed writes stand in the next table
pub takes_stored : (files files' : Option Files) (k k' : Keeping) (n : ℕ) → 1 ≤ length k.sealed + length k.active → IsNextNumber k.infos (Some n) → IsTableKept files (sealed_all k) n files' k' → Takes PlainStands files k Flush replies.Fine files' k'
takes_stored files files' k k' n some is i = λ m s. (
  without_sealed (with_table m i.parts),
  flushes without_sealed m _ _ false false s.whole (some_left files k m s some) (in_time files k.schema k.infos m n s.over is) (inl (i.parts, flushed files files' k k' m n i s, (refl, refl))),
  stands_stored files files' k k' m n i s is,
)

-- what was answered of the table
pub takes_written : (files files' : Option Files) (k sealed k' : Keeping) (n : ℕ) (reply : Reply) → sealed ≡ sealed_all k → 1 ≤ length k.sealed + length k.active → IsNextNumber k.infos (Some n) → IsFlushKept files sealed n files' k' reply
    → Takes PlainStands files k Flush reply files' k'
takes_written files files' k sealed k' n reply e some is (inl w) =
    subst (λ reply. Takes PlainStands files k Flush reply files' k') (sym w.0) (takes_stored files files' k k' n some is (subst (λ k. IsTableKept files k n files' k') e w.1))
takes_written files files' k sealed k' n reply e some is (inr w) =
    subst (λ reply. Takes PlainStands files k Flush reply files' k') (sym w.0) (takes_write_fault files files' k k' n some is (w.1 ∙ e) w.2)

-- ---- writing the table

-- it stands once the writes are sealed
pub sealed_stands : (files : Option Files) (k sealed : Keeping) → sealed ≡ sealed_all k → (m : State) × PlainStands files k m → (m : State) × PlainStands files sealed m
sealed_stands files k sealed e stands =
    (record stands.0 { sealed = sealing stands.0 }, subst (λ k. PlainStands files k (record stands.0 { sealed = sealing stands.0 })) (sym e) (stands_sealed files k stands.0 stands.1))

-- the number is no file's
pub no_file : (files : Option Files) (k : Keeping) (n : ℕ) → (m : State) × PlainStands files k m → IsNextNumber k.infos (Some n) → IsNoFile files n
no_file files k n stands is = fresh files k.schema k.infos stands.0 n stands.1.over is

-- the parts of the sealed writes fit a table
pub parts_of_sealed : (files : Option Files) (k : Keeping) (parts : List Partition) → (m : State) × PlainStands files k m → IsParts parts k.sealed → PartsFit k.schema parts
parts_of_sealed files k parts stands are = sealed_parts_fit files k.schema k.infos stands.0 k.sealed k.active parts stands.1.over stands.1.log are
