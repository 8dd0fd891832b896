-- Which of a flush's cases it is, and what it writes.
use Rattle.std.proofs.Common.{◌≡◌, ◌==◌, ℕ, ◌+◌, ◌-◌, ◌≤◌, Bool, true, false, MatchBool, List, ◌++◌, length, take, drop, map, Option, Some, None, nat_lt, refl, sym, ap, subst, ◌∙◌, arith}
use Rattle.std.proofs.Math.Seq.{drop-append_seam, take-append_seam, drop-drop}
use Rattle.std.proofs.lemmas.Bool.Decides.{nat_tests}
use Rattle.rc_outside.specs.Files.{Files}
use Rattle.rc_schema.specs.SchemaValue.{SchemaValue}
use Rattle.rc_mutation.specs.declared.mutations.Partition.{Partition}
use Rattle.rc_mutation.specs.declared.mutations.Write.{Write}
use Rattle.rc_mutation.specs.Fragments.{IsParts}
use Rattle.rc_tfile.specs.declared.info.TableInfo.{TableInfo}
use Rattle.rc_tfile.specs.Before.{text}
use Rattle.rc_tfile.specs.TableText.{whole_table, IsTable}
use Rattle.rc_lines.specs.declared.commands.Reply.{Reply}
use Rattle.rc_lines.specs.declared.commands.Refusal.TheVariants.{FlushInProgress, NothingToFlush, NoNumber}
use Rattle.rc_machine.specs.State.{State, numbers}
use Rattle.rc_machine.specs.Standing.{IsOver}
use Rattle.rc_machine.specs.Steps.{Flushes, IsFlushed, Stores, Refuses, next_number, last_number, sealing}
use Rattle.rc_folder.specs.Tabled.{IsNextNumber}
use Rattle.rc_folder.specs.laws.Over.{next_is}

-- no flush is in progress: which case it is, is told by what stands in no table and by the next number
pub flushes : (on : State → State) (m : State) (reply : Reply) (new : State) (a b : Bool) → m.written ≡ false → (m.stored == length m.log) ≡ a → nat_lt last_number (next_number (numbers m.tables)) ≡ b
    → MatchBool a (Refuses m NothingToFlush reply new) (MatchBool b (Refuses m NoNumber reply new) (Stores m on reply new)) → Flushes m on reply new
flushes on m reply new a b whole e f h =
    subst (λ (x : Bool). MatchBool x (Refuses m FlushInProgress reply new) (MatchBool (m.stored == length m.log) (Refuses m NothingToFlush reply new) (MatchBool (nat_lt last_number (next_number (numbers m.tables))) (Refuses m NoNumber reply new) (Stores m on reply new)))) (sym whole)
    (subst (λ (x : Bool). MatchBool x (Refuses m NothingToFlush reply new) (MatchBool (nat_lt last_number (next_number (numbers m.tables))) (Refuses m NoNumber reply new) (Stores m on reply new))) (sym e)
    (subst (λ (y : Bool). MatchBool a (Refuses m NothingToFlush reply new) (MatchBool y (Refuses m NoNumber reply new) (Stores m on reply new))) (sym f) h))

-- there is no next number
pub too_late : (told : Option Files) (schema : SchemaValue) (infos : List TableInfo) (m : State) → IsOver told schema infos m → IsNextNumber infos None → nat_lt last_number (next_number (numbers m.tables)) ≡ true
too_late told schema infos m over past =
    let next : next_number (map (λ (i : TableInfo). i.number) infos) ≡ next_number (numbers m.tables) = next_is told schema infos m _ over refl in
    grind (arith, nat_tests, past, next)

-- there is one
pub in_time : (told : Option Files) (schema : SchemaValue) (infos : List TableInfo) (m : State) (n : ℕ) → IsOver told schema infos m → IsNextNumber infos (Some n) → nat_lt last_number (next_number (numbers m.tables)) ≡ false
in_time told schema infos m n over is =
    let next : n ≡ next_number (numbers m.tables) = next_is told schema infos m n over is.0 in
    let within : n ≤ last_number = is.1 in
    grind (arith, nat_tests, within, next)

-- of the writes that stand in no table the first are sealed, up to number n, and the others stand behind them
module _ (m : State) (sealed later : List Write) (n : ℕ) (log : sealed ++ later ≡ drop m.stored m.log) (is : n ≡ m.stored + length sealed) where
  first_writes : sealed ≡ take (n - m.stored) (drop m.stored m.log)
  first_writes =
      let count : n - m.stored ≡ length sealed = omega (arith, is) in
      sym (take-append_seam sealed later) ∙ ap (λ ws. take (length sealed) ws) log ∙ ap (λ j. take j (drop m.stored m.log)) (sym count)

  pub later_writes : later ≡ drop n m.log
  later_writes =
      sym (drop-append_seam sealed later) ∙ ap (λ ws. drop (length sealed) ws) log ∙ drop-drop (length sealed) m.stored m.log ∙ ap (λ j. drop j m.log) (sym is)

-- what the sealed writes' parts make is what the flush writes
pub is_flushed : (told : Option Files) (schema : SchemaValue) (infos : List TableInfo) (m : State) (sealed later : List Write) (parts : List Partition) → IsOver told schema infos m → sealed ++ later ≡ drop m.stored m.log → sealing m ≡ m.stored + length sealed
    → IsParts parts sealed → IsTable (text (whole_table schema parts)) schema parts → IsFlushed m parts
is_flushed told schema infos m sealed later parts over log is are table = (
  subst (IsParts parts) (first_writes m sealed later (sealing m) log is) are,
  subst (λ schema. IsTable (text (whole_table schema parts)) schema parts) (sym over.schema) table,
)
