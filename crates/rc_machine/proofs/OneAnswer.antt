-- A reader gives one answer, whatever it was told anew.
use Rattle.std.proofs.Common.{◌≡◌, ◌==◌, ℕ, suc, ◌+◌, ◌-◌, ◌≤◌, MatchBool, nat_lt, length, Bool, true, false, cond, List, [], ◌∷◌, ◌++◌, take, drop, Option, Some, None, MatchOption, option_map, refl, sym, ap, subst, ◌∙◌, inl, inr, arith}
use Rattle.std.specs.Map.{lookup, set_value}
use Rattle.std.proofs.lemmas.Bool.Decides.{nat_tests}
use Rattle.rc_outside.specs.Files.{Files}
use Rattle.rc_position.specs.declared.slices.Slice.{Slice}
use Rattle.rc_mutation.specs.declared.mutations.Mutation.{Mutation}
use Rattle.rc_mutation.specs.Source.{changes_to}
use Rattle.rc_query.specs.declared.lines.OutLine.{OutLine}
use Rattle.rc_query.specs.Answer.{answer}
use Rattle.rc_tables.specs.Tables.{listing}
use Rattle.rc_lines.specs.declared.commands.Command.{Command}
use Rattle.rc_lines.specs.declared.commands.Command.TheVariants.{Nothing, SetSchema, Put, OpenRead, Read, Close, Flush, FlushBegin, FlushStep, Evict, Compact, Clean, Stats}
use Rattle.rc_lines.specs.declared.commands.Refusal.{Refusal}
use Rattle.rc_lines.specs.declared.commands.Refusal.TheVariants.{NoReader, ReaderInUse, TooManyReaders, ReadFault, Damaged}
use Rattle.rc_lines.specs.declared.commands.Reply.{Reply}
use Rattle.rc_lines.specs.declared.commands.Reply.TheVariants as replies
use Rattle.rc_machine.specs.State.{State, Reader, lines_of, rest_of, unstored_writes, reader_of}
use Rattle.rc_machine.specs.Steps.{Steps, AfterSteps, MaySay, IsSaid, IsResaid, Refuses, Opens, Gives, is_of, most_readers, reader_with, reader_past}
use Rattle.rc_machine.specs.OneAnswer.{GivesFirst, GivesAlong}
use Rattle.rc_machine.specs.laws.Changes.{Change, Reads, Writes, Seals, Begins, Stored, Goes, Ends, change_of}
use Rattle.rc_machine.specs.laws.Reading.{less, behind, more, rest_past}
use Rattle.rc_machine.proofs.Fixed.{Readers, fixed}

-- ---- readers by their ids

-- behind those of other ids stands the new one
found_last : (id : ℕ) (readers : Readers) (r : Reader) → lookup (λ k. k == id) readers ≡ None → lookup (λ k. k == id) (readers ++ (id, r) ∷ []) ≡ Some r
found_last id [] r e = rw (same_id id) refl
  where
    same_id : (n : ℕ) → (n == n) ≡ true
    same_id n = grind (arith, nat_tests)
found_last id (q ∷ qs) r e =
    elim (q.0 == id) as (λ b. cond b (Some q.1) (lookup (λ k. k == id) qs) ≡ None → cond b (Some q.1) (lookup (λ k. k == id) (qs ++ (id, r) ∷ [])) ≡ Some r) [
      | true ↦ λ f. absurd (cc)
      | false ↦ λ f. found_last id qs r f
    ] e

-- what is written to an open one is found
found_set : (id : ℕ) (readers : Readers) (r new : Reader) → lookup (λ k. k == id) readers ≡ Some r → lookup (λ k. k == id) (set_value (λ k. k == id) readers new) ≡ Some new
found_set id [] r new e = absurd (cc)
found_set id (q ∷ qs) r new e =
    elim (q.0 == id) as (λ b. (q.0 == id) ≡ b → cond b (Some q.1) (lookup (λ k. k == id) qs) ≡ Some r → lookup (λ k. k == id) (cond b ((q.0, new) ∷ qs) (q ∷ set_value (λ k. k == id) qs new)) ≡ Some new) [
      | true ↦ λ h f. ap (λ b. cond b (Some new) (lookup (λ k. k == id) qs)) h
      | false ↦ λ h f. ap (λ b. cond b (Some q.1) (lookup (λ k. k == id) (set_value (λ k. k == id) qs new))) h ∙ found_set id qs r new f
    ] refl e

-- ---- what may be said stays

untold : (files : Option Files) (put : Files → Files) → option_map put files ≡ None → files ≡ None
untold None put e = refl
untold (Some f) put e = absurd (cc)

module _ (first : State) (id : ℕ) (key : List ℕ) where
  -- the schema is that of the opening, and the folder is told if it was
  abbrev IsOfFolder : State → Type 0
  IsOfFolder m = (m.schema ≡ first.schema) × (m.files ≡ None → first.files ≡ None)

  still_of : (m command : _) (reply : Reply) (new : State) → Change m command reply new → IsOfFolder m → IsOfFolder new
  still_of m command reply new (Reads readers e none) f = subst IsOfFolder (sym e) f
  still_of m command reply new (Writes w e some) f = subst IsOfFolder (sym e) f
  still_of m command reply new (Seals idle e none) f = subst IsOfFolder (sym e) f
  still_of m command reply new (Begins parts is idle e none) f = subst IsOfFolder (sym e) (f.0, λ h. f.1 (untold m.files _ h))
  still_of m command reply new (Stored parts is idle e none) f = subst IsOfFolder (sym e) (f.0, λ h. f.1 (untold m.files _ h))
  still_of m command reply new (Goes left e none) f = subst IsOfFolder (sym e) f
  still_of m command reply new (Ends written e none) f = subst IsOfFolder (sym e) f

  -- what is said anew may have been said at the opening
  resaid : (m : State) (r : Reader) (said : List Mutation) → IsOfFolder m → r.listed ≡ listing key first.infos → IsSaid first key r.said → IsResaid m r said
      → IsSaid first key said × (take r.settled (lines_of (record r { said = said })) ≡ take r.settled (lines_of r))
  resaid m r said f n is (inl e) = (subst (IsSaid first key) (sym e) is, ap (λ told. take r.settled (lines_of (record r { said = told }))) e)
  resaid m r said f n is (inr s) =
      let may : MaySay first.schema (listing key first.infos) said = subst (λ k. MaySay first.schema k said) n (subst (λ schema. MaySay schema r.listed said) f.0 s.1) in
      (rw (f.1 s.0) may, s.2)

  -- of something that may have been said: the lines that are settled, and those that are given over steps
  abbrev GivesOn : Reader → (List OutLine → Type 0) → Type 0
  GivesOn r Follows = (said : List Mutation) × IsSaid first key said × (take r.settled (lines_of (record r { said = said })) ≡ take r.settled (lines_of r)) × Follows (rest_of (record r { said = said }))

  -- what is known of the reader in a state
  record IsOpen (m : State) (r : Reader) : Type 0 where
    folder : IsOfFolder m
    open_still : reader_of id m ≡ Some r
    listed : r.listed ≡ listing key first.infos
    said : IsSaid first key r.said

  module _ (steps : List (Command × Reply)) (m : State) (r : Reader) (reply : Reply) (next : State) (o : IsOpen m r)
      (folder : IsOfFolder next) (later : (now : Reader) → IsOpen next now → GivesOn now (GivesAlong id steps)) where
    refused : (count : ℕ) (why : Refusal) → reply ≡ replies.Refused why → next ≡ m → GivesOn r (λ lines. GivesFirst (Read id count) reply lines (GivesAlong id steps))
    refused count why e same =
        let open_next = ap (λ (s : State). reader_of id s) same ∙ o.open_still in
        let t = later r (record { folder = folder; open_still = open_next; listed = o.listed; said = o.said }) in
        (t.0, t.1, t.2, subst (λ q. GivesFirst (Read id count) q (rest_of (record r { said = t.0 })) (GivesAlong id steps)) (sym e) t.3)

    gives : (count : ℕ) → Gives m id count r reply next → GivesOn r (λ lines. GivesFirst (Read id count) reply lines (GivesAlong id steps))
    gives count (inl s) =
        let q = resaid m r s.0 o.folder o.listed o.said s.1 in
        let now : Reader = record r { said = s.0 } in
        let past : Reader = reader_past count now in
        let open_next : reader_of id next ≡ Some past = ap (λ (s : State). lookup (λ k. k == id) s.readers) s.2.1 ∙ found_set id m.readers r past o.open_still in
        let t = later past (record { folder = folder; open_still = open_next; listed = o.listed; said = q.0 }) in
        let last : Reader = record r { said = t.0 } in
        let n : ℕ = r.settled - 1 in
        let sum : n + suc count ≡ n + count + 1 = omega arith in
        let fits : r.settled ≤ n + count + 1 = omega arith in
        let agree : take r.settled (lines_of last) ≡ take r.settled (lines_of r) = less r.settled (n + count + 1) (lines_of last) (lines_of now) fits t.2 ∙ q.1 in
        let ahead : take (suc count) (rest_of last) ≡ take (suc count) (rest_of now) = behind n (suc count) (lines_of last) (lines_of now) (subst (λ k. take k (lines_of last) ≡ take k (lines_of now)) (sym sum) t.2) in
        let gave : take count (rest_of now) ≡ take count (rest_of last) = sym (less count (suc count) (rest_of last) (rest_of now) (omega arith) ahead) in
        let told : nat_lt count (length (rest_of now)) ≡ nat_lt count (length (rest_of last)) = sym (more count (rest_of last) (rest_of now) ahead) in
        let left : GivesAlong id steps (drop count (rest_of last)) = subst (GivesAlong id steps) (rest_past count last) t.3 in
        (t.0, t.1, agree, subst (λ q. GivesFirst (Read id count) q (rest_of last) (GivesAlong id steps)) (sym s.2.0) (gave, told, left))
    gives count (inr (inl s)) = refused count ReadFault s.0 s.1
    gives count (inr (inr s)) = refused count (Damaged s.0 s.1) s.4.0 s.4.1

    reads : (count : ℕ) (open_now : Option Reader) → open_now ≡ Some r → MatchOption open_now (Refuses m NoReader reply next) (λ r. Gives m id count r reply next)
        → GivesOn r (λ lines. GivesFirst (Read id count) reply lines (GivesAlong id steps))
    reads count open_now e s = gives count (subst (λ q. MatchOption q (Refuses m NoReader reply next) (λ r. Gives m id count r reply next)) e s)

    same_id : (other : ℕ) → (other == id) ≡ true → id ≡ other
    same_id other e = grind (arith, nat_tests, e)

    -- a step of the reader's own
    own : (command : Command) → is_of id command ≡ true → Steps m command reply next → GivesOn r (λ lines. GivesFirst command reply lines (GivesAlong id steps))
    own (Read other count) e s =
        subst (λ k. Steps m (Read k count) reply next → GivesOn r (λ lines. GivesFirst (Read k count) reply lines (GivesAlong id steps))) (same_id other e) (reads count (reader_of id m) o.open_still) s
    own (Close other) e s = (r.said, o.said, refl, tt)
    own Nothing e s = absurd (cc)
    own (SetSchema schema) e s = absurd (cc)
    own (Put w) e s = absurd (cc)
    own (OpenRead other k slice) e s = absurd (cc)
    own Flush e s = absurd (cc)
    own FlushBegin e s = absurd (cc)
    own (FlushStep count) e s = absurd (cc)
    own (Evict count) e s = absurd (cc)
    own (Compact count) e s = absurd (cc)
    own (Clean count) e s = absurd (cc)
    own Stats e s = absurd (cc)

  along : (steps : List (Command × Reply)) (m : State) (r : Reader) (new : State) → IsOpen m r → AfterSteps m steps new → GivesOn r (GivesAlong id steps)
  along [] m r new o a = (r.said, o.said, refl, tt)
  along (step ∷ steps) m r new o a =
      let folder = still_of m step.0 step.1 a.0 (change_of m step.0 step.1 a.0 a.1) o.folder in
      elim (is_of id step.0) as (λ b. is_of id step.0 ≡ b → GivesOn r (λ lines. MatchBool b (GivesFirst step.0 step.1 lines (GivesAlong id steps)) (GivesAlong id steps lines))) [
        | true ↦ λ e. own steps m r step.1 a.0 o folder (λ now open_now. along steps a.0 now new open_now a.2) step.0 e a.1
        | false ↦ λ e. along steps a.0 r new (record { folder = folder; open_still = fixed m id r step.0 step.1 a.0 o.open_still e a.1; listed = o.listed; said = o.said }) a.2
      ] refl

-- ---- from the opening on

not_refused : (why : Refusal) → replies.Fine ≡ replies.Refused why → ⊥
not_refused why e = absurd (cc)

module _ (m : State) (id : ℕ) (key : List ℕ) (slice : Slice) (steps : List (Command × Reply)) (opened new : State) (after : AfterSteps opened steps new) where
  abbrev Gave : Type 0
  Gave = (said : List Mutation) × IsSaid m key said × GivesAlong id steps (answer (said ++ changes_to key (unstored_writes m)) slice)

  opens : reader_of id m ≡ None → Opens m id key slice replies.Fine opened → Gave
  opens free (inl s) =
      let r : Reader = reader_with m key slice s.0 in
      let open_now : reader_of id opened ≡ Some r = ap (λ (s : State). lookup (λ k. k == id) s.readers) s.2.1 ∙ found_last id m.readers r free in
      let folder : IsOfFolder m id key opened = subst (IsOfFolder m id key) (sym s.2.1) (refl, λ e. e) in
      let t = along m id key steps opened r new (record { folder = folder; open_still = open_now; listed = refl; said = s.1 }) after in
      (t.0, t.1, t.3)
  opens free (inr (inl s)) = absurd (not_refused ReadFault s.0)
  opens free (inr (inr s)) = absurd (not_refused (Damaged s.0 s.1) s.4.0)

  tries : (r : Option Reader) (b : Bool) → reader_of id m ≡ r
      → MatchOption r (MatchBool b (Opens m id key slice replies.Fine opened) (Refuses m TooManyReaders replies.Fine opened)) (λ _. Refuses m ReaderInUse replies.Fine opened) → Gave
  tries None true free s = opens free s
  tries None false free s = absurd (not_refused TooManyReaders s.0)
  tries (Some r) b free s = absurd (not_refused ReaderInUse s.0)

-- from its opening on a reader gives the lines of one answer
pub one_answer : (m : State) (id : ℕ) (key : List ℕ) (slice : Slice) (opened : State) (steps : List (Command × Reply)) (new : State) → Steps m (OpenRead id key slice) replies.Fine opened → AfterSteps opened steps new
    → (said : List Mutation) × IsSaid m key said × GivesAlong id steps (answer (said ++ changes_to key (unstored_writes m)) slice)
one_answer m id key slice opened steps new s a = tries m id key slice steps opened new a (reader_of id m) (nat_lt (length m.readers) most_readers) refl s
