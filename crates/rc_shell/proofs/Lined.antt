-- A run is one of lines that were answered, and perhaps a last line.
use Rattle.std.proofs.Common.{◌≡◌, inl, inr, ℕ, ◌+◌, ◌-◌, ◌^◌, ◌<◌, ◌≤◌, length, min, List, [], ◌∷◌, ◌++◌, Option, refl, sym, ap, subst, ◌∙◌, append_assoc, append-nil, arith}
use Rattle.std.specs.Prelude.{codes, Result, Ok}
use Rattle.std.specs.List.{concat, count_by}
use Rattle.std.specs.Io.KnownBytes.{IsAtEnd}
use Rattle.rc_outside.specs.Faults.{Rose}
use Rattle.rc_lines.specs.declared.commands.Command.{Command}
use Rattle.rc_lines.specs.declared.commands.Command.TheVariants.{SetSchema}
use Rattle.rc_lines.specs.declared.commands.Refusal.{Refusal}
use Rattle.rc_shell.specs.Lines.{last_line}
use Rattle.rc_shell.specs.calls.Feed.{IsEnded}
use Rattle.rc_shell.specs.Run.{AnswersLines, IsWhole, IsCutOff, IsTextWritten, IsNear, Due}
use Rattle.rc_shell.specs.Step.{Moment, Stage, Waiting, StoreView, LineStep, EndsRun, EndsRunAt, LeavesStore, meaning_at, start_moment, tells_fault}
use Rattle.rc_shell.specs.Holding.{OfLines, AreFirstLines, fault_of}
use Rattle.rc_shell.specs.declared.status.Status.{Status}
use Rattle.rc_shell.specs.declared.status.Status.TheVariants as statuses
use Rattle.rc_shell.specs.declared.words.Words.{Words}
use Rattle.rc_shell.specs.declared.words.Words.TheVariants.{Run, Refused}
use Rattle.rc_shell.proofs.Counted.{faults_are_counted_lem}
use Rattle.rc_shell.proofs.Near.{near_line}
use Rattle.rc_shell.proofs.Serving.{concat-append}

-- what was due, as texts of lines and perhaps a last line
pub record Pieces (words : Words) (before after : StoreView) (status : Status) (taken : List ℕ) (pieces : List (List ℕ)) : Type 0 where
  pub lines : List (List ℕ)
  pub texts : List (List ℕ)
  pub last : List ℕ
  pub end : Moment
  pub first : AreFirstLines taken lines
  pub answered : AnswersLines LineStep (start_moment words before) lines texts end
  pub are : concat pieces ≡ concat texts ++ last
  pub leaves : LeavesStore end after
  pub faults : min (before.1 + (count_by tells_fault texts + fault_of status)) (2 ^ 64 - 1) ≤ after.1

counted_further : (m b c f e a : ℕ) → min (b + c) m ≤ e → e ≤ a → f ≡ 0 → min (b + (c + f)) m ≤ a
counted_further m b c f e a few le none = omega arith

one_further : (m b c e a : ℕ) → min (b + c) m ≤ e → min (e + 1) m ≤ a → min (b + (c + 1)) m ≤ a
one_further m b c e a few rose = omega arith

fewer : (m b c f a : ℕ) → min (b + (c + f)) m ≤ a → min (b + (c + 0)) m ≤ a
fewer m b c f a few = omega arith

-- the store's count rose where its fault ended the run
store_rose : (stage : Stage) (meaning : Result Command Refusal) (last : List ℕ) (before now : ℕ) → EndsRunAt stage meaning statuses.StoreFault last before now → Rose before now
store_rose (Waiting files) (Ok (SetSchema schema)) last before now e = e.1
store_rose stage meaning last before now e = absurd e

one_last : (texts : List (List ℕ)) (last : List ℕ) → concat (texts ++ last ∷ []) ≡ concat texts ++ last
one_last texts last = concat-append texts (last ∷ []) ∙ ap (λ t. concat texts ++ t) (append-nil last)

module _ (words : Words) (before after : StoreView) (taken : List ℕ) where
  -- lines were answered
  no_fault : (status : Status) (texts lines : List (List ℕ)) (end : Moment) → fault_of status ≡ 0 → AnswersLines LineStep (start_moment words before) lines texts end → LeavesStore end after
      → min (before.1 + (count_by tells_fault texts + fault_of status)) (2 ^ 64 - 1) ≤ after.1
  no_fault status texts lines end none a l =
      counted_further (2 ^ 64 - 1) before.1 (count_by tells_fault texts) (fault_of status) end.faults after.1 (faults_are_counted_lem (start_moment words before) end lines texts a) l.1 none

  ended : (limit : ℕ) (AreLast : Type 0) (status : Status) (pieces : List (List ℕ)) (more : List ℕ) → (e : IsEnded LineStep EndsRun LeavesStore AreLast (start_moment words before) taken after status pieces more)
      → IsNear more → min (before.1 + (count_by tells_fault e.0 + fault_of status)) (2 ^ 64 - 1) ≤ after.1 → Pieces words before after status taken pieces
  ended limit AreLast status pieces more e near faults = record {
    lines = e.4.0;
    texts = e.0;
    last = e.3;
    end = e.1;
    first = (e.4.0, more, e.4.1, near, inl refl);
    answered = e.4.2;
    are = ap concat e.7 ∙ one_last e.0 e.3;
    leaves = e.6.0;
    faults = faults;
  }

of_due : (words : Words) (before after : StoreView) (limit : ℕ) (left : Option (List ℕ)) (taken : List ℕ) (status : Status) (pieces : List (List ℕ))
    → Due LineStep EndsRun LeavesStore words (start_moment words before) limit left taken after status pieces → Pieces words before after status taken pieces
of_due (Run n) before after limit left taken statuses.Done pieces d = record {
  lines = d.0 ++ last_line d.1;
  texts = pieces;
  last = [];
  end = d.2;
  first = (d.0, d.1, d.3, near_line d.1 d.4, inr refl);
  answered = d.6;
  are = sym (append-nil (concat pieces));
  leaves = d.7;
  faults = no_fault (Run n) before after taken statuses.Done pieces (d.0 ++ last_line d.1) d.2 refl d.6 d.7;
}
of_due (Run n) before after limit left taken statuses.InputFault pieces d = record {
  lines = d.3.0;
  texts = d.0;
  last = codes "! input fault\n";
  end = d.2;
  first = (d.3.0, d.1, d.3.1, near_line d.1 d.4, inl refl);
  answered = d.3.2;
  are = ap concat d.7 ∙ one_last d.0 (codes "! input fault\n");
  leaves = d.6;
  faults = no_fault (Run n) before after taken statuses.InputFault d.0 d.3.0 d.2 refl d.3.2 d.6;
}
of_due (Run n) before after limit left taken statuses.InputLimit pieces d = record {
  lines = d.3.0;
  texts = d.0;
  last = codes "! input limit\n";
  end = d.2;
  first = (d.3.0, d.1, d.3.1, near_line d.1 d.4, inl refl);
  answered = d.3.2;
  are = ap concat d.7 ∙ one_last d.0 (codes "! input limit\n");
  leaves = d.6;
  faults = no_fault (Run n) before after taken statuses.InputLimit d.0 d.3.0 d.2 refl d.3.2 d.6;
}
of_due (Run n) before after limit left taken statuses.NoMemory pieces d = record {
  lines = d.2.0;
  texts = pieces;
  last = [];
  end = d.1;
  first = (d.2.0, d.0, d.2.1, d.4, inl refl);
  answered = d.2.2;
  are = sym (append-nil (concat pieces));
  leaves = d.5;
  faults = no_fault (Run n) before after taken statuses.NoMemory pieces d.2.0 d.1 refl d.2.2 d.5;
}
of_due (Run n) before after limit left taken statuses.BadTable pieces d =
    ended (Run n) before after taken limit (IsAtEnd left × (length taken < limit)) statuses.BadTable pieces d.0 (d.1, d.2, d.3, d.4, d.5, d.6, d.7, d.8) d.10
    (no_fault (Run n) before after taken statuses.BadTable d.1 d.5.0 d.2 refl d.5.2 d.7.0)
of_due (Run n) before after limit left taken statuses.StoreFault pieces d =
    ended (Run n) before after taken limit (IsAtEnd left × (length taken < limit)) statuses.StoreFault pieces d.0 (d.1, d.2, d.3, d.4, d.5, d.6, d.7, d.8) d.10
    (one_further (2 ^ 64 - 1) before.1 (count_by tells_fault d.1) d.2.faults after.1 (faults_are_counted_lem (start_moment (Run n) before) d.2 d.5.0 d.1 d.5.2)
    (store_rose d.2.stage (meaning_at d.2.stage d.3) d.4 d.2.faults after.1 d.7.1))
of_due (Run n) before after limit left taken statuses.BadWords pieces d =
    ended (Run n) before after taken limit (IsAtEnd left × (length taken < limit)) statuses.BadWords pieces d.0 (d.1, d.2, d.3, d.4, d.5, d.6, d.7, d.8) d.10
    (no_fault (Run n) before after taken statuses.BadWords d.1 d.5.0 d.2 refl d.5.2 d.7.0)
of_due (Run n) before after limit left taken statuses.OutputFault pieces d =
    ended (Run n) before after taken limit (IsAtEnd left × (length taken < limit)) statuses.OutputFault pieces d.0 (d.1, d.2, d.3, d.4, d.5, d.6, d.7, d.8) d.10
    (no_fault (Run n) before after taken statuses.OutputFault d.1 d.5.0 d.2 refl d.5.2 d.7.0)
of_due Refused before after limit left taken statuses.BadWords pieces d = record {
  lines = [];
  texts = [];
  last = codes "! bad words\n";
  end = start_moment Refused before;
  first = ([], taken, (refl, tt), subst IsNear (sym d.0) (near_line [] tt), inl refl);
  answered = refl;
  are = ap concat d.2 ∙ append-nil (codes "! bad words\n");
  leaves = d.1;
  faults = no_fault Refused before after taken statuses.BadWords [] [] (start_moment Refused before) refl refl d.1;
}
of_due Refused before after limit left taken statuses.Done pieces d = absurd d
of_due Refused before after limit left taken statuses.InputFault pieces d = absurd d
of_due Refused before after limit left taken statuses.InputLimit pieces d = absurd d
of_due Refused before after limit left taken statuses.NoMemory pieces d = absurd d
of_due Refused before after limit left taken statuses.BadTable pieces d = absurd d
of_due Refused before after limit left taken statuses.StoreFault pieces d = absurd d
of_due Refused before after limit left taken statuses.OutputFault pieces d = absurd d

module _ (words : Words) (before after : StoreView) (limit : ℕ) (left : Option (List ℕ)) (taken : List ℕ) where
  written_whole : (status : Status) (text : List ℕ) → IsWhole (Due LineStep EndsRun LeavesStore words (start_moment words before) limit left taken after) status text → OfLines words before after status taken text
  written_whole status text w =
      let p = of_due words before after limit left taken status w.0 w.1 in
      record { lines = p.lines; texts = p.texts; last = p.last; unwritten = []; end = p.end; first = p.first; answered = p.answered; told = append-nil text ∙ w.2 ∙ p.are; leaves = p.leaves; faults = p.faults }

  written_part : (status : Status) (written text : List ℕ) → fault_of status ≡ 0 → IsCutOff (Due LineStep EndsRun LeavesStore words (start_moment words before) limit left taken after) written text → OfLines words before after status taken text
  written_part status written text none c =
      let p = of_due words before after limit left taken c.0 (c.1 ++ (written ++ c.2) ∷ []) c.3 in
      record {
        lines = p.lines;
        texts = p.texts;
        last = p.last;
        unwritten = c.2;
        end = p.end;
        first = p.first;
        answered = p.answered;
        told = ap (λ t. t ++ c.2) c.4 ∙ append_assoc (concat c.1) written c.2 ∙ sym (one_last c.1 (written ++ c.2)) ∙ p.are;
        leaves = p.leaves;
        faults = rw none (fewer (2 ^ 64 - 1) before.1 (count_by tells_fault p.texts) (fault_of c.0) after.1 p.faults);
      }

  pub of_written : (status : Status) (text : List ℕ) → IsTextWritten (Due LineStep EndsRun LeavesStore words (start_moment words before) limit left taken after) status text → OfLines words before after status taken text
  of_written statuses.OutputFault text w = written_part statuses.OutputFault w.0 text refl w.1
  of_written statuses.NoMemory text (inl w) = written_whole statuses.NoMemory text w
  of_written statuses.NoMemory text (inr w) = written_part statuses.NoMemory [] text refl w
  of_written statuses.Done text w = written_whole statuses.Done text w
  of_written statuses.BadWords text w = written_whole statuses.BadWords text w
  of_written statuses.BadTable text w = written_whole statuses.BadTable text w
  of_written statuses.InputFault text w = written_whole statuses.InputFault text w
  of_written statuses.StoreFault text w = written_whole statuses.StoreFault text w
  of_written statuses.InputLimit text w = written_whole statuses.InputLimit text w
