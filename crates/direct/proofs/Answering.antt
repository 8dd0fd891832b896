-- A line is answered by a step, or by its refusal.
use Rattle.std.proofs.Common.{◌≡◌, ℕ, true, false, List, Option, Some, Result, Ok, Err, IfOk, OnErr, refl, sym, ap, subst, ◌∙◌}
use Rattle.std.specs.Prelude.{MatchBool}
use Rattle.std.proofs.lemmas.Result.{IfOk-weaker}
use Rattle.std.specs.declared.alloc.AllocError.{AllocError}
use Rattle.rc_outside.specs.Files.{Files}
use Rattle.rc_lines.specs.Grammar.{parse}
use Rattle.rc_lines.specs.declared.commands.Command.{Command}
use Rattle.rc_lines.specs.declared.commands.Refusal.{Refusal}
use Rattle.rc_lines.specs.declared.commands.Refusal.TheVariants.{BadLine}
use Rattle.rc_lines.specs.declared.commands.Reply.{Reply}
use Rattle.rc_lines.specs.declared.commands.Reply.TheVariants.{Refused}
use Rattle.rc_machine.specs.Built.{is_built}
use Rattle.rc_machine.specs.Serving.{Takes, Stops}
use Rattle.rc_machine.specs.State.{State}
use Rattle.rc_machine.specs.Steps.{Steps, Refuses}
use Rattle.rc_plain.specs.Stands.{Keeping, PlainStands}
use Rattle.direct.specs.calls.Answered.{IsCommandAnswered}

-- whatever state the program stood for, the line is answered by a reply, and it stands for the next one
abbrev pub Answers : Option Files → Keeping → List ℕ → Option Files → Keeping → Reply → Type 0
Answers files k line files' k' reply = (m : State) → PlainStands files k m → (next : State) × IsCommandAnswered m (parse (Some m.schema) line) reply next × PlainStands files' k' next

module _ (files files' : Option Files) (k k' : Keeping) (line : List ℕ) where
  -- what the line means under the state's schema, which is the program's
  means : (meaning : Result Command Refusal) → parse (Some k.schema) line ≡ meaning → (m : State) → PlainStands files k m → (reply : Reply) (next : State) → IsCommandAnswered m meaning reply next
      → IsCommandAnswered m (parse (Some m.schema) line) reply next
  means meaning p m s reply next a = subst (λ said. IsCommandAnswered m said reply next) (sym (ap (λ z. parse (Some z) line) s.over.schema ∙ p)) a

  pub by_step : (command : Command) (r : Result Reply AllocError) → parse (Some k.schema) line ≡ Ok command → is_built command ≡ true
      → IfOk r (λ reply. Takes PlainStands files k command reply files' k') → IfOk r (Answers files k line files' k')
  by_step command r p built takes = IfOk-weaker r _ _ (λ reply t m s. let d = t m s in
      (d.0, means (Ok command) p m s reply d.0 (subst (λ b. MatchBool b (Steps m command reply d.0) (Refuses m BadLine reply d.0)) (sym built) d.1), d.2)) takes

  -- it stands for some state then, whatever was answered
  pub stands_then : (command : Command) (r : Result Reply AllocError) → IfOk r (λ reply. Takes PlainStands files k command reply files' k') → OnErr r (Stops PlainStands files k command files' k')
      → (m : State) × PlainStands files k m → (m : State) × PlainStands files' k' m
  stands_then command (Ok reply) takes stops s = let d = takes s.0 s.1 in (d.0, d.2)
  stands_then command (Err e) takes stops s = let d = stops s.0 s.1 in (d.0, d.2)

pub by_bad_line : (files : Option Files) (k : Keeping) (line : List ℕ) (command : Command) → parse (Some k.schema) line ≡ Ok command → is_built command ≡ false → Answers files k line files k (Refused BadLine)
by_bad_line files k line command p built m s =
    (m, means files files k k line (Ok command) p m s (Refused BadLine) m (subst (λ b. MatchBool b (Steps m command (Refused BadLine) m) (Refuses m BadLine (Refused BadLine) m)) (sym built) (refl, refl)), s)

pub by_refusal : (files : Option Files) (k : Keeping) (line : List ℕ) (refusal : Refusal) → parse (Some k.schema) line ≡ Err refusal → Answers files k line files k (Refused refusal)
by_refusal files k line refusal p m s = (m, means files files k k line (Err refusal) p m s (Refused refusal) m (refl, refl), s)
