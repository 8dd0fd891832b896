-- The front of a line that is held is answered, and what it is answered is pushed.
use Rattle.std.proofs.Common.{◌≡◌, ◌⊎◌, ℕ, List, [], ◌++◌, inl, inr, Option, Some, None, Result, Ok, Err, refl, ap, subst, ◌∙◌}
use Rattle.rc_shell.specs.calls.Feed.{Answered, PushedText, PushedEnding, PushedAnswer, ServedLine, kept_front}
use Rattle.rc_shell.specs.Status.{status_at}
use Rattle.rc_shell.specs.calls.Status.{stop_by}
use Rattle.rc_lines.specs.laws.{long_lines_are_cut}
use Rattle.rc_machine.specs.Built.{served_meaning}
use Rattle.rc_shell.specs.Step.{Moment, Stage, Waiting, Serving, StoreView, LineStep, StageStep, MayAsk, EndsRun, EndsRunAt, LeavesStore, meaning_at, told_after}
use Rattle.rc_shell.specs.declared.status.Status.{Status}
use Rattle.rc_shell.specs.declared.status.Ending.{Ending}
use Rattle.rc_shell.specs.declared.status.Stop.{Stop}
use Rattle.rc_shell.specs.declared.status.Stop.TheVariants.{NoMemory, OutputFault, Ended}
use Rattle.rc_shell.proofs.Serving.{served, ended, unserved}

-- the front of a line that is kept means what the line means
front_means : (stage : Stage) (line : List ℕ) → meaning_at stage (kept_front line) ≡ meaning_at stage line
unfolding kept_front
front_means (Waiting files) line = ap served_meaning (long_lines_are_cut None line)
front_means (Serving m) line = ap served_meaning (long_lines_are_cut (Some m.schema) line)

-- it decides what the line is answered
front_decides : (old new : Moment) (line text : List ℕ) → LineStep old (kept_front line) text new → LineStep old line text new
front_decides old new line text s = record {
  reply = s.reply;
  stage = subst (λ meaning. StageStep old.segments old.stage meaning s.reply text new.stage) (front_means old.stage line) s.stage;
  counts = s.counts;
  asks = (s.asks.0, subst (λ meaning. MayAsk old.stage meaning s.asks.0) (front_means old.stage line) s.asks.1, s.asks.2, s.asks.3);
  segments = s.segments;
  told = subst (λ meaning. new.told ≡ told_after old.stage meaning s.reply old.asks new.asks old.told) (front_means old.stage line) s.told;
  figures = λ command answer e f. s.figures command answer (front_means old.stage line ∙ e) f;
}

-- and whether it ends the run
front_ends : (old : Moment) (line : List ℕ) (status : Status) (last : List ℕ) (store : StoreView) → EndsRun old (kept_front line) status last store → EndsRun old line status last store
front_ends old line status last store e = (e.0, subst (λ meaning. EndsRunAt old.stage meaning status last old.faults store.1) (front_means old.stage line) e.1)

-- what was pushed is the text, which stands behind nothing
pushed_is : (empty items pushed text : List ℕ) → empty ≡ [] → pushed ≡ items → items ≡ empty ++ text → pushed ≡ text
pushed_is empty items pushed text none is e = is ∙ e ∙ ap (λ t. t ++ text) none

pub held_answered : (old : Moment) (line front : List ℕ) (At : Moment → Type 0) (after : StoreView) (empty items pushed : List ℕ) (ending : Option Ending)
    (before now : Option (List ℕ)) (f f' : ℕ) (r : Result Unit Stop)
    → front ≡ kept_front line → empty ≡ [] → pushed ≡ items → ((m : Moment) → At m → LeavesStore m after)
    → Answered LineStep EndsRun LeavesStore old front At after empty items (Ok ending) → PushedAnswer ending before now f f' pushed r
    → ServedLine LineStep EndsRun LeavesStore old line At after before now f f' r
held_answered old line front At after empty items pushed None before now f f' r is none same leaves a p =
    let text : pushed ≡ a.0 = pushed_is empty items pushed a.0 none same a.4 in
    served LineStep EndsRun LeavesStore old a.1 line a.0 At after before now f f' r
    (front_decides old a.1 line a.0 (subst (λ l. LineStep old l a.0 a.1) is a.2)) a.3 (leaves a.1 a.3) (subst (λ t. PushedText before now f f' t r) text p)
held_answered old line front At after empty items pushed (Some ending) before now f f' (Err stop) is none same leaves a p =
    let text : pushed ≡ a.0 = pushed_is empty items pushed a.0 none same a.2 in
    ended LineStep EndsRun LeavesStore old line a.0 At after ending before now f f' stop
    (front_ends old line (status_at ending) a.0 after (subst (λ l. EndsRun old l (status_at ending) a.0 after) is a.1)) (subst (λ t. PushedEnding ending before now f f' t stop) text p)
held_answered old line front At after empty items pushed (Some ending) before now f f' (Ok u) is none same leaves a p = absurd p

pub held_unserved : (old : Moment) (line front : List ℕ) (At : Moment → Type 0) (after : StoreView) (before : Option (List ℕ)) (f : ℕ)
    → front ≡ kept_front line → (LeavesStore old after ⊎ ((text : List ℕ) × (new : Moment) × LineStep old front text new × LeavesStore new after))
    → ServedLine LineStep EndsRun LeavesStore old line At after before before f f (Err NoMemory)
held_unserved old line front At after before f is (inl leaves) = unserved LineStep EndsRun LeavesStore old line At after before f (inl leaves)
held_unserved old line front At after before f is (inr s) =
    unserved LineStep EndsRun LeavesStore old line At after before f (inr (s.0, s.1, front_decides old s.1 line s.0 (subst (λ l. LineStep old l s.0 s.1) is s.2), s.3))

-- the text or the last line was pushed as a text
pub pushed_answer : (ending : Ending) (before now : Option (List ℕ)) (f f' : ℕ) (text : List ℕ) (r : Result Unit Stop) → PushedText before now f f' text r
    → PushedEnding ending before now f f' text (stop_by r ending)
pushed_answer ending before now f f' text (Ok u) p = (refl, p.0, p.1)
pushed_answer ending before now f f' text (Err OutputFault) p = p
pushed_answer ending before now f f' text (Err NoMemory) p = p
pushed_answer ending before now f f' text (Err (Ended other)) p = absurd p
