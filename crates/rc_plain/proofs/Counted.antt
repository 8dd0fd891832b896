-- What the plain program counts and tells.
use Rattle.std.proofs.Common.{◌≡◌, ◌-◌, ◌≤◌, ℕ, Option, Result, Ok, Err, IfOk, IfSome, ap, subst, ◌∙◌, arith}
use Rattle.rc_outside.specs.Files.{Files}
use Rattle.rc_lines.specs.declared.commands.Command.{Command}
use Rattle.rc_lines.specs.declared.commands.Reply.{Reply}
use Rattle.rc_machine.specs.State.{State}
use Rattle.rc_folder.specs.Counting.{AreCounted, counted_answer, figures_in}
use Rattle.rc_folder.specs.declared.counts.Answered.{Answered}
use Rattle.rc_plain.specs.Stands.{Keeping, PlainStands, plain_figures}
use Rattle.rc_plain.specs.calls.Counting.{AreSameCounts}

pub if-ok-all : {A E : Type 0} (r : Result A E) (Q : A → Type 0) → ((x : A) → Q x) → IfOk r Q
if-ok-all (Ok x) Q all = all x
if-ok-all (Err e) Q all = tt

-- it stands for the same state whatever is counted
pub stands-counted : (files : Option Files) (k : Keeping) (m : State) (a : Answered) → PlainStands files k m → PlainStands files (record k { answered = a }) m
stands-counted files k m a s = record { over = s.over; log = s.log; sealed = s.sealed; whole = s.whole; left = s.left; readers = s.readers; budget = s.budget }

-- an answer is counted behind a step
pub are-counted : (command : Command) (reply : Reply) (before after : ℕ) (k mid : Keeping) (a : Answered) → AreSameCounts k mid → a ≡ counted_answer command reply before after mid.answered → mid.answered.hits ≤ a.hits → mid.answered.misses ≤ a.misses →
    IfSome (figures_in command reply) (λ figures. figures ≡ plain_figures k before) → AreCounted command reply before after (plain_figures k) (plain_figures (record mid { answered = a }))
are-counted command reply before after k mid a same is hits misses told = record {
  answered = is ∙ ap (counted_answer command reply before after) same.answered;
  none_fell = record {
    hits = subst (λ (x : Answered). x.hits ≤ a.hits) same.answered hits;
    misses = subst (λ (x : Answered). x.misses ≤ a.misses) same.answered misses;
    evicted = omega arith;
    moved = omega arith;
    skipped = omega arith;
  };
  asks = λ n. ap (λ m. n - m) same.asked;
  told = told;
}
