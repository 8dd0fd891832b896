-- What `stats` lines go by, as the machine is opened and after a command.
use Rattle.std.proofs.Common.{◌≡◌, ◌+◌, ◌-◌, ◌^◌, ◌&&◌, ℕ, Bool, true, false, cond, not, min, nat_eq, inl, inr, Option, Some, None, IfSome, Result, Ok, Err, refl, sym, ap, subst, ◌∙◌, arith}
use Rattle.std.specs.Prelude.{if◌then◌else◌, ⊤}
use Rattle.std.specs.Option.{option_or}
use Rattle.std.proofs.Math.Nat.{min-eq_left, min-eq_right, zero-min}
use Rattle.std.proofs.lemmas.Bool.{cases_lt}
use Rattle.rc_outside.specs.Faults.{raised_count}
use Rattle.rc_lines.specs.declared.commands.Command.{Command}
use Rattle.rc_lines.specs.declared.commands.Figures.{Figures}
use Rattle.rc_lines.specs.declared.commands.Refusal.{Refusal}
use Rattle.rc_lines.specs.declared.commands.Reply.{Reply}
use Rattle.rc_machine.specs.State.{State}
use Rattle.rc_folder.specs.Counting.{AreCounted, AreFresh, NoneFell, answered_of, figures_in, is_answered}
use Rattle.rc_folder.specs.declared.counts.Answered.{Answered}
use Rattle.rc_shell.specs.Late.{GoesBy}
use Rattle.rc_shell.specs.Step.{MayBeTold, Serving, Statistics, nothing_told, told_after}

-- a line's reply tells figures that may be told, where it is one to `stats`
abbrev pub TellsFigures : Result Command Refusal → Option Reply → ℕ → Statistics → Type 0
TellsFigures (Ok command) (Some reply) asks told = IfSome (figures_in command reply) (MayBeTold asks told)
TellsFigures meaning reply asks told = ⊤

-- so for each command and each answer
pub tells-each : (meaning : Result Command Refusal) (reply : Option Reply) (asks : ℕ) (told : Statistics) → TellsFigures meaning reply asks told
    → (command : Command) (answer : Reply) → meaning ≡ Ok command → reply ≡ Some answer → IfSome (figures_in command answer) (MayBeTold asks told)
tells-each meaning reply asks told h command answer e f = subst (λ m. TellsFigures m (Some answer) asks told) e (subst (λ o. TellsFigures meaning o asks told) f h)

pub tells-one : (meaning : Result Command Refusal) (reply : Option Reply) (asks : ℕ) (told : Statistics)
    → ((command : Command) (answer : Reply) → meaning ≡ Ok command → reply ≡ Some answer → IfSome (figures_in command answer) (MayBeTold asks told)) → TellsFigures meaning reply asks told
tells-one (Ok command) (Some reply) asks told h = h command reply refl refl
tells-one (Ok command) None asks told h = tt
tells-one (Err refusal) reply asks told h = tt

pub goes-fresh : (opened : ℕ) (figures : ℕ → Figures) → AreFresh opened figures → GoesBy opened (nothing_told opened) figures
goes-fresh opened figures f = record {
  now = record { hits = f.hits ∙ sym (zero-min (2 ^ 64 - 1)); misses = f.misses ∙ sym (zero-min (2 ^ 64 - 1)); asks = f.asks opened; none_fell = tt };
  asks = f.asks;
}

-- a count that stays at its greatest value, raised by one
min-more : (most a t : ℕ) → a ≡ min t most → min (a + 1) most ≡ min (t + 1) most
min-more most a t e = elim (cases_lt t most) [
  | inl low ↦ ap (λ n. min (n + 1) most) (e ∙ min-eq_left (omega (arith, low)))
  | inr high ↦ (let is : a ≡ most = e ∙ min-eq_right high in min-eq_right (omega (arith, is)) ∙ sym (min-eq_right (omega (arith, high))))
]

more-min : (a t : ℕ) → a ≡ min t (2 ^ 64 - 1) → raised_count a ≡ min (t + 1) (2 ^ 64 - 1)
more-min a t e = min-more (2 ^ 64 - 1) a t e

-- the counts after a reply, by whether it answers and whether the store was asked for nothing
hits-counted : (answers same : Bool) (a : Answered) (t : ℕ) → a.hits ≡ min t (2 ^ 64 - 1) → (cond answers (cond same (record a { hits = raised_count a.hits }) (record a { misses = raised_count a.misses })) a).hits ≡ min (if answers && same then t + 1 else t) (2 ^ 64 - 1)
hits-counted true true a t e = more-min a.hits t e
hits-counted true false a t e = e
hits-counted false same a t e = e

misses-counted : (answers same : Bool) (a : Answered) (t : ℕ) → a.misses ≡ min t (2 ^ 64 - 1) → (cond answers (cond same (record a { hits = raised_count a.hits }) (record a { misses = raised_count a.misses })) a).misses ≡ min (if answers && not same then t + 1 else t) (2 ^ 64 - 1)
misses-counted true true a t e = e
misses-counted true false a t e = more-min a.misses t e
misses-counted false same a t e = e

fell-then : (a b c : Figures) → NoneFell a b → NoneFell b c → NoneFell a c
fell-then a b c f g = record {
  hits = let x = f.hits in let y = g.hits in omega (arith, x, y);
  misses = let x = f.misses in let y = g.misses in omega (arith, x, y);
  evicted = let x = f.evicted in let y = g.evicted in omega (arith, x, y);
  moved = let x = f.moved in let y = g.moved in omega (arith, x, y);
  skipped = let x = f.skipped in let y = g.skipped in omega (arith, x, y);
}

-- no counter is less than it was when figures were told last, these among them
last-then : (told last : Option Figures) (old new : Figures) → IfSome told (λ figures. figures ≡ old) → IfSome last (λ f. NoneFell f old) → NoneFell old new → IfSome (option_or told last) (λ f. NoneFell f new)
last-then None None old new is fell more = tt
last-then None (Some last) old new is fell more = fell-then last old new fell more
last-then (Some f) last old new is fell more = subst (λ (x : Figures). NoneFell x new) (sym is) more

pub goes-on : (before after : ℕ) (command : Command) (reply : Reply) (m : State) (told : Statistics) (old new : ℕ → Figures) → GoesBy before told old → AreCounted command reply before after old new
    → GoesBy after (told_after (Serving m) (Ok command) (Some reply) before after told) new
goes-on before after command reply m told old new g c = record {
  now = record {
    hits = ap (λ (a : Answered). a.hits) c.answered ∙ hits-counted (is_answered command reply) (nat_eq before after) (answered_of (old before)) told.hits g.now.hits;
    misses = ap (λ (a : Answered). a.misses) c.answered ∙ misses-counted (is_answered command reply) (nat_eq before after) (answered_of (old before)) told.misses g.now.misses;
    asks = c.asks after ∙ g.asks after;
    none_fell = last-then (figures_in command reply) told.last (old before) (new after) c.told g.now.none_fell c.none_fell;
  };
  asks = λ n. c.asks n ∙ g.asks n;
}

-- figures that are told may be told
told-may : (o : Option Figures) (asks : ℕ) (told : Statistics) (now : Figures) → IfSome o (λ figures. figures ≡ now) → MayBeTold asks told now → IfSome o (MayBeTold asks told)
told-may None asks told now is may = tt
told-may (Some f) asks told now is may = subst (MayBeTold asks told) (sym is) may

pub may-tell : (before : ℕ) (command : Command) (reply : Reply) (told : Statistics) (old new : ℕ → Figures) (after : ℕ) → GoesBy before told old → AreCounted command reply before after old new → TellsFigures (Ok command) (Some reply) before told
may-tell before command reply told old new after g c = told-may (figures_in command reply) before told (old before) c.told g.now
