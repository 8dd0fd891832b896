-- What was told last over lines.
use Rattle.std.proofs.Common.{◌≡◌, ◌+◌, ◌-◌, ◌^◌, ◌≤◌, ◌&&◌, ℕ, suc, Bool, true, false, not, nat_eq, List, [], ◌∷◌, length, Option, Some, None, IfSome, Result, Ok, Err, refl, sym, ap, subst, ◌∙◌, arith}
use Rattle.std.specs.Prelude.{if◌then◌else◌}
use Rattle.std.specs.Option.{option_or}
use Rattle.std.proofs.Math.Nat.{min-le_left}
use Rattle.rc_lines.specs.declared.commands.Command.{Command}
use Rattle.rc_lines.specs.declared.commands.Command.TheVariants.{Nothing, SetSchema, Put, OpenRead, Read, Close, Flush, FlushBegin, FlushStep, Evict, Compact, Clean, Stats}
use Rattle.rc_lines.specs.declared.commands.Figures.{Figures}
use Rattle.rc_lines.specs.declared.commands.Refusal.{Refusal}
use Rattle.rc_lines.specs.declared.commands.Reply.{Reply}
use Rattle.rc_machine.specs.State.{State}
use Rattle.rc_machine.specs.Steps.{Steps}
use Rattle.rc_machine.specs.laws.Changes.{Change, Reads, Writes, Seals, Begins, Stored, Goes, Ends, change_of}
use Rattle.rc_folder.specs.Counting.{figures_in, is_answered}
use Rattle.rc_shell.specs.Holding.{IsWithinBounds, OfLines}
use Rattle.rc_shell.specs.Run.{AnswersLines}
use Rattle.rc_shell.proofs.Figured.{TellsFigures, tells-one}
use Rattle.rc_shell.specs.Step.{LineStep, MayBeTold, Moment, Stage, StageStep, StoreView, Statistics, Waiting, Serving, meaning_at, start_moment, told_after}
use Rattle.rc_shell.specs.Words.{segments_of}
use Rattle.rc_shell.specs.declared.status.Status.{Status}
use Rattle.rc_shell.specs.declared.words.Words.{Words}

-- ---- the budget

-- the machine has the run's
HasBudget : ℕ → Stage → Type 0
HasBudget segments (Waiting files) = Unit {0}
HasBudget segments (Serving m) = m.segments ≡ segments

segments_stay : (m : State) (command : Command) (reply : Reply) (new : State) → Change m command reply new → new.segments ≡ m.segments
segments_stay m command reply new (Reads readers e none) = ap (λ (s : State). s.segments) e
segments_stay m command reply new (Writes w e some) = ap (λ (s : State). s.segments) e
segments_stay m command reply new (Seals idle e none) = ap (λ (s : State). s.segments) e
segments_stay m command reply new (Begins parts is idle e none) = ap (λ (s : State). s.segments) e
segments_stay m command reply new (Stored parts is idle e none) = ap (λ (s : State). s.segments) e
segments_stay m command reply new (Goes left e none) = ap (λ (s : State). s.segments) e
segments_stay m command reply new (Ends written e none) = ap (λ (s : State). s.segments) e

-- figures that a step tells make it
IsBudgetOf : State → Figures → Type 0
IsBudgetOf m f = f.segments + f.free ≡ m.segments

told_budget : (m : State) (command : Command) (reply : Reply) (new : State) → Steps m command reply new → IfSome (figures_in command reply) (IsBudgetOf m)
unfolding IsBudgetOf
told_budget m Nothing reply new s = tt
told_budget m (SetSchema schema) reply new s = tt
told_budget m (Put w) reply new s = tt
told_budget m (OpenRead id key slice) reply new s = tt
told_budget m (Read id count) reply new s = tt
told_budget m (Close id) reply new s = tt
told_budget m Flush reply new s = tt
told_budget m FlushBegin reply new s = tt
told_budget m (FlushStep count) reply new s = tt
told_budget m (Evict count) reply new s = tt
told_budget m (Compact count) reply new s = tt
told_budget m (Clean count) reply new s = tt
told_budget m Stats reply new s = subst (λ r. IfSome (figures_in Stats r) (λ f. f.segments + f.free ≡ m.segments)) (sym s.2) s.1

-- ---- what is told

-- over so many lines, where the store was asked so often
record IsToldWell (n segments bound asked : ℕ) (told : Statistics) : Type 0 where
  within : asked ≤ told.opened + bound
  count : told.hits + told.misses ≤ n
  last : IfSome told.last (IsWithinBounds n segments bound)

telling_more : (n segments bound more : ℕ) (o : Option Figures) → IfSome o (IsWithinBounds n segments bound) → IfSome o (IsWithinBounds (suc n) segments (bound + more))
telling_more n segments bound more None h = tt
telling_more n segments bound more (Some f) h = record { budget = h.budget; answers = let a = h.answers in omega (arith, a); asks = let a = h.asks in omega (arith, a) }

-- nothing is counted
same_told : (n segments bound more asked asked' : ℕ) (told : Statistics) → asked' ≤ asked + more → IsToldWell n segments bound asked told → IsToldWell (suc n) segments (bound + more) asked' told
same_told n segments bound more asked asked' told few h = record {
  within = let a = h.within in omega (arith, a, few);
  count = let a = h.count in omega (arith, a);
  last = telling_more n segments bound more told.last h.last;
}

one-more : (answers same : Bool) (h m n : ℕ) → h + m ≤ n → (if answers && same then h + 1 else h) + (if answers && not same then m + 1 else m) ≤ suc n
one-more true true h m n le = omega (arith, le)
one-more true false h m n le = omega (arith, le)
one-more false same h m n le = omega (arith, le)

-- what may be told is within
may_within : (n segments bound asked : ℕ) (told : Statistics) (f : Figures) → IsToldWell n segments bound asked told → MayBeTold asked told f → f.segments + f.free ≡ segments → IsWithinBounds n segments bound f
may_within n segments bound asked told f h may budget = record {
  budget = budget;
  answers = let a = h.count in let x = may.hits in let y = may.misses in let i = min-le_left told.hits (2 ^ 64 - 1) in let j = min-le_left told.misses (2 ^ 64 - 1) in omega (arith, a, x, y, i, j);
  asks = let a = h.within in let x = may.asks in omega (arith, a, x);
}

last_within : (n segments bound asked : ℕ) (told : Statistics) (m : State) (o : Option Figures) → m.segments ≡ segments → IsToldWell n segments bound asked told → IfSome o (MayBeTold asked told) → IfSome o (IsBudgetOf m) → IfSome (option_or o told.last) (IsWithinBounds n segments bound)
unfolding IsBudgetOf
last_within n segments bound asked told m None is h may budget = h.last
last_within n segments bound asked told m (Some f) is h may budget = may_within n segments bound asked told f h may (budget ∙ is)

module _ (n segments bound more asked asked' : ℕ) (told : Statistics) (few : asked' ≤ asked + more) (h : IsToldWell n segments bound asked told) where
  -- so after a line
  IsAfter : Stage → Statistics → Type 0
  IsAfter stage now = HasBudget segments stage × IsToldWell (suc n) segments (bound + more) asked' now

  stays : (stage stage' : Stage) → stage' ≡ stage → HasBudget segments stage → IsAfter stage' told
  unfolding IsAfter
  stays stage stage' e b = (subst (HasBudget segments) (sym e) b, same_told n segments bound more asked asked' told few h)

  after_line : (stage stage' : Stage) (meaning : Result Command Refusal) (reply : Option Reply) (text : List ℕ) → StageStep segments stage meaning reply text stage' → TellsFigures meaning reply asked told → HasBudget segments stage
      → IsAfter stage' (told_after stage meaning reply asked asked' told)
  unfolding IsAfter HasBudget
  after_line (Waiting files) stage' (Ok Nothing) reply text s tells b = stays (Waiting files) stage' s.1 b
  after_line (Waiting files) stage' (Ok (SetSchema schema)) reply text s tells b = (subst (HasBudget segments) (sym s.5) refl, record { within = omega arith; count = omega arith; last = tt })
  after_line (Waiting files) stage' (Err refusal) reply text s tells b = stays (Waiting files) stage' s.1 b
  after_line (Waiting files) stage' (Ok command) reply text s tells b = absurd s
  after_line (Serving m) stage' (Ok command) (Some reply) text s tells b = (
    subst (HasBudget segments) (sym s.3) (segments_stay m command reply s.0 (change_of m command reply s.0 s.1) ∙ b),
    record {
      within = let a = h.within in omega (arith, a, few);
      count = one-more (is_answered command reply) (nat_eq asked asked') told.hits told.misses n h.count;
      last = telling_more n segments bound more (option_or (figures_in command reply) told.last) (last_within n segments bound asked told m (figures_in command reply) b h tells (told_budget m command reply s.0 s.1));
    },
  )
  after_line (Serving m) stage' (Ok command) None text s tells b = absurd s
  after_line (Serving m) stage' (Err refusal) reply text s tells b = stays (Serving m) stage' s.1 b

-- at a moment, over so many lines
IsMomentOf : ℕ → Moment → Type 0
IsMomentOf n now = HasBudget now.segments now.stage × IsToldWell n now.segments now.bound now.asks now.told

line_after : (n : ℕ) (old new : Moment) (line text : List ℕ) → LineStep old line text new → IsMomentOf n old → IsMomentOf (suc n) new
unfolding IsMomentOf IsAfter
line_after n old new line text s h =
    let a = after_line n old.segments old.bound s.asks.0 old.asks new.asks old.told s.asks.3 h.1 old.stage new.stage (meaning_at old.stage line) s.reply text s.stage (tells-one (meaning_at old.stage line) s.reply old.asks old.told s.figures) h.0 in
    let told = subst (λ t. IsToldWell (suc n) old.segments (old.bound + s.asks.0) new.asks t) (sym s.told) a.1 in
    let bound = subst (λ b. IsToldWell (suc n) old.segments b new.asks new.told) (sym s.asks.2) told in
    (subst (λ k. HasBudget k new.stage) (sym s.segments) a.0, subst (λ k. IsToldWell (suc n) k new.bound new.asks new.told) (sym s.segments) bound)

lines_after : (n : ℕ) (old new : Moment) (lines texts : List (List ℕ)) → AnswersLines LineStep old lines texts new → IsMomentOf n old → IsMomentOf (n + length lines) new × (new.segments ≡ old.segments)
lines_after n old new [] [] a h = (subst (λ k. IsMomentOf k new) (let e : n ≡ n + 0 = omega arith in e) (subst (IsMomentOf n) (sym a) h), ap (λ (m : Moment). m.segments) a)
lines_after n old new (line ∷ lines) (text ∷ texts) a h =
    let r = lines_after (suc n) a.0 new lines texts a.2 (line_after n old a.0 line text a.1 h) in
    (subst (λ k. IsMomentOf k new) (let e : suc n + length lines ≡ n + suc (length lines) = omega arith in e) r.0, r.1 ∙ a.1.segments)
lines_after n old new [] (text ∷ texts) a h = absurd a
lines_after n old new (line ∷ lines) [] a h = absurd a

pub told_within : (words : Words) (before after : StoreView) (status : Status) (taken written : List ℕ) (l : OfLines words before after status taken written)
    → IfSome l.end.told.last (IsWithinBounds (length l.lines) (segments_of words) l.end.bound)
unfolding IsMomentOf HasBudget
told_within words before after status taken written l =
    let r = lines_after 0 (start_moment words before) l.end l.lines l.texts l.answered (tt, record { within = omega arith; count = omega arith; last = tt }) in
    let e : 0 + length l.lines ≡ length l.lines = omega arith in
    subst (λ k. IfSome l.end.told.last (IsWithinBounds (length l.lines) k l.end.bound)) r.1 (subst (λ n. IfSome l.end.told.last (IsWithinBounds n l.end.segments l.end.bound)) e r.0.1.last)
