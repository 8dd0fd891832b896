-- What the store is asked for over lines.
use Rattle.std.proofs.Common.{◌≡◌, ℕ, ◌+◌, ◌-◌, ◌≤◌, List, [], ◌∷◌, Some, None, sym, subst, le_refl, arith}
use Rattle.rc_shell.specs.Run.{AnswersLines}
use Rattle.rc_shell.specs.Holding.{OfLines}
use Rattle.rc_shell.specs.Step.{Moment, Stage, StoreView, Waiting, Serving, LineStep, MayHaveAsked, start_moment}
use Rattle.rc_shell.specs.declared.status.Status.{Status}
use Rattle.rc_shell.specs.declared.words.Words.{Words}

-- so many were asked for, and at most so many might be
abbrev pub IsBounded : Moment → Moment → Type 0
IsBounded old new = (old.bound ≤ new.bound) × (new.asks ≤ old.asks + (new.bound - old.bound))

further : (b ob mb nb oa ma na : ℕ) → mb ≡ ob + b → ma ≤ oa + b → mb ≤ nb → na ≤ ma + (nb - mb) → (ob ≤ nb) × (na ≤ oa + (nb - ob))
further b ob mb nb oa ma na e first le rest = (omega arith, omega arith)

asked : (old new : Moment) (lines texts : List (List ℕ)) → AnswersLines LineStep old lines texts new → IsBounded old new
asked old new [] [] a = subst (λ m. IsBounded old m) (sym a) (le_refl old.bound, omega arith)
asked old new (line ∷ lines) (text ∷ texts) a =
    let rest = asked a.0 new lines texts a.2 in
    further a.1.asks.0 old.bound a.0.bound new.bound old.asks a.0.asks new.asks a.1.asks.2 a.1.asks.3 rest.0 rest.1
asked old new [] (text ∷ texts) a = absurd a
asked old new (line ∷ lines) [] a = absurd a

-- what was asked for before and may have been asked for since
further_asked : (stage : Stage) (start end bound now : ℕ) → end ≤ start + bound → MayHaveAsked stage end now → MayHaveAsked stage (start + bound) now
further_asked (Waiting None) start end bound now few may = tt
further_asked (Waiting (Some files)) start end bound now few may = omega (arith, few, may)
further_asked (Serving m) start end bound now few may = omega (arith, few, may)

none_before : (a b n : ℕ) → n ≤ a + (b - 0) → n ≤ a + b
none_before a b n le = omega (arith, le)

-- so of a run
pub asked_of_run : (words : Words) (before after : StoreView) (status : Status) (taken written : List ℕ) (l : OfLines words before after status taken written)
    → MayHaveAsked l.end.stage (before.2 + l.end.bound) after.2
asked_of_run words before after status taken written l =
    further_asked l.end.stage before.2 l.end.asks l.end.bound after.2 (none_before before.2 l.end.bound l.end.asks (asked (start_moment words before) l.end l.lines l.texts l.answered).1) l.leaves.2
