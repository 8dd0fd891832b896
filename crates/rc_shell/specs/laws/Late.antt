-- The moment for which the program stands has the files of its store, and what was asked for.
use Rattle.std.specs.Prelude.{◌≡◌, ℕ, ◌*◌, ◌≤◌, length, Option, Some, None}
use Rattle.std.specs.FinMap as map
use Rattle.std.proofs.Common.{subst, sym, ap, ◌∙◌, le_refl}
use Rattle.std.proofs.Math.Nat.{le-add_right}
use Rattle.rc_outside.specs.Files.{Files}
use Rattle.rc_machine.specs.Serving.{checks_of}
use Rattle.rc_machine.specs.Standing.{IsOver}
use Rattle.rc_machine.specs.State.{State}
use Rattle.rc_lines.specs.declared.commands.Figures.{Figures}
use Rattle.rc_folder.specs.Tabled.{Tabled}
use Rattle.rc_shell.specs.Step.{Moment, Stage, StoreView, Waiting, Serving, LeavesStore, MayHaveAsked, files_of}
use Rattle.rc_shell.specs.Late.{KeepsMoment}
use Rattle.rc_shell.specs.calls.Standing.{MayClose}

le_same : {a b : ℕ} → a ≡ b → a ≤ b
le_same {a} e = subst (λ n. a ≤ n) e (le_refl a)

-- nothing was asked for since
pub asked_nothing : (stage : Stage) (asks : ℕ) → MayHaveAsked stage asks asks
asked_nothing (Waiting None) asks = tt
asked_nothing (Waiting (Some files)) asks = le-add_right asks (checks_of (map.values files))
asked_nothing (Serving m) asks = le-add_right asks (2 * length m.infos)

asked_same : (stage : Stage) {a b : ℕ} → a ≡ b → MayHaveAsked stage a b
asked_same stage {a} e = subst (λ n. MayHaveAsked stage a n) e (asked_nothing stage a)

module _ {Kept : Type 0} (Stands : Option Files → Kept → State → Type 0) (figures : Kept → ℕ → Figures) where
  -- what stands may be closed
  pub stood_closes : (segments : ℕ) (kept : Option Kept) (store : StoreView) (now : Moment) → KeepsMoment Stands figures segments kept store now → MayClose Stands kept
  stood_closes segments None store now s = tt
  stood_closes segments (Some kept) store now s = (store.0, s.0, s.1)

module _ {Kept : Type 0} (Stands : Option Files → Kept → State → Type 0) (figures : Kept → ℕ → Figures) (folder : Kept → Tabled)
    (over : (told : Option Files) (k : Kept) (m : State) → Stands told k m → IsOver told (folder k).schema (folder k).infos m) where
  -- the moment for which the program stands has the store's files
  pub stood_leaves : (segments : ℕ) (kept : Option Kept) (store : StoreView) (now : Moment) → KeepsMoment Stands figures segments kept store now → LeavesStore now store
  stood_leaves segments None store now s = (ap files_of (sym s.0), le_same s.1, asked_same now.stage s.2)
  stood_leaves segments (Some kept) store now s = (sym (over store.0 kept s.0 s.1).files ∙ ap files_of (sym s.2), le_same s.3, asked_same now.stage s.4)
