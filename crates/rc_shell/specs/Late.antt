-- What the program keeps, and for which moment of a run it stands.
use Rattle.std.specs.Prelude.{◌≡◌, ℕ, ◌-◌, ◌≤◌, Option, Some, None}
use Rattle.rc_outside.specs.Files.{Files}
use Rattle.rc_lines.specs.declared.commands.Figures.{Figures}
use Rattle.rc_machine.specs.State.{State}
use Rattle.rc_shell.specs.Step.{MayBeTold, Moment, StoreView, Statistics, Waiting, Serving}

-- a budget of memory that a machine may have, in segments
abbrev pub IsBudget : ℕ → Type 0
IsBudget segments = (4 ≤ segments) × (segments ≤ 4096)

-- what a machine tells of itself, by how often the store was asked, may be told where it was asked so often, and asks are counted from where it was opened
pub record GoesBy (asked : ℕ) (told : Statistics) (figures : ℕ → Figures) : Type 0 where
  pub now : MayBeTold asked told (figures asked)
  pub asks : (n : ℕ) → (figures n).asks ≡ n - told.opened

-- before a schema line was taken, with a budget for the machine; the counts are the store's
abbrev pub WaitsAt : ℕ → StoreView → Moment → Type 0
WaitsAt segments store now = (now.stage ≡ Waiting store.0) × (now.faults ≡ store.1) × (now.asks ≡ store.2) × (now.segments ≡ segments) × IsBudget segments

-- A machine stands over a store's files for a state, in a way of its own, and tells these figures of itself.
module _ {Kept : Type 0} (Stands : Option Files → Kept → State → Type 0) (figures : Kept → ℕ → Figures) where
  -- a machine serves at a moment; the counts are the store's
  abbrev pub ServesAt : Kept → StoreView → Moment → Type 0
  ServesAt kept store now = (m : State) × Stands store.0 kept m × (now.stage ≡ Serving m) × (now.faults ≡ store.1) × (now.asks ≡ store.2) × GoesBy store.2 now.told (figures kept)

  -- What the program keeps over a store stands for a moment: nothing before a schema line was taken, then a machine.
  abbrev pub KeepsMoment : ℕ → Option Kept → StoreView → Moment → Type 0
  KeepsMoment segments None store now = WaitsAt segments store now
  KeepsMoment segments (Some kept) store now = ServesAt kept store now
