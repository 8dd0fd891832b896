-- A snapshot that is read by its parts, and what fills it.
--     SayThere       what writes say at a position
--     IsPartFrom     the first part from a place on
--     NoneLost       nothing was lost meanwhile
--     Answers        why a fill was answered so
use Rattle.std.specs.Prelude.{◌≡◌, ◌≢◌, ◌↔◌, ◌⊎◌, ◌^◌, ◌-◌, ℕ, ◌<◌, ◌≤◌, List, Option, Result, Ok, Err}
use Rattle.rc_cell.specs.declared.rows.Row.{Row}
use Rattle.rc_cell.specs.declared.writes.Tomb.{Tomb}
use Rattle.rc_cell.specs.Winner.{empty_row}
use Rattle.rc_position.specs.declared.positions.Pos.{Pos}
use Rattle.rc_position.specs.declared.positions.Weight.TheVariants.{After}
use Rattle.rc_position.specs.Position.{IsBefore, row_pos}
use Rattle.rc_mutation.specs.declared.mutations.Mutation.{Mutation}
use Rattle.rc_mutation.specs.Source.{source_at}
use Rattle.rc_core.specs.declared.parts.Part.{Part}
use Rattle.rc_core.specs.declared.parts.Part.TheVariants as part
use Rattle.std.specs.declared.alloc.AllocError.{AllocError}
use Rattle.rc_stream.specs.declared.fillers.Fill.{Fill}
use Rattle.rc_stream.specs.declared.fillers.Fill.TheVariants.{Filled, Skipped, NotNewest}
use Rattle.rc_stream.specs.Places.{Reaches}

-- what is at a position: the row, empty where there is none, and the range tombstone in force
abbrev pub There : Type 0
There = Row × Option Tomb

-- writes say this at a position
abbrev pub SayThere : List Mutation → Pos → There → Type 0
SayThere writes x v = source_at writes x ≡ v

-- from one position on and before another this holds of each
abbrev pub Throughout : Pos → Pos → (Pos → Type 0) → Type 0
Throughout from to P = (x : Pos) → Reaches from x → IsBefore x to → P x

-- a part ends at `to`, behind its place, at the bound or before it
abbrev pub EndsPart : Pos → Pos → Pos → Type 0
EndsPart x upto to = IsBefore x to × Reaches to upto

-- the first part from x on, up to a bound, where this is known; a row that is given is not empty
abbrev pub IsPartFrom : (Pos → There → Type 0) → Pos → Pos → Part → Type 0
IsPartFrom knows x upto (part.Row key row tomb) = IsBefore x upto × (x ≡ row_pos key) × knows x (row, tomb) × (row ≢ empty_row)
IsPartFrom knows x upto (part.Gap to tomb) = EndsPart x upto to × Throughout x to (λ y. knows y (empty_row, tomb))
IsPartFrom knows x upto (part.Missing to) = EndsPart x upto to × ((v : There) → knows x v → ⊥)
IsPartFrom knows x upto part.End = x ≡ upto

-- the place behind a part: behind a row, at the end of a gap, else as it was
abbrev pub place_behind : Result Part AllocError → Pos → Pos
place_behind (Ok (part.Row key row tomb)) x = record { prefix = key; weight = After }
place_behind (Ok (part.Gap to tomb)) x = to
place_behind (Ok (part.Missing to)) x = x
place_behind (Ok part.End) x = x
place_behind (Err e) x = x

-- the same is known before and after
abbrev pub SameKnown : (Pos → There → Type 0) → (Pos → There → Type 0) → Type 0
SameKnown knows now = (x : Pos) (v : There) → knows x v ↔ now x v

-- a count of what was lost stays at this
abbrev pub most_counted : ℕ
most_counted = 2 ^ 64 - 1

-- nothing was lost meanwhile, as the count tells while it is below its most
abbrev pub NoneLost : (before now : ℕ) → Type 0
NoneLost before now = (before ≡ now) × (now < most_counted)

-- a fill was not taken exactly where the snapshot may not be filled, and was skipped only where something was lost: the count rose, or it stays at its most
abbrev pub Answers : Fill → Type 0 → (before now : ℕ) → Type 0
Answers Filled may before now = may
Answers Skipped may before now = may × ((before < now) ⊎ (most_counted ≤ now))
Answers NotNewest may before now = may → ⊥

-- so much is owed where the snapshot may be filled and nothing was lost
abbrev pub Unlost : Type 0 → (before now : ℕ) → Type 0 → Type 0
Unlost may before now P = may → NoneLost before now → P
