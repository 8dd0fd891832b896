-- A reader in one of its two forms.
--     ByForm             what holds of a reader over the row cache, and of one past it
--     held_by            the snapshots that it holds
--     IsFormKept             in which form it is after a page
--     lines_gone_past    what is left to it once it is past the row cache
use Rattle.std.specs.Prelude.{◌≡◌, ⊤, List, None, IsSome, Result, Ok, Err}
use Rattle.rc_mutation.specs.declared.mutations.Mutation.{Mutation}
use Rattle.rc_query.specs.declared.lines.OutLine.{OutLine}
use Rattle.rc_opened.specs.declared.behind.OpenedBehind.{OpenedBehind}
use Rattle.rc_opened.specs.Opened.{snaps_of}
use Rattle.rc_paging.specs.declared.forms.PartReader.{PartReader}
use Rattle.rc_paging.specs.declared.forms.PartReader.TheVariants.{Cached, Past}
use Rattle.rc_paging.specs.declared.layers.HeldSnaps.{HeldSnaps}
use Rattle.rc_paging.specs.declared.pages.OpenReader.{OpenReader}
use Rattle.rc_paging.specs.declared.pages.PageErr.{PageErr}
use Rattle.rc_paging.specs.Past.{lines_past}

-- this holds of a reader over the row cache; and that of one past it
abbrev pub ByForm : (OpenReader → Type 0) → (OpenedBehind → Type 0) → PartReader → Type 0
ByForm P Q (Cached o) = P o
ByForm P Q (Past o) = Q o

-- the snapshots that it holds
abbrev pub held_by : PartReader → HeldSnaps
held_by (Cached o) = o.held
held_by (Past o) = record { cached = None; written = snaps_of o.opened }

-- after a page a reader is in the form in which it was; over the row cache it holds the same, and was told of a line, or that there is none, where the page was given; else it was told what it was told
abbrev pub IsFormKept : {T : Type 0} → Result T PageErr → PartReader → PartReader → Type 0
IsFormKept (Ok gave) (Cached o) (Cached n) = (n.held ≡ o.held) × IsSome n.behind
IsFormKept (Err e) (Cached o) (Cached n) = (n.held ≡ o.held) × (n.behind ≡ o.behind)
IsFormKept result (Past o) (Past n) = ⊤
IsFormKept result old new = ⊥

-- the lines that are left to a reader once it is past the row cache, where the tables said this and say that now: where it is past it already, those that were left
abbrev pub lines_gone_past : List Mutation → Mutation → List Mutation → PartReader → List OutLine → List OutLine
lines_gone_past below read written (Cached o) lines = lines_past below read written o.behind o.remainder.slice
lines_gone_past below read written (Past o) lines = lines
