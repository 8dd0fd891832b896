-- The first part of a snapshot from a place on, by what is seen there.
use Rattle.std.specs.Prelude.{◌≡◌, ◌⊎◌, List, [], ◌∷◌}
use Rattle.rc_position.specs.declared.positions.Pos.{Pos}
use Rattle.rc_position.specs.Position.{IsBefore}
use Rattle.rc_core.specs.declared.entries.ChainKind.{ChainKind}
use Rattle.rc_core.specs.declared.entries.Entry.{Entry}
use Rattle.rc_core.specs.declared.parts.Part.{Part}
use Rattle.rc_core.specs.declared.parts.Part.TheVariants.{Row, Gap, Missing, End}
use Rattle.rc_core.specs.Version.{On, Version}
use Rattle.rc_core.specs.Chain.{content, states_at, IsBare, IsKnown}
use Rattle.rc_core.specs.AtPlace.{HasEntryAt}
use Rattle.rc_core.specs.Continuity.{EachOf}

-- no entry stands behind one position and before another
abbrev pub IsClear : Pos → Pos → List Entry → Type 0
IsClear from to [] = Unit {0}
IsClear from to (e ∷ es) = (IsBefore from e.position → IsBefore e.position to → ⊥) × IsClear from to es

-- an entry of some version stands there
abbrev pub SomeHasEntryAt : Pos → List Version → Type 0
SomeHasEntryAt x [] = ⊥
SomeHasEntryAt x (v ∷ vs) = HasEntryAt x v.entries ⊎ SomeHasEntryAt x vs

-- where the open gap behind a position ends: at the next entry of any version, or at a bound before it
pub record IsReach (versions : List Version) (x upto to : Pos) : Type 0 where
  pub ahead : IsBefore x to
  pub within : (to ≡ upto) ⊎ IsBefore to upto
  pub clear : EachOf (λ v. IsClear x to v.entries) versions
  pub stops : (to ≡ upto) ⊎ SomeHasEntryAt to versions

-- the first part from x on, up to a bound
abbrev pub IsFirstPart : ChainKind → List Version → Pos → Pos → Part → Type 0
IsFirstPart kind versions x upto (Row key row tomb) = IsBefore x upto × IsKnown kind versions x × (IsBare versions x → ⊥) × (key ≡ x.prefix) × (content (states_at (On x) versions) ≡ (row, tomb))
IsFirstPart kind versions x upto (Gap to tomb) = IsBefore x upto × IsKnown kind versions x × IsBare versions x × IsReach versions x upto to × ((content (states_at (On x) versions)).1 ≡ tomb)
IsFirstPart kind versions x upto (Missing to) = IsBefore x upto × (IsKnown kind versions x → ⊥) × IsReach versions x upto to
IsFirstPart kind versions x upto End = x ≡ upto
