-- A version under update, as it stands at the update's place.
--     IsSilentFrom     from a place on it says nothing, at no spot: neither at positions nor over gaps, nor at the head
--     HasItsPlace      where the place is clustered an entry stands at it; behind the place none stands but the end dummy
--     IsAtPlace        both
use Rattle.std.specs.Prelude.{◌≡◌, ◌⊎◌, List, [], ◌∷◌, None}
use Rattle.std.specs.declared.cmp.Ordering.TheVariants.{Less}
use Rattle.rc_position.specs.declared.positions.Pos.{Pos}
use Rattle.rc_position.specs.Position.{Place, Head, Static, Clustered, End, place_cmp}
use Rattle.rc_core.specs.declared.entries.Entry.{Entry}
use Rattle.rc_core.specs.SpotState.{silent}
use Rattle.rc_core.specs.Version.{Spot, Version, state_at, static_state, end_position}
use Rattle.rc_core.specs.Change.{position_of}

-- what holds of each entry
abbrev pub EachEntry : (Entry → Type 0) → List Entry → Type 0
EachEntry P [] = Unit {0}
EachEntry P (e ∷ es) = P e × EachEntry P es

-- an entry stands at a position
abbrev pub HasEntryAt : Pos → List Entry → Type 0
HasEntryAt x [] = ⊥
HasEntryAt x (e ∷ es) = (e.position ≡ x) ⊎ HasEntryAt x es

-- from a place on a version says nothing: all is Inherit, and nothing is held
pub record IsSilentFrom (p : Place) (v : Version) : Type 0 where
  pub head : (place_cmp Head p ≡ Less → ⊥) → v.pt ≡ None
  pub statics : (place_cmp Static p ≡ Less → ⊥) → static_state v ≡ silent
  pub clustered : (s : Spot) → (place_cmp (Clustered (position_of s)) p ≡ Less → ⊥) → state_at s v ≡ silent

-- an entry stands at the place, where it is clustered
abbrev pub StandsAtPlace : Place → List Entry → Type 0
StandsAtPlace Head entries = Unit {0}
StandsAtPlace Static entries = Unit {0}
StandsAtPlace (Clustered x) entries = HasEntryAt x entries
StandsAtPlace End entries = Unit {0}

-- an entry that stands behind the place is the end dummy
abbrev pub EndsBehind : Place → Entry → Type 0
EndsBehind p e = place_cmp p (Clustered e.position) ≡ Less → e.position ≡ end_position

-- an entry stands at the place, where it is clustered, and none stands behind it but the end dummy
pub record HasItsPlace (p : Place) (entries : List Entry) : Type 0 where
  pub stands : StandsAtPlace p entries
  pub last : EachEntry (EndsBehind p) entries

-- a version under update at the update's place: silent from there on, and its last inner entry marks the place
pub record IsAtPlace (p : Place) (v : Version) : Type 0 where
  pub silent : IsSilentFrom p v
  pub place : HasItsPlace p v.entries
