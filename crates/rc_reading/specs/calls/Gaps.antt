-- Where the open gap behind a position ends, by what stands in a region.
--     IsNextBehind    the next entry behind a position
--     IsGapEnd        an entry, or none, stands for the end of a gap
use Rattle.std.specs.Prelude.{◌≡◌, List, Option}
use Rattle.std.specs.Option.{MatchOption}
use Rattle.rc_position.specs.declared.positions.Pos.{Pos}
use Rattle.rc_position.specs.Position.{IsBefore}
use Rattle.lsa_store.specs.declared.place.Ref.{Ref}
use Rattle.lsa_region.specs.Region.{View}
use Rattle.rc_core.specs.declared.entries.Entry.{Entry}
use Rattle.rc_core.specs.AtPlace.{HasEntryAt}
use Rattle.rc_core.specs.Parts.{IsClear}
use Rattle.rc_object.specs.Objects.{HoldsEntry}

-- the object holds one of the entries, which is next behind the position; none is named where none of them stands behind it
abbrev pub IsNextBehind : View → Pos → List Entry → Option Ref → Type 0
IsNextBehind v x entries next = MatchOption next ((to : Pos) → IsClear x to entries) (λ r. (e : Entry) × HoldsEntry v r e × IsBefore x e.position × HasEntryAt e.position entries × IsClear x e.position entries)

-- a gap ends at the entry that the object holds; at the bound, where none is named
abbrev pub IsGapEnd : View → Pos → Option Ref → Pos → Type 0
IsGapEnd v upto end to = MatchOption end (to ≡ upto) (λ r. (e : Entry) × HoldsEntry v r e × (e.position ≡ to))
