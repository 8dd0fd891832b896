-- The open gap behind a place, as one version after another says it.
--     IsNextEntry     the entry of a version that is next behind a place
--     SaysGap         what a version says over the gap behind it, and where its next entry stands
--     over_gap        a gap with what one more version says
--     IsGapSeen       the gap as it is seen through versions
use Rattle.std.specs.Prelude.{◌≡◌, cond, List, ◌∷◌, ◌++◌, Option, Some, None}
use Rattle.std.specs.Option.{MatchOption}
use Rattle.std.specs.Ordering.{is_lt}
use Rattle.rc_cell.specs.declared.writes.Tomb.{Tomb}
use Rattle.rc_cell.specs.Greatest.{greater}
use Rattle.rc_cell.specs.Orders.{tomb_cmp}
use Rattle.rc_cell.specs.Winner.{greatest}
use Rattle.rc_position.specs.declared.positions.Pos.{Pos}
use Rattle.rc_position.specs.Position.{IsBefore, pos_cmp}
use Rattle.lsa_store.specs.declared.place.Ref.{Ref}
use Rattle.lsa_region.specs.Region.{View}
use Rattle.rc_core.specs.AtPlace.{EachEntry, HasEntryAt}
use Rattle.rc_core.specs.declared.entries.Entry.{Entry}
use Rattle.rc_core.specs.declared.entries.Flag.{Flag}
use Rattle.rc_core.specs.declared.entries.Flag.TheVariants.{Known, Unknown, Inherit}
use Rattle.rc_core.specs.declared.entries.Mark.{Mark}
use Rattle.rc_core.specs.Parts.{IsClear, IsReach}
use Rattle.rc_core.specs.SpotState.{through}
use Rattle.rc_core.specs.Chain.{states_at}
use Rattle.rc_core.specs.Version.{Behind, Version, end_position, finding_in, finding_of}
use Rattle.rc_object.specs.Objects.{HoldsEntry}
use Rattle.rc_agreement.specs.declared.gaps.GapBehind.{GapBehind}

-- an entry does not stand behind a place
abbrev pub StandsUpTo : Pos → Entry → Type 0
StandsUpTo x e = IsBefore x e.position → ⊥

-- of entries the first that stands behind a place
pub record IsFirstBehind (x : Pos) (entries : List Entry) (e : Entry) : Type 0 where
  pub before : List Entry
  pub behind : List Entry
  pub is : entries ≡ before ++ (e ∷ behind)
  pub upto : EachEntry (StandsUpTo x) before
  pub ahead : IsBefore x e.position
  pub others : EachEntry (λ f. IsBefore e.position f.position) behind

-- the object holds that one; none is named where none stands behind the place
abbrev pub IsNextEntry : View → Pos → List Entry → Option Ref → Type 0
IsNextEntry v x entries next = MatchOption next (EachEntry (StandsUpTo x) entries) (λ r. (e : Entry) × HoldsEntry v r e × IsFirstBehind x entries e)

-- an entry stands at a position behind a place, and none between them; none stands behind the place where there is none
abbrev pub IsNextAt : Pos → List Entry → Option Pos → Type 0
IsNextAt x entries next = MatchOption next ((to : Pos) → IsClear x to entries) (λ y. IsBefore x y × HasEntryAt y entries × IsClear x y entries)

-- entries say this over the gap behind a place, and the next one stands there
abbrev pub SaysGap : Pos → List Entry → Mark → Option Pos → Type 0
SaysGap x entries mark next = (finding_in (Behind x) entries ≡ finding_of mark None) × IsNextAt x entries next

-- a flag over another one, where a newer version has this one
abbrev pub flag_above : Flag → Flag → Flag
flag_above below Known = Known
flag_above below Unknown = Unknown
flag_above below Inherit = below

-- the same of tombstones
abbrev pub tomb_above : Option Tomb → Mark → Flag → Option Tomb
tomb_above below mark Known = mark.tomb
tomb_above below mark Unknown = mark.tomb
tomb_above below mark Inherit = greater tomb_cmp below mark.tomb

-- the nearer of two ends of a gap, where the second may be none
abbrev pub nearer_end : Pos → Option Pos → Pos
nearer_end to None = to
nearer_end to (Some next) = cond (is_lt (pos_cmp next to)) next to

-- a gap with what one more version says of it
abbrev pub over_gap : GapBehind → Mark → Option Pos → GapBehind
over_gap below mark next = record { flag = flag_above below.flag mark.flag; tomb = tomb_above below.tomb mark mark.flag; to = nearer_end below.to next }

-- a gap with what a version says of it
abbrev pub IsLaidOver : Pos → Version → GapBehind → GapBehind → Type 0
IsLaidOver x v below now = (mark : Mark) × (next : Option Pos) × SaysGap x v.entries mark next × (now ≡ over_gap below mark next)

-- the gap behind a place as versions say it, seen through one another: its flag, the greatest of its tombstones, and its end
pub record IsGapSeen (versions : List Version) (x : Pos) (gap : GapBehind) : Type 0 where
  pub flag : gap.flag ≡ (through (states_at (Behind x) versions)).flag
  pub tomb : gap.tomb ≡ greatest tomb_cmp (through (states_at (Behind x) versions)).tombs
  pub reach : IsReach versions x end_position gap.to
