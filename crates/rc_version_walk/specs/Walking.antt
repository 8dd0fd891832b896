-- Two versions in a region, each named by a root slot, and nothing in any list.
use Rattle.std.specs.Prelude.{◌≡◌, ◌≢◌, ℕ, List, ◌∷◌, ◌++◌, Option, Some, None, IfSome}
use Rattle.lsa_store.specs.declared.place.Ref.{Ref}
use Rattle.lsa_region.specs.declared.end.End.TheVariants.{Obj, Slot}
use Rattle.lsa_region.specs.declared.end.Root.{Root}
use Rattle.lsa_region.specs.Region.{View, link_of, IsEnd}
use Rattle.rc_core.specs.declared.entries.Entry.{Entry}
use Rattle.rc_position.specs.Position.{IsBefore}
use Rattle.rc_core.specs.Version.{Version, end_position}
use Rattle.rc_object.specs.Objects.{HoldsEntry}
use Rattle.rc_version.specs.Versions.{IsVersionOf, IsUnlisted}

-- the object is some version
abbrev pub IsSomeVersion : View → Ref → Type 0
IsSomeVersion v n = (refs : List Ref) × (c : Version) × IsVersionOf v n refs c

-- the object is some entry
abbrev pub IsSomeEntry : View → Ref → Type 0
IsSomeEntry v r = (e : Entry) × HoldsEntry v r e

-- the first slot names this version and the second one that other version; no other object has a link outward
pub record IsPairOf (this other : Root) (v : View) (n m : Ref) : Type 0 where
  pub first : link_of v (Slot this) ≡ Some (Obj n 1)
  pub second : link_of v (Slot other) ≡ Some (Obj m 1)
  pub differ : n ≢ m
  pub alone : (r : Ref) → r ≢ n → r ≢ m → IsUnlisted v r
  pub free_first : link_of v (Obj n 0) ≡ None
  pub free_second : link_of v (Obj m 0) ≡ None
  pub here : IsSomeVersion v n
  pub there : IsSomeVersion v m

-- the slots name two versions
abbrev pub IsPair : Root → Root → View → Type 0
IsPair this other v = (n : Ref) × (m : Ref) × IsPairOf this other v n m

-- the first slot names nothing, and the second one this version; no other object has a link outward
pub record IsHalfOf (this other : Root) (v : View) (m : Ref) : Type 0 where
  pub slot : IsEnd v (Slot this)
  pub unset : link_of v (Slot this) ≡ None
  pub second : link_of v (Slot other) ≡ Some (Obj m 1)
  pub alone : (r : Ref) → r ≢ m → IsUnlisted v r
  pub free_second : link_of v (Obj m 0) ≡ None
  pub there : IsSomeVersion v m

-- the second slot names a version, and the first one nothing
abbrev pub IsHalf : Root → Root → View → Type 0
IsHalf this other v = (m : Ref) × IsHalfOf this other v m

-- the object is an entry of the version, if it is an object
abbrev pub IsEntryOf : View → Ref → Option Ref → Type 0
IsEntryOf v n found = IfSome found (λ e. (front : List Ref) × (back : List Ref) × (c : Version) × IsVersionOf v n (front ++ (e ∷ back)) c)

-- the slots name two versions, and the scratch space is as large as the calls need
pub record IsPairWithSpace (this other : Root) (v : View) (space : ℕ) : Type 0 where
  pub pair : IsPair this other v
  pub size : space ≡ 16384

-- the object is an entry of the version other than the end dummy, if it is an object
abbrev pub IsInnerOf : View → Ref → Option Ref → Type 0
IsInnerOf v n found = IfSome found (λ e. (front : List Ref) × (back : List Ref) × (c : Version) × IsVersionOf v n (front ++ (e ∷ back)) c × ((y : Entry) → HoldsEntry v e y → IsBefore y.position end_position))
