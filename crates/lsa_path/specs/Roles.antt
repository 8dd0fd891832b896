-- What each link of an object is for. A structure of several objects changes links of its own roles alone.
use Rattle.std.specs.Prelude.{ℕ, zero, suc, List, Option, Some, None}
use Rattle.lsa_kinds.specs.declared.kind.Kind.{Kind}
use Rattle.lsa_kinds.specs.declared.kind.Kind.TheVariants.{Version, RowEntry, Dummy, Static}
use Rattle.lsa_region.specs.declared.end.End.{End}
use Rattle.lsa_region.specs.declared.end.End.TheVariants.{Obj, Slot}
use Rattle.lsa_region.specs.Region.{View, body}

-- to the less or the more recently used object; to the parent of an entry, its left or its right; to the older or the newer version; of a version to its tree and its static row, and of a static row to its version
pub data Role : Type 0 where
  LessRecent : Role
  MoreRecent : Role
  Parent : Role
  Left : Role
  Right : Role
  Older : Role
  Newer : Role
  Entries : Role
  StaticRow : Role
  NoRole : Role

-- the role of each link of an entry, by its field
abbrev pub entry_role : ℕ → Role
entry_role zero = LessRecent
entry_role (suc zero) = MoreRecent
entry_role (suc (suc zero)) = Parent
entry_role (suc (suc (suc zero))) = Left
entry_role (suc (suc (suc (suc zero)))) = Right
entry_role (suc (suc (suc (suc (suc field))))) = NoRole

-- the role of each link of a version, by its field
abbrev pub version_role : ℕ → Role
version_role zero = Older
version_role (suc zero) = Newer
version_role (suc (suc zero)) = Entries
version_role (suc (suc (suc zero))) = StaticRow
version_role (suc (suc (suc (suc field)))) = NoRole

-- the role of each link of a static row, by its field
abbrev pub static_role : ℕ → Role
static_role zero = LessRecent
static_role (suc zero) = MoreRecent
static_role (suc (suc zero)) = StaticRow
static_role (suc (suc (suc field))) = NoRole

-- the role of a link of an object of a kind
abbrev pub role_of : Kind → ℕ → Role
role_of Version = version_role
role_of RowEntry = entry_role
role_of Dummy = entry_role
role_of Static = static_role

-- the role of a link of an object with this body, if there is one
abbrev pub role_in : Option (Kind × List ℕ) → ℕ → Role
role_in None field = NoRole
role_in (Some b) field = role_of b.0 field

-- the role of an end; a root slot has none
abbrev pub role_at : View → End → Role
role_at v (Obj r field) = role_in (body v r) field
role_at v (Slot root) = NoRole
