-- The recency list: the references on the path between its two root slots, the least recent first.
use Rattle.std.specs.Prelude.{◌≢◌, List, [], ◌∷◌, Option, Some, None, IsSomeAnd, IfSome, ⊤}
use Rattle.std.specs.Option.{option_map}
use Rattle.lsa_kinds.specs.declared.kind.Kind.{Kind}
use Rattle.lsa_kinds.specs.declared.kind.Kind.TheVariants.{Version}
use Rattle.lsa_region.specs.Ref.{Ref}
use Rattle.lsa_region.specs.declared.end.End.{End}
use Rattle.lsa_region.specs.declared.end.End.TheVariants.{Obj, Slot}
use Rattle.lsa_region.specs.Region.{View, body, link_of}
use Rattle.lsa_path.specs.Path.{IsPath}
use Rattle.lsa_path.specs.Roles.{role_of, LessRecent, MoreRecent}
use Rattle.lsa_list.specs.declared.recency.List.{List as Slots}

-- the kind of an object; None where there is no such object
abbrev pub kind_of : View → Ref → Option Kind
kind_of v r = option_map (λ b. b.0) (body v r)

-- the object is there and has a link to the less recent object and one to the more recent one: any but a version has
abbrev pub HasRecency : View → Ref → Type 0
HasRecency v r = IsSomeAnd (body v r) (λ b. b.0 ≢ Version)

-- each of these objects has
abbrev pub AllHaveRecency : View → List Ref → Type 0
AllHaveRecency v [] = ⊤
AllHaveRecency v (r ∷ refs) = HasRecency v r × AllHaveRecency v refs

-- the list holds these references, the least recent first
pub record IsList (slots : Slots) (v : View) (refs : List Ref) : Type 0 where
  pub path : IsPath 0 1 (link_of v) (Slot slots.front) refs (Some (Slot slots.back))
  pub recent : AllHaveRecency v refs

-- the end is none of a recency list's links, and no root slot of this list
abbrev pub IsElsewhere : Slots → View → End → Type 0
IsElsewhere slots v (Obj r field) = IfSome (body v r) (λ b. (role_of b.0 field ≢ LessRecent) × (role_of b.0 field ≢ MoreRecent))
IsElsewhere slots v (Slot root) = (root ≢ slots.front) × (root ≢ slots.back)

-- the least recent of these references; None where there is none
abbrev pub first : List Ref → Option Ref
first [] = None
first (r ∷ refs) = Some r
