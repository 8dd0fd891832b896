-- What the tests of a region keep of it: the objects and the root slots that they hold are there.
use Rattle.std.specs.Prelude.{◌≡◌, List, [], ◌∷◌, length, IsSome, All, Contains, ⊤}
use Rattle.lsa_store.specs.declared.place.Ref.{Ref}
use Rattle.lsa_region.specs.declared.end.Root.{Root}
use Rattle.lsa_region.specs.declared.end.End.{End}
use Rattle.lsa_region.specs.declared.end.End.TheVariants.{Obj, Slot}
use Rattle.lsa_region.specs.Region.{View, body, slots_of, IsEnd}

-- the object of the end is there, or the root slot is
abbrev pub IsSeated : View → End → Type 0
IsSeated v (Obj r field) = IsSome (body v r)
IsSeated v (Slot root) = IsEnd v (Slot root)

-- each object and each root slot that was there is there
abbrev pub AllStaySeated : View → View → Type 0
AllStaySeated old new = (e : End) → IsSeated old e → IsSeated new e

-- each root slot that was there is there
abbrev pub AreSlotsKept : View → View → Type 0
AreSlotsKept old new = (s : Root) → IsEnd old (Slot s) → IsEnd new (Slot s)

-- each of these root slots is there
abbrev pub AreSlots : View → List Root → Type 0
AreSlots v slots = All (λ s. IsEnd v (Slot s)) slots

-- and there are no others
pub record HasSlots (v : View) (slots : List Root) : Type 0 where
  pub there : AreSlots v slots
  pub all : (slots_of v).there ≡ length slots

-- each of these objects is there, and none is named twice
abbrev pub AreSeatedOnce : View → List Ref → Type 0
AreSeatedOnce v [] = ⊤
AreSeatedOnce v (r ∷ refs) = IsSome (body v r) × (Contains refs r → ⊥) × AreSeatedOnce v refs
