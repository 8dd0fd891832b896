-- Paths along links, over any way in which ends name ends. A path enters each object by its link toward the start, and leaves it by its link onward.
use Rattle.std.specs.Prelude.{◌≡◌, ◌≢◌, ℕ, zero, suc, nat_eq, cond, List, [], ◌∷◌, Option, Some, None, IsSome, ⊤}
use Rattle.lsa_region.specs.Ref.{Ref}
use Rattle.lsa_region.specs.declared.end.End.{End}
use Rattle.lsa_region.specs.declared.end.End.TheVariants.{Obj, Slot}
use Rattle.lsa_region.specs.Ends.{swapped_end}
use Rattle.lsa_region.specs.Region.{View, body}

-- from this end the links lead through these objects to the finish: an end, or nothing
abbrev pub IsPath : ℕ → ℕ → (End → Option End) → End → List Ref → Option End → Type 0
IsPath toward onward named a [] finish = named a ≡ finish
IsPath toward onward named a (r ∷ refs) finish = (named a ≡ Some (Obj r toward)) × IsPath toward onward named (Obj r onward) refs finish

-- the end by which a path leaves the last of these objects; its start where there is none
abbrev pub behind : ℕ → End → List Ref → End
behind onward a [] = a
behind onward a (r ∷ refs) = behind onward (Obj r onward) refs

-- the end is none by which such a path enters or leaves an object
abbrev pub IsOutside : ℕ → ℕ → End → Type 0
IsOutside toward onward (Obj r field) = (field ≢ toward) × (field ≢ onward)
IsOutside toward onward (Slot root) = ⊤

-- the same, or nothing
abbrev pub IsOutsideOrUnset : ℕ → ℕ → Option End → Type 0
IsOutsideOrUnset toward onward None = ⊤
IsOutsideOrUnset toward onward (Some e) = IsOutside toward onward e

-- an object with the links first and second stands behind the end a: a and first name each other, as do second and what a named; every other end names what it did
pub record IsInserted (old new : End → Option End) (a first second : End) : Type 0 where
  pub front : new a ≡ Some first
  pub back : new first ≡ Some a
  pub rest : new second ≡ old a
  pub mate : (e : End) → old a ≡ Some e → new e ≡ Some second
  pub others : (e : End) → e ≢ a → e ≢ first → e ≢ second → old a ≢ Some e → new e ≡ old e

-- an object with the links first and second is taken out: what they named name each other, and they name nothing; every other end names what it did
pub record IsTakenOut (old new : End → Option End) (first second : End) : Type 0 where
  pub front : new first ≡ None
  pub back : new second ≡ None
  pub before : (e : End) → old first ≡ Some e → new e ≡ old second
  pub rest : (e : End) → old second ≡ Some e → new e ≡ old first
  pub others : (e : End) → e ≢ first → e ≢ second → old first ≢ Some e → old second ≢ Some e → new e ≡ old e

-- what holds of each end by which a path leaves one of these objects
abbrev pub AllOnward : ℕ → (End → Type 0) → List Ref → Type 0
AllOnward onward P [] = ⊤
AllOnward onward P (r ∷ refs) = P (Obj r onward) × AllOnward onward P refs

-- the object that a path enters where an end names this; None where it enters none
abbrev pub entered_object : ℕ → Option End → Option Ref
entered_object toward None = None
entered_object toward (Some (Obj r field)) = cond (nat_eq field toward) (Some r) None
entered_object toward (Some (Slot root)) = None

-- an object and those behind it, if there is one
abbrev pub objects_from : (Ref → List Ref) → Option Ref → List Ref
objects_from rest None = []
objects_from rest (Some r) = r ∷ rest r

-- the objects that the links lead through from this end, so many at most
abbrev pub walk : ℕ → ℕ → ℕ → (End → Option End) → End → List Ref
walk zero toward onward named a = []
walk (suc most) toward onward named a = objects_from (λ r. walk most toward onward named (Obj r onward)) (entered_object toward (named a))

-- the end is a root slot, or a link of a live object
abbrev pub IsOfLive : View → End → Type 0
IsOfLive v (Obj r field) = IsSome (body v r)
IsOfLive v (Slot root) = ⊤

-- the other object's link, where the end is the link toward or onward of one of two objects; else the same end
abbrev pub exchanged_end : ℕ → ℕ → Ref → Ref → End → End
exchanged_end toward onward r q e = swapped_end (Obj r onward) (Obj q onward) (swapped_end (Obj r toward) (Obj q toward) e)

-- two objects have each other's name
abbrev pub each_other : Ref → Ref → List (Ref × Ref)
each_other r q = (r, q) ∷ ((q, r) ∷ [])
