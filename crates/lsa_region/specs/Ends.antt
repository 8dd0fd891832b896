-- Ends, and what each of them names.
use Rattle.std.specs.Prelude.{◌≡◌, ℕ, ◌<◌, Bool, false, ◌&&◌, nat_eq, List, [], ◌∷◌, length, slice_index_or, cond, count_by, is_some, Option, Some, None, IsSomeAnd}
use Rattle.lsa_kinds.specs.Kinds.{links_of}
use Rattle.lsa_store.specs.Cells.{Cell}
use Rattle.lsa_store.specs.declared.place.Ref.{Ref}
use Rattle.lsa_store.specs.Objects.{body_in, word_in}
use Rattle.lsa_region.specs.declared.end.End.{End}
use Rattle.lsa_region.specs.declared.end.End.TheVariants.{Obj, Slot}
use Rattle.lsa_region.specs.Codes.{end_of}

-- what a root slot names; nothing where there is no such slot
abbrev pub end_in_slot : Option (Option End) → Option End
end_in_slot None = None
end_in_slot (Some named) = named

-- what the root slot of this number names
abbrev pub root_of : List (Option (Option End)) → ℕ → Option End
root_of roots n = end_in_slot (slice_index_or roots n None)

-- how many root slots are there, and the bound below which the number of each lies
pub record SlotCounts : Type 0 where
  pub there : ℕ
  pub bound : ℕ

-- those of a list of root slots
abbrev pub slots_in : List (Option (Option End)) → SlotCounts
slots_in roots = record { there = count_by (λ s. is_some s) roots; bound = length roots }

-- what an end names: a link of an object tells it by the number that stands in it
abbrev pub named_in : List (List Cell) → List (Option (Option End)) → End → Option End
named_in cells roots (Obj r field) = end_of (word_in cells r field)
named_in cells roots (Slot root) = root_of roots root.number

-- the end is there: a link of the kind of an object, or a root slot
abbrev pub IsEndIn : List (List Cell) → List (Option (Option End)) → End → Type 0
IsEndIn cells roots (Obj r field) = IsSomeAnd (body_in cells r) (λ b. field < links_of b.0)
IsEndIn cells roots (Slot root) = (named : Option End) × (slice_index_or roots root.number None ≡ Some named)

-- ---- other names

-- whether two references are the same
abbrev pub same_ref : Ref → Ref → Bool
same_ref r s = nat_eq r.segment s.segment && nat_eq r.offset s.offset

-- the name of a reference in a list of old and new names: that of its first pair, its own where it has none
abbrev pub named_as : List (Ref × Ref) → Ref → Ref
named_as [] r = r
named_as (pair ∷ names) r = cond (same_ref pair.0 r) pair.1 (named_as names r)

-- an end, with the new name of its object
abbrev pub end_as : List (Ref × Ref) → End → End
end_as names (Obj r field) = Obj (named_as names r) field
end_as names (Slot root) = Slot root

-- whether two ends are the same
abbrev pub same_end : End → End → Bool
same_end (Obj r field) (Obj s other) = same_ref r s && nat_eq field other
same_end (Obj r field) (Slot root) = false
same_end (Slot root) (Obj r field) = false
same_end (Slot root) (Slot other) = nat_eq root.number other.number

-- a where it was b, b where it was a, and else the same
abbrev pub swapped_end : End → End → End → End
swapped_end a b e = cond (same_end e a) b (cond (same_end e b) a e)
