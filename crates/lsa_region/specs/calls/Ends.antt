-- What one step of a link or a root slot changes.
use Rattle.std.specs.Prelude.{◌≡◌, ◌≢◌, ℕ, ◌+◌, List, slice_index_or, Option, None, max, cond, Some}
use Rattle.std.specs.Option.{option_map}
use Rattle.lsa_store.specs.Cells.{Cell, size_of, extent}
use Rattle.lsa_store.specs.declared.place.Ref.{Ref}
use Rattle.lsa_store.specs.Objects.{cells_of, cell_in, body_in, live_count, object_count}
use Rattle.lsa_region.specs.declared.end.End.{End}
use Rattle.lsa_region.specs.declared.end.End.TheVariants.{Obj, Slot}
use Rattle.lsa_region.specs.Ends.{slots_in, named_in, IsEndIn, same_ref}

-- the slot of this number was not there, and names nothing now; the bound rises only where each slot below it was there
pub record IsSlotMade (old new : List (Option (Option End))) (n : ℕ) : Type 0 where
  pub fresh : slice_index_or old n None ≡ None
  pub here : slice_index_or new n None ≡ Some None
  pub others : (m : ℕ) → m ≢ n → slice_index_or new m None ≡ slice_index_or old m None
  pub there : (slots_in new).there ≡ (slots_in old).there + 1
  pub bound : (slots_in new).bound ≡ max (slots_in old).bound ((slots_in old).there + 1)

-- r where it was q, q where it was r, and else the same
abbrev pub swapped_ref : Ref → Ref → Ref → Ref
swapped_ref r q x = cond (same_ref x r) q (cond (same_ref x q) r x)

-- the slot of this number is gone
pub record IsSlotDropped (old new : List (Option (Option End))) (n : ℕ) : Type 0 where
  pub here : slice_index_or new n None ≡ None
  pub others : (m : ℕ) → m ≢ n → slice_index_or new m None ≡ slice_index_or old m None
  pub there : (slots_in new).there + 1 ≡ (slots_in old).there
  pub bound : (slots_in new).bound ≡ (slots_in old).bound

-- the same cells stand at the same places, objects with the same kinds and bytes; their links may be others
pub record IsSameShape (old new : List (List Cell)) : Type 0 where
  pub bodies : (r : Ref) → body_in new r ≡ body_in old r
  pub sizes : (r : Ref) → option_map (λ c. size_of c) (cell_in new r) ≡ option_map (λ c. size_of c) (cell_in old r)
  pub ends : (n : ℕ) → extent (cells_of new n) ≡ extent (cells_of old n)
  pub counts : (n : ℕ) → live_count (cells_of new n) ≡ live_count (cells_of old n)
  pub count : object_count new ≡ object_count old

-- the end names this now; every other end names what it did, and all else is as it was
pub record IsSetIn (cells : List (List Cell)) (roots : List (Option (Option End))) (cells' : List (List Cell)) (roots' : List (Option (Option End))) (end : End) (named : Option End) : Type 0 where
  pub here : named_in cells' roots' end ≡ named
  pub others : (other : End) → other ≢ end → named_in cells' roots' other ≡ named_in cells roots other
  pub ends : (other : End) → IsEndIn cells roots other → IsEndIn cells' roots' other
  pub back : (other : End) → IsEndIn cells' roots' other → IsEndIn cells roots other
  pub shape : IsSameShape cells cells'
  pub slots : slots_in roots' ≡ slots_in roots

-- an end, with another name of its object
abbrev pub end_by : (Ref → Ref) → End → End
end_by there (Obj r field) = Obj (there r) field
end_by there (Slot root) = Slot root
