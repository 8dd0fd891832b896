-- Objects that move: one to another place, and all of a segment.
use Rattle.std.specs.Prelude.{◌≡◌, ◌≢◌, ℕ, ◌+◌, ◌≤◌, ◌⊎◌, cond, nat_lt, List, length, Option, None, IsSome}
use Rattle.std.specs.Option.{option_map}
use Rattle.lsa_store.specs.State.TheVariants.{Closed}
use Rattle.lsa_store.specs.Room.{usage_of, live_sum}
use Rattle.lsa_store.specs.Cells.{size_of, extent as reach}
use Rattle.lsa_store.specs.declared.place.Ref.{Ref}
use Rattle.lsa_store.specs.Objects.{cells_of, cell_in, live_count}
use Rattle.lsa_store.specs.Stock.{stock_of}
use Rattle.lsa_store.specs.Stored.{Stored}
use Rattle.lsa_region.specs.declared.end.Root.{Root}
use Rattle.lsa_region.specs.declared.end.End.{End}
use Rattle.lsa_region.specs.declared.end.End.TheVariants.{Obj, Slot}
use Rattle.lsa_region.specs.calls.Ends.{swapped_ref}
use Rattle.lsa_region.specs.calls.Ends.{IsSameShape, end_by}
use Rattle.lsa_region.specs.Region.{View, body, link_of, IsEnd, slots_of}

-- what a store and root slots show
abbrev pub view_in : Stored → List (Option (Option End)) → View
view_in s roots = record { cells = s.cells; usages = s.usages; roots = roots; epoch = 0; moved = 0; compacted = 0 }

-- each object has another name, one-to-one, and each link and root slot names what it did by its new name
pub record IsRenamedBy (old new : View) (there back : Ref → Ref) : Type 0 where
  pub back_there : (r : Ref) → back (there r) ≡ r
  pub there_back : (r : Ref) → there (back r) ≡ r
  pub bodies : (r : Ref) → body new (there r) ≡ body old r
  pub links : (e : End) → IsEnd old e → link_of new (end_by there e) ≡ option_map (end_by there) (link_of old e)
  pub kept : (s : Root) → IsEnd old (Slot s) → IsEnd new (Slot s)
  pub known : (s : Root) → IsEnd new (Slot s) → IsEnd old (Slot s)
  pub slots : slots_of new ≡ slots_of old

-- an end, where the links of two objects below a number have changed places
abbrev pub partly : ℕ → Ref → Ref → End → End
partly k r q (Obj x field) = Obj (cond (nat_lt field k) (swapped_ref r q x) x) field
partly k r q (Slot root) = Slot root

-- the links of two objects below a number have changed places; all else is as it was
pub record IsCarrying (old now : View) (r q : Ref) (k : ℕ) : Type 0 where
  pub links : (e : End) → link_of now e ≡ option_map (partly k r q) (link_of old (partly k r q e))
  pub shape : IsSameShape old.cells now.cells
  pub usages : now.usages ≡ old.usages
  pub kept : (s : Root) → IsEnd old (Slot s) → IsEnd now (Slot s)
  pub known : (s : Root) → IsEnd now (Slot s) → IsEnd old (Slot s)
  pub slots : slots_of now ≡ slots_of old

-- what left a closed segment took no more of the stock than it had live there
pub record IsRelieved (size : ℕ) (old new : View) (n : ℕ) : Type 0 where
  pub budget : length new.usages ≡ length old.usages
  pub total : live_sum new.usages ≡ live_sum old.usages
  pub closed : (usage_of new.usages n).state ≡ Closed
  pub stock : stock_of size old.usages + (usage_of new.usages n).live ≤ stock_of size new.usages + (usage_of old.usages n).live
  pub end : reach (cells_of new.cells n) ≡ reach (cells_of old.cells n)

-- an object of a closed segment lies elsewhere, where none lay; the cells of its segment stand where they stood
pub record IsMovedTo (size : ℕ) (old new : View) (r q : Ref) : Type 0 where
  pub fresh : body old q ≡ None
  pub elsewhere : q.segment ≢ r.segment
  pub gone : body new r ≡ None
  pub renamed : IsRenamedBy old new (swapped_ref r q) (swapped_ref r q)
  pub relieved : IsRelieved size old new r.segment
  pub sizes : (x : Ref) → x.segment ≡ r.segment → option_map (λ c. size_of c) (cell_in new.cells x) ≡ option_map (λ c. size_of c) (cell_in old.cells x)
  pub counted : live_count (cells_of new.cells r.segment) + 1 ≡ live_count (cells_of old.cells r.segment)

-- so many objects of segment n, which lay before the offset, lie elsewhere; those of other segments lie where they lay
pub record IsSweeping (size : ℕ) (old now : View) (n offset count : ℕ) (there back : Ref → Ref) : Type 0 where
  pub renamed : IsRenamedBy old now there back
  pub stay : (x : Ref) → IsSome (body old x) → x.segment ≢ n → there x ≡ x
  pub done : (x : Ref) → IsSome (body now x) → x.segment ≡ n → offset ≤ x.offset
  pub stop : (offset ≡ reach (cells_of now.cells n)) ⊎ IsSome (cell_in now.cells (record { segment = n; offset = offset }))
  pub counted : count + live_count (cells_of now.cells n) ≡ live_count (cells_of old.cells n)
  pub relieved : IsRelieved size old now n
