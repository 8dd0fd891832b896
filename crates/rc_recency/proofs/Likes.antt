-- Of which kind the object is in whose place another version has one.
use Rattle.std.proofs.Common.{◌≡◌, ◌⊎◌, ℕ, List, Option, Some, None, inl, inr}
use Rattle.std.specs.Prelude.{IsSomeAnd}
use Rattle.rc_cell.specs.declared.rows.Row.{Row}
use Rattle.rc_position.specs.declared.positions.Pos.{Pos}
use Rattle.lsa_kinds.specs.declared.kind.Kind.{Kind}
use Rattle.lsa_kinds.specs.declared.kind.Kind.TheVariants.{RowEntry, Dummy}
use Rattle.lsa_store.specs.declared.place.Ref.{Ref}
use Rattle.lsa_region.specs.Region.{View, body}
use Rattle.lsa_tree.specs.Entries.{IsEntryAtPosition, IsEntryKind}
use Rattle.rc_core.specs.declared.entries.Entry.{Entry}
use Rattle.rc_object.specs.Objects.{HoldsEntry, HoldsStatic}
use Rattle.rc_version.specs.laws.Objects.{holds-stands, static-no_entry}

pub entry-kind : (o : Option (Kind × List ℕ)) → IsSomeAnd o (λ b. b.0 ≡ RowEntry) ⊎ IsSomeAnd o (λ b. b.0 ≡ Dummy) → IsSomeAnd o (λ b. IsEntryKind b.0)
entry-kind None (inl is) = is
entry-kind None (inr is) = is
entry-kind (Some b) (inl is) = inl is
entry-kind (Some b) (inr is) = inr is

pub no-static : (v : View) (e : Ref) (row : Row) → HoldsStatic v e row → IsSomeAnd (body v e) (λ b. IsEntryKind b.0) → ⊥
no-static v e row held is = static-no_entry v e row held is

-- an entry, or a static row, that has the kind of an entry stands at a position
pub stands-like : (v : View) (e : Ref) → IsSomeAnd (body v e) (λ b. IsEntryKind b.0) → ((y : Entry) × HoldsEntry v e y) ⊎ ((row : Row) × HoldsStatic v e row) → (x : Pos) × IsEntryAtPosition v e x
stands-like v e is (inl a) = (a.0.position, holds-stands v e a.0 a.1)
stands-like v e is (inr a) = absurd (static-no_entry v e a.0 a.1 is)
