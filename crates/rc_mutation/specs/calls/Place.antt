-- Where a key stands, or would stand, among rows by ascending key.
use Rattle.std.specs.Prelude.{◌≡◌, ◌<◌, ◌≤◌, ℕ, List, length}
use Rattle.std.specs.declared.cmp.Ordering.TheVariants.{Less, Greater}
use Rattle.std.specs.List.{HoldsAt, AllWithin}
use Rattle.rc_cell.specs.declared.rows.Row.{Row}
use Rattle.rc_position.specs.declared.comps.Comp.{Comp}
use Rattle.rc_position.specs.Position.{key_cmp}

-- the row at this place has the key
pub record IsAt (rows : List (List Comp × Row)) (key : List Comp) (place : ℕ) : Type 0 where
  pub in_range : place < length rows
  pub has_key : HoldsAt (λ e. e.0 ≡ key) rows place

-- no row has the key: smaller keys stand before this place, and greater ones from it on
pub record IsGapFor (rows : List (List Comp × Row)) (key : List Comp) (place : ℕ) : Type 0 where
  pub in_range : place ≤ length rows
  pub smaller_before : AllWithin (λ e. key_cmp e.0 key ≡ Less) rows 0 place
  pub greater_after : AllWithin (λ e. key_cmp e.0 key ≡ Greater) rows place (length rows)
