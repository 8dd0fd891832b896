-- A walk along a snapshot and what was read.
--     IsLeftFrom, IsOnward    rows and range tombstones that say from a place on what a mutation says
--     AreSaid                 all that is known from one place on and before another is said
use Rattle.std.specs.Prelude.{◌≡◌, true, false, List, [], ◌∷◌}
use Rattle.std.specs.Ordering.{is_lt}
use Rattle.rc_cell.specs.declared.rows.Row.{Row}
use Rattle.rc_cell.specs.Winner.{joined_row}
use Rattle.rc_position.specs.declared.comps.Comp.{Comp}
use Rattle.rc_position.specs.declared.positions.Pos.{Pos}
use Rattle.rc_position.specs.Position.{IsBefore, pos_cmp, row_pos}
use Rattle.rc_ranges.specs.declared.pieces.Piece.{Piece}
use Rattle.rc_ranges.specs.Cover.{IsCanonical, cover as range_tomb}
use Rattle.rc_mutation.specs.declared.mutations.Mutation.{Mutation}
use Rattle.rc_mutation.specs.Source.{IsRows, rows_in, source_at}
use Rattle.rc_core.specs.declared.entries.ChainKind.{ChainKind}
use Rattle.rc_core.specs.Version.{Version, end_position}
use Rattle.rc_stream.specs.Places.{Reaches}
use Rattle.rc_stream.specs.Snapshot.{Throughout}
use Rattle.rc_agreement.specs.Agreement.{IsGapSaid}
use Rattle.rc_agreement.specs.calls.Agreement.{IsPlaceSaid}

-- rows and pieces say from a place on what a mutation says
pub record IsLeftFrom (x : Pos) (m : Mutation) (rows : List (List Comp × Row)) (pieces : List Piece) : Type 0 where
  pub by_key : IsRows rows
  pub canonical : IsCanonical pieces
  pub said : (y : Pos) → Reaches x y → source_at (m ∷ []) y ≡ (joined_row (rows_in y rows), range_tomb pieces y)

-- the first of rows does not stand before a place
abbrev pub AreRowsFrom : Pos → List (List Comp × Row) → Type 0
AreRowsFrom x [] = Unit {0}
AreRowsFrom x (e ∷ es) = is_lt (pos_cmp (row_pos e.0) x) ≡ false

-- the first of pieces ends behind a place
abbrev pub EndBehind : Pos → List Piece → Type 0
EndBehind x [] = Unit {0}
EndBehind x (p ∷ ps) = is_lt (pos_cmp x p.to) ≡ true

-- they do, and the first of them are not passed
pub record IsOnward (x : Pos) (m : Mutation) (rows : List (List Comp × Row)) (pieces : List Piece) : Type 0 where
  pub left : IsLeftFrom x m rows pieces
  pub first_row : AreRowsFrom x rows
  pub first_piece : EndBehind x pieces

-- from one place on and before another what is known at each position is said, and the tombstone over each open gap that is known
abbrev pub AreSaid : ChainKind → List Version → List Mutation → Pos → Pos → Type 0
AreSaid kind versions writes from to = Throughout from to (λ y. IsPlaceSaid kind versions writes y × IsGapSaid kind versions writes y)

-- so it is everywhere
pub record AllSaid (kind : ChainKind) (versions : List Version) (writes : List Mutation) : Type 0 where
  pub places : (x : Pos) → IsPlaceSaid kind versions writes x
  pub gaps : (x : Pos) → IsBefore x end_position → IsGapSaid kind versions writes x
