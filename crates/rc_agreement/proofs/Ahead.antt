-- What is left of a mutation from a place on.
use Rattle.std.specs.Prelude.{◌≡◌, List, [], ◌∷◌}
use Rattle.std.proofs.Common.{sym, ◌∙◌, append-nil, subst}
use Rattle.rc_cell.specs.Winner.{joined_row}
use Rattle.rc_position.specs.declared.positions.Pos.{Pos}
use Rattle.rc_ranges.specs.declared.pieces.Piece.{Piece}
use Rattle.rc_ranges.specs.Cover.{IsCanonical, cover as range_tomb}
use Rattle.rc_mutation.specs.declared.mutations.Mutation.{Mutation}
use Rattle.rc_mutation.specs.Source.{IsRows, rows_in, source_at}
use Rattle.rc_stream.specs.Places.{Reaches}
use Rattle.rc_agreement.specs.calls.Passing.{first_row_at, first_tomb_at, onward_pieces, onward_rows}
use Rattle.rc_agreement.specs.calls.Walking.{IsLeftFrom, IsOnward}
use Rattle.rc_agreement.proofs.Orders.{reaches-further, reaches-itself}
use Rattle.rc_agreement.proofs.Ranges.{onward-behind, onward-canonical, onward-tomb, tomb-there}
use Rattle.rc_agreement.proofs.Rows.{Keyed, first-there, onward-from, onward-in, onward-rows}

-- all of them
pub all-left : (x : Pos) (m : Mutation) (rows : Keyed) (pieces : List Piece) → IsRows m.rows → IsCanonical m.ranges → rows ≡ m.rows → pieces ≡ m.ranges → IsLeftFrom x m rows pieces
all-left x m rows pieces is are e f = record {
  by_key = subst IsRows (sym e) is;
  canonical = subst IsCanonical (sym f) are;
  said = λ y _. λ i. (joined_row (rows_in y ((append-nil m.rows ∙ sym e) i)), range_tomb ((append-nil m.ranges ∙ sym f) i) y);
}

-- from a later place on, too
pub left-further : (x z : Pos) (m : Mutation) (rows : Keyed) (pieces : List Piece) → Reaches x z → IsLeftFrom x m rows pieces → IsLeftFrom z m rows pieces
left-further x z m rows pieces a h = record { by_key = h.by_key; canonical = h.canonical; said = λ y b. h.said y (reaches-further x z y a b) }

-- without those that are passed
pub left-onward : (x : Pos) (m : Mutation) (rows : Keyed) (pieces : List Piece) → IsLeftFrom x m rows pieces → (more : Keyed) (others : List Piece) → more ≡ onward_rows x rows → others ≡ onward_pieces x pieces → IsOnward x m more others
left-onward x m rows pieces h more others e f = subst (λ r. IsOnward x m r others) (sym e) (subst (IsOnward x m (onward_rows x rows)) (sym f) (record {
  left = record {
    by_key = onward-rows x rows h.by_key;
    canonical = onward-canonical x pieces h.canonical;
    said = λ y a. h.said y a ∙ (λ i. (joined_row (sym (onward-in x rows y a) i), sym (onward-tomb x pieces y a) i));
  };
  first_row = onward-from x rows;
  first_piece = onward-behind x pieces;
}))

-- what the first of them say is said at the place
pub there : (x : Pos) (m : Mutation) (rows : Keyed) (pieces : List Piece) → IsOnward x m rows pieces → source_at (m ∷ []) x ≡ (first_row_at x rows, first_tomb_at x pieces)
there x m rows pieces h = h.left.said x (reaches-itself x) ∙ (λ i. (first-there x rows h.left.by_key h.first_row i, tomb-there x pieces h.left.canonical h.first_piece i))
