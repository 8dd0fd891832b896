-- Two mutations have one to which they join, and so has a list of them.
use Rattle.std.proofs.Common.{◌≡◌, ◌≢◌, Bool, true, false, ◌&&◌, List, [], ◌∷◌, ◌++◌, Option, Some, None, All, refl, sym, subst, append-nil, append_assoc}
use Rattle.std.specs.Prelude.{IsTrue}
use Rattle.std.specs.Option.{is_none}
use Rattle.std.proofs.lemmas.List.Elements.{All-append, All-head, All-tail}
use Rattle.rc_cell.specs.declared.rows.Row.{Row}
use Rattle.rc_cell.specs.Columns.{ascending}
use Rattle.rc_cell.specs.Greatest.{greater}
use Rattle.rc_cell.specs.Orders.{tomb_cmp}
use Rattle.rc_cell.specs.Winner.{all_cells, empty_row, joined_row}
use Rattle.rc_cell.specs.laws.ByColumn.{ascending-winners}
use Rattle.rc_cell.specs.laws.Each.{joined_marker, joined_tomb}
use Rattle.rc_position.specs.declared.comps.Comp.{Comp}
use Rattle.rc_position.specs.declared.positions.Pos.{Pos}
use Rattle.rc_ranges.specs.declared.pieces.Piece.{Piece}
use Rattle.rc_ranges.specs.Cover.{IsCanonical, cover}
use Rattle.rc_mutation.specs.declared.mutations.Mutation.{Mutation}
use Rattle.rc_mutation.specs.Source.{IsJoinOf, IsMutation, IsRows, joined_rows}
use Rattle.rc_mutation.specs.Statics.{has_cells_alone}
use Rattle.rc_mutation.specs.laws.JoinedRows.{IsRows-joined_rows}
use Rattle.rc_mutation.specs.laws.Sources.{IsJoinOf-more, IsJoinOf-none, joined_two}
use Rattle.rc_opened.proofs.Saying.{is_no_change, no_change}

-- both ranges have one canonical list
abbrev pub AreUnited : Type 0
AreUnited = (one other : List Piece) → IsCanonical one → IsCanonical other → (both : List Piece) × IsCanonical both × ((x : Pos) → cover both x ≡ greater tomb_cmp (cover one x) (cover other x))

absent : {X : Type 0} (o : Option X) → is_none o ≡ true → o ≡ None
absent None e = refl
absent (Some x) e = absurd (cc)

first : (a b : Bool) → (a && b) ≡ true → a ≡ true
first true b e = refl
first false b e = e

second : (a b : Bool) → (a && b) ≡ true → b ≡ true
second true b e = e
second false b e = absurd (cc)

alone : (r s : Row) → IsTrue (has_cells_alone r) → IsTrue (has_cells_alone s) → IsTrue (has_cells_alone (joined_row (r ∷ s ∷ [])))
alone r s g h =
    let marker : (joined_row (r ∷ s ∷ [])).marker ≡ None = joined_marker (r ∷ s ∷ []) (absent r.marker (first (is_none r.marker) (is_none r.tomb) g), (absent s.marker (first (is_none s.marker) (is_none s.tomb) h), tt)) in
    let tomb : (joined_row (r ∷ s ∷ [])).tomb ≡ None = joined_tomb (r ∷ s ∷ []) (absent r.tomb (second (is_none r.marker) (is_none r.tomb) g), (absent s.tomb (second (is_none s.marker) (is_none s.tomb) h), tt)) in
    λ i. is_none (marker i) && is_none (tomb i)

by_column : (r s : Row) → IsTrue (ascending (joined_row (r ∷ s ∷ [])).cells)
unfolding joined_row
by_column r s = ascending-winners (all_cells (r ∷ s ∷ []))

rows : (one other : Mutation) → IsMutation one → IsMutation other → IsRows (joined_rows (one.rows ++ other.rows))
rows one other g h =
    IsRows-joined_rows (one.rows ++ other.rows) (All-append (λ (e : List Comp × Row). IsTrue (ascending e.1.cells)) one.rows other.rows g.rows.by_column h.rows.by_column) (All-append (λ (e : List Comp × Row). e.1 ≢ empty_row) one.rows other.rows g.rows.written h.rows.written)

module _ (unite : AreUnited) where
  pub two : (one other : Mutation) → IsMutation one → IsMutation other → (both : Mutation) × IsMutation both × IsJoinOf both (one ∷ other ∷ [])
  two one other g h =
      let u = unite one.ranges other.ranges g.ranges h.ranges in
      let both : Mutation = record { pt = greater tomb_cmp one.pt other.pt; statics = joined_row (one.statics ∷ other.statics ∷ []); rows = joined_rows (one.rows ++ other.rows); ranges = u.0 } in
      (both, record { alone = alone one.statics other.statics g.alone h.alone; statics = by_column one.statics other.statics; rows = rows one other g h; ranges = u.1 }, joined_two one other both refl refl refl u.2)

  -- some writes that were joined, and the others behind them
  along : (done : List Mutation) (m : Mutation) (writes : List Mutation) → IsMutation m → IsJoinOf m done → All IsMutation writes → (whole : Mutation) × IsMutation whole × IsJoinOf whole (done ++ writes)
  along done m [] is j all = (m, is, subst (IsJoinOf m) (sym (append-nil done)) j)
  along done m (w ∷ ws) is j all =
      let both = two m w is (All-head IsMutation w ws all) in
      let whole = along (done ++ w ∷ []) both.0 ws both.1 (IsJoinOf-more m both.0 w done j both.2) (All-tail IsMutation w ws all) in
      (whole.0, whole.1, subst (IsJoinOf whole.0) (append_assoc done (w ∷ []) ws) whole.2)

  pub every : (writes : List Mutation) → All IsMutation writes → (whole : Mutation) × IsMutation whole × IsJoinOf whole writes
  every writes all = along [] no_change writes is_no_change IsJoinOf-none all
