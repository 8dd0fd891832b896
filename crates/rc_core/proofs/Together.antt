-- The parts of a memtable's partition, put together, say what its writes say.
use Rattle.std.specs.Prelude.{◌≡◌, ◌&&◌, Bool, true, false, List, [], ◌∷◌, ◌++◌, Option, Some, None, cond, map as list_map}
use Rattle.std.proofs.Common.{append-nil, refl, sym, ap, ◌∙◌, subst}
use Rattle.std.specs.declared.cmp.Ordering.{Ordering}
use Rattle.std.specs.declared.cmp.Ordering.TheVariants.{Less, Equal, Greater}
use Rattle.std.specs.Ordering.{is_le, is_lt, is_eq, is_gt}
use Rattle.rc_cell.specs.declared.rows.Row.{Row}
use Rattle.rc_cell.specs.declared.writes.Tomb.{Tomb}
use Rattle.rc_cell.specs.Orders.{tomb_cmp}
use Rattle.rc_cell.specs.laws.{joined_row-none}
use Rattle.rc_cell.specs.Winner.{greatest, joined_row, empty_row}
use Rattle.rc_position.specs.declared.comps.Comp.{Comp}
use Rattle.rc_position.specs.declared.positions.Pos.{Pos}
use Rattle.rc_position.specs.declared.positions.Weight.TheVariants.{After}
use Rattle.rc_position.specs.Position.{pos_cmp, row_pos, covers, IsBefore}
use Rattle.rc_position.specs.laws.Orders.{pos_cmp_total, pos_cmp_same}
use Rattle.rc_position.specs.laws.Bounds.{After-rows, last_pos-greatest}
use Rattle.rc_mutation.specs.Piece.{Piece}
use Rattle.rc_mutation.specs.Cover.{tombs_over}
use Rattle.rc_mutation.specs.declared.mutations.Mutation.{Mutation}
use Rattle.rc_mutation.specs.Source.{source_at, rows_in}
use Rattle.rc_core.specs.declared.entries.ChainKind.TheVariants.{Memtable}
use Rattle.rc_core.specs.declared.parts.Part.{Part}
use Rattle.rc_core.specs.declared.parts.Part.TheVariants as part
use Rattle.rc_core.specs.Version.{On, Version, end_position}
use Rattle.rc_core.specs.Chain.{states_at, rows_from, IsEvenAt}
use Rattle.rc_core.specs.Chains.{AllInherit}
use Rattle.rc_core.specs.Continuity.{EachOf}
use Rattle.rc_core.specs.Parts.{IsFirstPart}
use Rattle.rc_core.specs.StandsFor.{StandsFor, ArePartsFrom, IsWholeAt, piece_of, piece_over, part_pieces, place_after, row_in_part, rows_of}
use Rattle.rc_core.specs.laws.Losing.{joined-again, tomb-alone}
use Rattle.rc_core.specs.laws.Merging.{over-append, rows_in-append}
use Rattle.rc_core.specs.laws.Spots.{turn_to}
use Rattle.rc_core.specs.laws.Written.{memtable-known, row-at-key, rows_here, rows_off}
use Rattle.rc_core.proofs.Parting.{gap-seen}

abbrev after : List Comp → Pos
after key = record { prefix = key; weight = After }

before_after : (key : List Comp) → IsBefore (row_pos key) (after key)
before_after key = subst (λ k. IsBefore (row_pos k) (after key)) (append-nil key) (After-rows key [])

before_the_end : (x y : Pos) → IsBefore x y → IsBefore x end_position
before_the_end x y l = by (pos_cmp y end_position) refl
  where
    by : (r : Ordering) → pos_cmp y end_position ≡ r → IsBefore x end_position
    by Less e = pos_cmp_total.trans x y end_position l e
    by Equal e = subst (λ z. pos_cmp x z ≡ Less) (pos_cmp_same y end_position e) l
    by Greater e = let u : true ≡ false = sym (ap is_gt e) ∙ last_pos-greatest y in absurd (cc)

and_none : (b : Bool) → (b && false) ≡ false
and_none true = refl
and_none false = refl

-- a piece that begins behind a position, or ends before it, says nothing there
piece_ahead : (x to y : Pos) (t : Option Tomb) → IsBefore y x → tombs_over (piece_over x to t) y ≡ []
piece_ahead x to y None l = refl
piece_ahead x to y (Some t) l = ap (λ r. list_map (λ (p : Piece). p.tomb) (cond (is_le r && is_lt (pos_cmp y to)) (record { from = x; to = to; tomb = t } ∷ []) [])) (turn_to y x Less l)

piece_passed : (x to y : Pos) (t : Option Tomb) → is_lt (pos_cmp y to) ≡ false → tombs_over (piece_over x to t) y ≡ []
piece_passed x to y None e = refl
piece_passed x to y (Some t) e = ap (λ b. list_map (λ (p : Piece). p.tomb) (cond b (record { from = x; to = to; tomb = t } ∷ []) [])) (ap (λ b. is_le (pos_cmp x y) && b) e ∙ and_none (is_le (pos_cmp x y)))

piece_here : (x to y : Pos) (t : Option Tomb) → covers x to y ≡ true → greatest tomb_cmp (tombs_over (piece_over x to t) y) ≡ t
piece_here x to y None c = tomb-alone None
piece_here x to y (Some t) c = ap (λ b. greatest tomb_cmp (list_map (λ (p : Piece). p.tomb) (cond b (record { from = x; to = to; tomb = t } ∷ []) []))) c ∙ tomb-alone (Some t)

module _ (writes : List Mutation) (versions : List Version) (st : StandsFor writes versions) (inherits : EachOf AllInherit versions) (even : (x : Pos) → IsEvenAt Memtable versions x) (whole : (key : List Comp) → IsWholeAt writes key) where
  row_place : (x upto : Pos) (key : List Comp) (row : Row) (tomb : Option Tomb) → IsFirstPart Memtable versions x upto (part.Row key row tomb) → x ≡ row_pos key
  row_place x upto key row tomb p = row-at-key writes versions x st (λ e. p.2 (record { inside = before_the_end x upto p.0; no_row = e })) ∙ ap row_pos (sym p.3)

  -- what stands before a part stands before what follows it
  later : (p : Part) (x upto y : Pos) → IsFirstPart Memtable versions x upto p → IsBefore y x → IsBefore y (place_after p x)
  later (part.Row key row tomb) x upto y p l = pos_cmp_total.trans y x (after key) l (subst (λ z. IsBefore z (after key)) (sym (row_place x upto key row tomb p)) (before_after key))
  later (part.Gap to tomb) x upto y p l = pos_cmp_total.trans y x to l p.3.ahead
  later (part.Missing to) x upto y p l = absurd (p.1 (memtable-known versions inherits x))
  later part.End x upto y p l = l

  pieces_ahead : (ps : List Part) (x upto y : Pos) → ArePartsFrom versions x upto ps → IsBefore y x → tombs_over (part_pieces x ps) y ≡ []
  pieces_ahead [] x upto y a l = refl
  pieces_ahead (p ∷ ps) x upto y a l = over-append y (piece_of p x) (part_pieces (place_after p x) ps) ∙ (λ i. first p i ++ pieces_ahead ps (place_after p x) upto y a.1 (later p x upto y a.0 l) i)
    where
      first : (p : Part) → tombs_over (piece_of p x) y ≡ []
      first (part.Row key row tomb) = piece_ahead x (after key) y tomb l
      first (part.Gap to tomb) = piece_ahead x to y tomb l
      first (part.Missing to) = refl
      first part.End = refl

  rows_ahead : (ps : List Part) (x upto y : Pos) → ArePartsFrom versions x upto ps → IsBefore y x → rows_in y (rows_of ps) ≡ []
  rows_ahead [] x upto y a l = refl
  rows_ahead (p ∷ ps) x upto y a l = rows_in-append y (row_in_part p) (rows_of ps) ∙ (λ i. first p a.0 i ++ rows_ahead ps (place_after p x) upto y a.1 (later p x upto y a.0 l) i)
    where
      first : (p : Part) → IsFirstPart Memtable versions x upto p → rows_in y (row_in_part p) ≡ []
      first (part.Row key row tomb) q = rows_off y key row (ap is_eq (subst (IsBefore y) (row_place x upto key row tomb q) l))
      first (part.Gap to tomb) q = refl
      first (part.Missing to) q = refl
      first part.End q = refl

  -- what parts say at a position
  abbrev told : List Part → Pos → Pos → Row × Option Tomb
  told ps x y = (joined_row (rows_in y (rows_of ps)), greatest tomb_cmp (tombs_over (part_pieces x ps) y))

  -- a position behind a part, and one in it
  told_beyond : (p : Part) (ps : List Part) (x upto y : Pos) → IsFirstPart Memtable versions x upto p → is_lt (pos_cmp y (place_after p x)) ≡ false → is_le (pos_cmp x y) ≡ true → is_lt (pos_cmp y upto) ≡ true →
      told (p ∷ ps) x y ≡ told ps (place_after p x) y
  told_beyond p ps x upto y q e c d = λ i. (joined_row (rows i), greatest tomb_cmp (tombs i))
    where
      first_rows : (p : Part) → IsFirstPart Memtable versions x upto p → is_lt (pos_cmp y (place_after p x)) ≡ false → rows_in y (row_in_part p) ≡ []
      first_rows (part.Row key row tomb) q e = rows_off y key row (by (pos_cmp y (row_pos key)) refl)
        where
          by : (r : Ordering) → pos_cmp y (row_pos key) ≡ r → is_eq r ≡ false
          by Less k = refl
          by Equal k = let u : true ≡ false = sym (ap is_lt (subst (λ z. IsBefore z (after key)) (sym (pos_cmp_same y (row_pos key) k)) (before_after key))) ∙ e in absurd (cc)
          by Greater k = refl
      first_rows (part.Gap to tomb) q e = refl
      first_rows (part.Missing to) q e = refl
      first_rows part.End q e = refl

      first_tombs : (p : Part) → is_lt (pos_cmp y (place_after p x)) ≡ false → tombs_over (piece_of p x) y ≡ []
      first_tombs (part.Row key row tomb) e = piece_passed x (after key) y tomb e
      first_tombs (part.Gap to tomb) e = piece_passed x to y tomb e
      first_tombs (part.Missing to) e = refl
      first_tombs part.End e = refl

      rows : rows_in y (rows_of (p ∷ ps)) ≡ rows_in y (rows_of ps)
      rows = rows_in-append y (row_in_part p) (rows_of ps) ∙ ap (λ rs. rs ++ rows_in y (rows_of ps)) (first_rows p q e)

      tombs : tombs_over (part_pieces x (p ∷ ps)) y ≡ tombs_over (part_pieces (place_after p x) ps) y
      tombs = over-append y (piece_of p x) (part_pieces (place_after p x) ps) ∙ ap (λ ts. ts ++ tombs_over (part_pieces (place_after p x) ps) y) (first_tombs p e)

  -- the first part alone, where the others stand ahead
  told_first : (p : Part) (ps : List Part) (x upto y : Pos) → ArePartsFrom versions x upto (p ∷ ps) → IsBefore y (place_after p x) → told (p ∷ ps) x y ≡ (joined_row (rows_in y (row_in_part p)), greatest tomb_cmp (tombs_over (piece_of p x) y))
  told_first p ps x upto y a l = λ i. (
    joined_row ((rows_in-append y (row_in_part p) (rows_of ps) ∙ ap (λ rs. rows_in y (row_in_part p) ++ rs) (rows_ahead ps (place_after p x) upto y a.1 l) ∙ append-nil (rows_in y (row_in_part p))) i),
    greatest tomb_cmp ((over-append y (piece_of p x) (part_pieces (place_after p x) ps) ∙ ap (λ ts. tombs_over (piece_of p x) y ++ ts) (pieces_ahead ps (place_after p x) upto y a.1 l) ∙ append-nil (tombs_over (piece_of p x) y)) i),
  )

  in_part : (p : Part) (x upto y : Pos) → IsFirstPart Memtable versions x upto p → is_le (pos_cmp x y) ≡ true → IsBefore y (place_after p x) → is_lt (pos_cmp y upto) ≡ true →
      ◌≡◌ {A = Row × Option Tomb} (joined_row (rows_in y (row_in_part p)), greatest tomb_cmp (tombs_over (piece_of p x) y)) (source_at writes y)
  in_part (part.Gap to tomb) x upto y q c l d =
      let cov : covers x to y ≡ true = λ i. c i && is_lt (l i) in
      (λ i. (joined_row-none i, piece_here x to y tomb cov i)) ∙ sym (gap-seen Memtable versions x upto to tomb q (even x) y cov).0 ∙ st.clustered y
  in_part (part.Row key row tomb) x upto y q c l d = by (pos_cmp x y) refl
    where
      place : x ≡ row_pos key
      place = row_place x upto key row tomb q

      cov : covers x (after key) y ≡ true
      cov = λ i. c i && is_lt (l i)

      at_key : source_at writes (row_pos key) ≡ (row, tomb)
      at_key = ap (source_at writes) (sym place) ∙ sym (st.clustered x) ∙ q.4

      row_is : joined_row (row ∷ []) ≡ row
      row_is = let e : joined_row (rows_from (states_at (On x) versions)) ≡ row = ap (λ (a : Row × Option Tomb). a.0) q.4 in subst (λ r. joined_row (r ∷ []) ≡ r) e (joined-again (rows_from (states_at (On x) versions)))

      by : (r : Ordering) → pos_cmp x y ≡ r → ◌≡◌ {A = Row × Option Tomb} (joined_row (rows_in y ((key, row) ∷ [])), greatest tomb_cmp (tombs_over (piece_over x (after key) tomb) y)) (source_at writes y)
      by Less e = let beyond : IsBefore (row_pos key) y = subst (λ z. IsBefore z y) place e in
          (λ i. ((ap joined_row (rows_off y key row (ap is_eq (turn_to (row_pos key) y Less beyond))) ∙ joined_row-none) i, piece_here x (after key) y tomb cov i))
          ∙ sym (whole key y beyond l ∙ (λ i. (empty_row, ap (λ (a : Row × Option Tomb). a.1) at_key i)))
      by Equal e = let same : row_pos key ≡ y = sym place ∙ pos_cmp_same x y e in
          (λ i. ((ap joined_row (subst (λ z. rows_in z ((key, row) ∷ []) ≡ row ∷ []) same (rows_here key row)) ∙ row_is) i, piece_here x (after key) y tomb cov i))
          ∙ sym (ap (source_at writes) (sym same) ∙ at_key)
      by Greater e = let u : false ≡ true = sym (ap is_le e) ∙ c in absurd (cc)
  in_part (part.Missing to) x upto y q c l d = absurd (q.1 (memtable-known versions inherits x))
  in_part part.End x upto y q c l d = let u : true ≡ false = sym c ∙ ap is_le (turn_to y x Less l) in absurd (cc)

  first_of_both : (a b : Bool) → (a && b) ≡ true → a ≡ true
  first_of_both true b e = refl
  first_of_both false b e = e

  second_of_both : (a b : Bool) → (a && b) ≡ true → b ≡ true
  second_of_both true b e = e
  second_of_both false b e = absurd (cc)

  pub parts-together : (ps : List Part) (x upto : Pos) → ArePartsFrom versions x upto ps → (y : Pos) → covers x upto y ≡ true → told ps x y ≡ source_at writes y
  parts-together [] x upto a y c = absurd (both (pos_cmp y x) refl)
    where
      both : (r : Ordering) → pos_cmp y x ≡ r → ⊥
      both Less e = let u : false ≡ true = sym (ap is_le (turn_to y x Less e)) ∙ first_of_both (is_le (pos_cmp x y)) (is_lt (pos_cmp y upto)) c in cc
      both Equal e = let u : false ≡ true = sym (ap is_lt e) ∙ ap (λ z. is_lt (pos_cmp y z)) a ∙ second_of_both (is_le (pos_cmp x y)) (is_lt (pos_cmp y upto)) c in cc
      both Greater e = let u : false ≡ true = sym (ap is_lt e) ∙ ap (λ z. is_lt (pos_cmp y z)) a ∙ second_of_both (is_le (pos_cmp x y)) (is_lt (pos_cmp y upto)) c in cc
  parts-together (p ∷ ps) x upto a y c =
      elim (pos_cmp y (place_after p x)) as (λ r. pos_cmp y (place_after p x) ≡ r → told (p ∷ ps) x y ≡ source_at writes y) [
        | Less ↦ λ e. told_first p ps x upto y a e ∙ in_part p x upto y a.0 low e high
        | Equal ↦ λ e. told_beyond p ps x upto y a.0 (ap is_lt e) low high ∙ parts-together ps (place_after p x) upto a.1 y (λ i. is_le (turn_to y (place_after p x) Equal e i) && high i)
        | Greater ↦ λ e. told_beyond p ps x upto y a.0 (ap is_lt e) low high ∙ parts-together ps (place_after p x) upto a.1 y (λ i. is_le (turn_to y (place_after p x) Greater e i) && high i)
      ] refl
    where
      low : is_le (pos_cmp x y) ≡ true
      low = first_of_both (is_le (pos_cmp x y)) (is_lt (pos_cmp y upto)) c

      high : is_lt (pos_cmp y upto) ≡ true
      high = second_of_both (is_le (pos_cmp x y)) (is_lt (pos_cmp y upto)) c
