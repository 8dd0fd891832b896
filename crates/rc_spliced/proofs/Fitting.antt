-- A splice says what the first without what stands from the position on and the second without what stands before it say together; so it fits where both fit.
use Rattle.std.proofs.Common.{◌≡◌, Bool, true, false, cond, not, List, [], ◌∷◌, ◌++◌, Option, None, refl, sym, ap, ◌∙◌, append-nil, map as list_map}
use Rattle.std.specs.List.{cons_option}
use Rattle.std.proofs.lemmas.List.Elements.{All-filter, All-map, All-weaker}
use Rattle.rc_cell.specs.declared.rows.Row.{Row}
use Rattle.rc_cell.specs.declared.writes.Tomb.{Tomb}
use Rattle.rc_cell.specs.Greatest.{greater}
use Rattle.rc_cell.specs.Orders.{tomb_cmp}
use Rattle.rc_cell.specs.Winner.{empty_row, greatest, joined_row}
use Rattle.rc_position.specs.declared.comps.Comp.{Comp}
use Rattle.rc_position.specs.declared.positions.Pos.{Pos}
use Rattle.rc_position.specs.Position.{row_pos}
use Rattle.rc_ranges.specs.declared.pieces.Piece.{Piece}
use Rattle.rc_ranges.specs.Cover.{cover}
use Rattle.rc_ranges.specs.calls.Sweep.{lt}
use Rattle.rc_ranges.specs.laws.Covering.{cover-append}
use Rattle.rc_ranges.specs.laws.Greater.{greater-none}
use Rattle.rc_ranges.specs.laws.Order.{lt-before}
use Rattle.rc_schema.specs.SchemaValue.{SchemaValue}
use Rattle.rc_mutation.specs.declared.mutations.Mutation.{Mutation}
use Rattle.rc_mutation.specs.Source.{rows_in, SameSource, source_at}
use Rattle.rc_writes.specs.Allowed.{ChangeFits, IsRangeBound, IsRowOf}
use Rattle.rc_writes.specs.laws.FittingChanges.{same_fits}
use Rattle.rc_spliced.specs.Spliced.{IsSpliced}
use Rattle.rc_spliced.proofs.Pieces.{cover-cut, cut_off, cut_short, cuts_off, cuts_short}
use Rattle.rc_spliced.proofs.Rows.{kept_rows}
use Rattle.rc_spliced.proofs.Sides.{lt-reached}
use Rattle.rc_spliced.proofs.Splicing.{early, late, rows_in-both, said-alone}

-- a row of which nothing was written says nothing
silent : (r : Row) → joined_row (r ∷ []) ≡ joined_row (r ∷ empty_row ∷ [])
unfolding joined_row
silent r = refl

only_one : (b : Bool) (s t : Option Tomb) → greater tomb_cmp (cond b s None) (cond (not b) t None) ≡ cond b s t
only_one true s t = greater-none s
only_one false s t = refl

module _ (x : Pos) (first second : Mutation) where
  -- the first without what stands from x on
  abbrev front : Mutation
  front = record { pt = first.pt; statics = first.statics; rows = kept_rows (early x) first.rows; ranges = list_map (cut_short x) first.ranges }

  -- the rows and range tombstones of the second without what stands before x
  abbrev back : Mutation
  back = record { pt = None; statics = empty_row; rows = kept_rows (late x) second.rows; ranges = list_map (cut_off x) second.ranges }

  pieces-said : (y : Pos) (b : Bool) → lt y x ≡ b → cover (front.ranges ++ back.ranges) y ≡ cond b (cover first.ranges y) (cover second.ranges y)
  pieces-said y b h =
      cover-append front.ranges back.ranges y
      ∙ (λ i. greater tomb_cmp (cover-cut (λ z. lt z x) (cut_short x) (cuts_short x) first.ranges y i) (cover-cut (λ z. not (lt z x)) (cut_off x) (cuts_off x) second.ranges y i))
      ∙ only_one (lt y x) (cover first.ranges y) (cover second.ranges y)
      ∙ ap (λ t. cond t (cover first.ranges y) (cover second.ranges y)) h

  both-said : (y : Pos) (b : Bool) → lt y x ≡ b → source_at (front ∷ back ∷ []) y ≡ (joined_row (cond b (rows_in y first.rows) (rows_in y second.rows)), cond b (cover first.ranges y) (cover second.ranges y))
  both-said y b h =
      (λ i. (joined_row (rows_in y (front.rows ++ append-nil back.rows i)), cover (front.ranges ++ append-nil back.ranges i) y))
      ∙ (λ i. (joined_row (rows_in-both x y first.rows second.rows b h i), pieces-said y b h i))

  said-by-both : (m : Mutation) → IsSpliced x first second m → SameSource (m ∷ []) (front ∷ back ∷ [])
  said-by-both m is = record {
    head = ap (λ t. greatest tomb_cmp (cons_option t [])) is.pt;
    statics = ap (λ r. joined_row (r ∷ [])) is.statics ∙ silent first.statics;
    clustered = λ y. elim (lt y x) as (λ b. lt y x ≡ b → source_at (m ∷ []) y ≡ source_at (front ∷ back ∷ []) y) [
      | true ↦ λ e. is.before y (lt-before y x e) ∙ said-alone first y ∙ sym (both-said y true e)
      | false ↦ λ e. is.from y (lt-reached x y e) ∙ said-alone second y ∙ sym (both-said y false e)
    ] refl;
  }

  -- ---- both fit

  module _ (schema : SchemaValue) (may : IsRangeBound schema x) where
    abbrev HasBounds : Piece → Type 0
    HasBounds q = IsRangeBound schema q.from × IsRangeBound schema q.to

    bound_of : (b : Bool) (y z : Pos) → IsRangeBound schema y → IsRangeBound schema z → IsRangeBound schema (cond b y z)
    bound_of true y z g h = g
    bound_of false y z g h = h

    front-fits : ChangeFits schema first → ChangeFits schema front
    front-fits fit = record {
      statics = fit.statics;
      rows = All-filter (λ (e : List Comp × Row). early x (row_pos e.0)) (λ e. IsRowOf schema e.0 e.1) first.rows fit.rows;
      ranges = All-map HasBounds (cut_short x) first.ranges (All-weaker HasBounds (λ q. HasBounds (cut_short x q)) (λ q h. (h.0, bound_of (lt q.to x) q.to x h.1 may)) first.ranges fit.ranges);
    }

    back-fits : ChangeFits schema second → ChangeFits schema back
    back-fits fit = record {
      statics = (refl, refl, refl);
      rows = All-filter (λ (e : List Comp × Row). late x (row_pos e.0)) (λ e. IsRowOf schema e.0 e.1) second.rows fit.rows;
      ranges = All-map HasBounds (cut_off x) second.ranges (All-weaker HasBounds (λ q. HasBounds (cut_off x q)) (λ q h. (bound_of (lt q.from x) x q.from may h.0, h.1)) second.ranges fit.ranges);
    }

    -- so what is spliced of them does
    pub splice-fits : (m : Mutation) → ChangeFits schema first → ChangeFits schema second → IsSpliced x first second m → ChangeFits schema m
    splice-fits m g h is = same_fits schema m (front ∷ back ∷ []) is.is_mutation (said-by-both m is) (front-fits g, (back-fits h, tt))
