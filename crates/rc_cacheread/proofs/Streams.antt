-- What the stream below says, by what was read of it.
use Rattle.std.specs.Prelude.{◌≡◌, Bool, true, false, cond, List, [], ◌∷◌, Option, Some, None}
use Rattle.std.proofs.Common.{refl, sym, ap, ◌∙◌, subst}
use Rattle.rc_cell.specs.declared.rows.Row.{Row}
use Rattle.rc_cell.specs.declared.writes.Tomb.{Tomb}
use Rattle.rc_cell.specs.Winner.{empty_row}
use Rattle.rc_position.specs.declared.comps.Comp.{Comp}
use Rattle.rc_position.specs.declared.positions.Pos.{Pos}
use Rattle.rc_position.specs.Position.{IsBefore, row_pos}
use Rattle.rc_mutation.specs.declared.fragments.Frag.{Frag}
use Rattle.rc_mutation.specs.declared.fragments.Frag.TheVariants as frag
use Rattle.rc_stream.specs.Merging.{IsOrdered}
use Rattle.rc_stream.specs.Places.{Reaches}
use Rattle.rc_stream.specs.Stream.{Stream, first_upto, force, is_upto, rest, sought_stream, took}
use Rattle.rc_stream.specs.laws.Ordered.{irreflexive, stop}
use Rattle.rc_stream.specs.laws.Sought.{sought-ordered}
use Rattle.rc_cacheread.specs.declared.readers.Stage.{Stage}
use Rattle.rc_cacheread.specs.declared.readers.Stage.TheVariants.{Away, Sought, Within}
use Rattle.rc_cacheread.specs.Reading.{AreRowsApart, StandFrom, behind_row, said_at}
use Rattle.rc_cacheread.specs.Sharing.{Fits}
use Rattle.rc_cacheread.specs.laws.Orders.{before-reaches}
use Rattle.rc_cacheread.proofs.Lists.{behind-its-row, from-behind, from-first, from-upto, over-change, over-empty, over-row, quiet-before, quiet-upto, row-said, sought-apart, sought-from, sought-there}
use Rattle.rc_cacheread.proofs.Orders.{reach-itself}

abbrev is_first : Bool → Frag → Frag → Type 0
is_first b g f = (g ≡ f) × (b ≡ true)

abbrev Option-case : Option Frag → Frag → Frag
Option-case None f = f
Option-case (Some g) f = g

taken-is : (b : Bool) (g f : Frag) → cond b (Some g) None ≡ Some f → is_first b g f
taken-is true g f e = (ap (λ o. Option-case o g) e, refl)
taken-is false g f e = absurd (cc)

-- what was given is first, and stands up to the position
pub first-given : (near : Pos) (fs : List Frag) (f : Frag) → first_upto near fs ≡ Some f → (fs ≡ f ∷ rest fs) × (is_upto near f ≡ true)
first-given near [] f e = absurd (cc)
first-given near (g ∷ gs) f e =
    let t = taken-is (is_upto near g) g f e in
    (ap (λ h. h ∷ gs) t.0, ap (is_upto near) (sym t.0) ∙ t.1)

-- ---- where it is sought

pub fits-sought : (x : Pos) (stage : Stage) (z : Pos) (tomb now : Option Tomb) (t : Stream) → Fits stage z tomb t → IsOrdered t.left × AreRowsApart t.left
fits-sought x Away z tomb now t f = f
fits-sought x Sought z tomb now t f = (f.0, f.1)
fits-sought x Within z tomb now t f = (f.0, f.1)

pub sought-fits : (x : Pos) (t : Stream) → IsOrdered t.left → AreRowsApart t.left → Fits Sought x None (sought_stream x t)
sought-fits x t o a = (sought-ordered x t.tomb t.left o, sought-apart x t.tomb t.left a, sought-from x t.tomb t.left o, refl)

pub sought-says : (x y : Pos) (t : Stream) → Reaches x y → said_at y (sought_stream x t).tomb (sought_stream x t).left ≡ said_at y t.tomb t.left
sought-says x y t h = sought-there x y t.tomb t.left h

-- ---- where nothing was given

pub nothing-says : (near y : Pos) (x : Pos) (tomb : Option Tomb) (t : Stream) → Fits Within x tomb t → first_upto near t.left ≡ None → Reaches y near → said_at y t.tomb t.left ≡ (empty_row, tomb)
nothing-says near y x tomb t f e r = quiet-upto near y t.tomb t.left f.0 e r ∙ (λ i. (empty_row, f.3 i))

pub nothing-fits : (near x : Pos) (tomb : Option Tomb) (t : Stream) → Fits Within x tomb t → first_upto near t.left ≡ None → Fits Within near tomb t
nothing-fits near x tomb t f e = (f.0, f.1, from-upto near t.left f.0 e, f.3)

-- ---- where a row was given

-- the stream begins with a row
pub record HasFirstRow (key : List Comp) (row : Row) (x near : Pos) (tomb : Option Tomb) (t : Stream) : Type 0 where
  pub on : Reaches x (row_pos key)
  pub upto : Reaches (row_pos key) near
  pub before : (y : Pos) → IsBefore y (row_pos key) → said_at y t.tomb t.left ≡ (empty_row, tomb)
  pub there_is : said_at (row_pos key) t.tomb t.left ≡ (row, tomb)
  pub fits : Fits Within (behind_row key) tomb (took (Some (frag.Row key row)) t)
  pub says : (y : Pos) → Reaches (behind_row key) y → said_at y t.tomb (rest t.left) ≡ said_at y t.tomb t.left
  pub empty_fits : Fits Within (row_pos key) tomb (took (Some (frag.Row key row)) t)
  pub empty_says : row ≡ empty_row → (y : Pos) → said_at y t.tomb (rest t.left) ≡ said_at y t.tomb t.left

pub first-row : (key : List Comp) (row : Row) (x near : Pos) (tomb : Option Tomb) (t : Stream) → Fits Within x tomb t → first_upto near t.left ≡ Some (frag.Row key row) → HasFirstRow key row x near tomb t
first-row key row x near tomb t f e =
    let g = first-given near t.left (frag.Row key row) e in
    let gs = rest t.left in
    let o : IsOrdered (frag.Row key row ∷ gs) = subst IsOrdered g.0 f.0 in
    let a : AreRowsApart (frag.Row key row ∷ gs) = subst AreRowsApart g.0 f.1 in
    let h : StandFrom x (frag.Row key row ∷ gs) = subst (StandFrom x) g.0 f.2 in
    let z = row_pos key in
    record {
      on = h.0;
      upto = g.1;
      before = λ y b. ap (said_at y t.tomb) g.0 ∙ quiet-before y z t.tomb (frag.Row key row ∷ gs) b (from-first (frag.Row key row) gs o) ∙ (λ i. (empty_row, f.3 i));
      there_is = ap (said_at z t.tomb) g.0 ∙ row-said key row t.tomb gs ∙ (λ i. (row, f.3 i));
      fits = (o.2, a.1, a.0, f.3);
      says = λ y r. sym (over-row key row t.tomb gs y (before-reaches z (behind_row key) y (behind-its-row key) r)) ∙ ap (said_at y t.tomb) (sym g.0);
      empty_fits = (o.2, a.1, from-behind (z, 1) gs o.1, f.3);
      empty_says = λ n y. sym (over-empty key row t.tomb gs n o a y) ∙ ap (said_at y t.tomb) (sym g.0);
    }

-- ---- where a change was given

pub record HasFirstChange (from : Pos) (next : Option Tomb) (x near : Pos) (tomb : Option Tomb) (t : Stream) : Type 0 where
  pub on : Reaches x from
  pub upto : Reaches from near
  pub before : (y : Pos) → IsBefore y from → said_at y t.tomb t.left ≡ (empty_row, tomb)
  pub there_is : force from t.tomb t.left ≡ next
  pub fits : Fits Within from next (took (Some (frag.Change from next)) t)
  pub says : (y : Pos) → Reaches from y → said_at y next (rest t.left) ≡ said_at y t.tomb t.left

pub first-change : (from : Pos) (next : Option Tomb) (x near : Pos) (tomb : Option Tomb) (t : Stream) → Fits Within x tomb t → first_upto near t.left ≡ Some (frag.Change from next) → HasFirstChange from next x near tomb t
first-change from next x near tomb t f e =
    let g = first-given near t.left (frag.Change from next) e in
    let gs = rest t.left in
    let o : IsOrdered (frag.Change from next ∷ gs) = subst IsOrdered g.0 f.0 in
    let a : AreRowsApart (frag.Change from next ∷ gs) = subst AreRowsApart g.0 f.1 in
    let h : StandFrom x (frag.Change from next ∷ gs) = subst (StandFrom x) g.0 f.2 in
    let over : (y : Pos) → Reaches from y → said_at y t.tomb t.left ≡ said_at y next gs = λ y r. ap (said_at y t.tomb) g.0 ∙ over-change from t.tomb next gs y r in
    record {
      on = h.0;
      upto = g.1;
      before = λ y b. ap (said_at y t.tomb) g.0 ∙ quiet-before y from t.tomb (frag.Change from next ∷ gs) b (from-first (frag.Change from next) gs o) ∙ (λ i. (empty_row, f.3 i));
      there_is = ap (λ v. v.1) (over from (reach-itself from)) ∙ stop from (from, 0) next gs o.2 o.1 (irreflexive (from, 0));
      fits = (o.2, a, from-behind (from, 0) gs o.1, refl);
      says = λ y r. sym (over y r);
    }
