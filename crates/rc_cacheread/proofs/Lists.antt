-- What rows and changes say at a position, by where they stand; and how a canonical list begins, by what it says.
use Rattle.std.specs.Prelude.{◌≡◌, ◌≢◌, ℕ, true, false, cond, List, [], ◌∷◌, ◌++◌, Option, Some, None}
use Rattle.std.proofs.Common.{refl, sym, ap, ◌∙◌, subst, inl, inr, Bool}
use Rattle.std.specs.declared.cmp.Ordering.{Ordering}
use Rattle.std.specs.declared.cmp.Ordering.TheVariants.{Less, Equal, Greater}
use Rattle.std.specs.Ordering.{is_eq, is_le, is_lt, nat_cmp, ordering_then}
use Rattle.std.specs.Cmp.{tied_itself}
use Rattle.rc_cell.specs.declared.rows.Row.{Row}
use Rattle.rc_cell.specs.declared.writes.Tomb.{Tomb}
use Rattle.rc_cell.specs.laws.Beats.{tomb_cmp-IsAntisymmetric}
use Rattle.rc_cell.specs.Orders.{tomb_cmp_total}
use Rattle.rc_cell.specs.Winner.{empty_row}
use Rattle.rc_position.specs.declared.comps.Comp.{Comp}
use Rattle.rc_position.specs.declared.positions.Pos.{Pos}
use Rattle.rc_position.specs.Position.{IsBefore, pos_cmp, row_pos}
use Rattle.rc_position.specs.laws.Bounds.{After-rows}
use Rattle.rc_position.specs.laws.Orders.{pos_cmp_total}
use Rattle.rc_mutation.specs.declared.fragments.Frag.{Frag}
use Rattle.rc_mutation.specs.declared.fragments.Frag.TheVariants as frag
use Rattle.rc_mutation.specs.Fragments.{tomb_after}
use Rattle.rc_stream.specs.Merging.{IsInner, IsOrdered, IsTelling, StandsBefore, place_of, rows_here, same_tomb}
use Rattle.rc_stream.specs.Places.{Reaches}
use Rattle.rc_stream.specs.Snapshot.{There}
use Rattle.rc_stream.specs.Stream.{first_upto, force, is_passed, is_upto, onward, opening, row_at}
use Rattle.rc_stream.specs.laws.Ordered.{irreflexive, itself, stop}
use Rattle.rc_stream.specs.laws.Says.{force-onward, force-opening, rows-onward, rows-opening}
use Rattle.rc_stream.specs.laws.Sought.{onward-ordered, sought-ordered, sought-telling}
use Rattle.rc_cacheread.specs.Reading.{AreWritten, AreRowsApart, Reads, StandFrom, behind_row, row_of_these, said_at}
use Rattle.rc_cacheread.specs.laws.Orders.{before-reaches, either-way, never-before, reach-through, same-place, turned-before}
use Rattle.rc_cacheread.proofs.Orders.{before-reach, not-le, reach-before, reach-itself}

-- ---- tombstones

pub same-itself : (t : Option Tomb) → same_tomb t t ≡ true
same-itself None = refl
same-itself (Some t) = ap is_eq (tied_itself tomb_cmp_total t)

tied : (r : Ordering) → is_eq r ≡ true → r ≡ Equal
tied Less e = absurd (cc)
tied Equal e = refl
tied Greater e = absurd (cc)

pub same-tombs : (s t : Option Tomb) → same_tomb s t ≡ true → s ≡ t
same-tombs None None e = refl
same-tombs None (Some t) e = absurd (cc)
same-tombs (Some s) None e = absurd (cc)
same-tombs (Some s) (Some t) e = ap Some (tomb_cmp-IsAntisymmetric s t (tied _ e))

pub untrue : {P : Type 0} → true ≡ false → P
untrue e = absurd (cc)

-- what changes something differs
pub unlike : (s t : Option Tomb) → same_tomb s t ≡ false → s ≡ t → ⊥
unlike s t e k = untrue (sym (same-itself t) ∙ ap (λ z. same_tomb z t) (sym k) ∙ e)

-- ---- by where fragments stand

abbrev pub at_of : Frag → Pos
at_of f = (place_of f).0

pub unpassed-behind : (x : Pos) (f : Frag) → IsBefore x (at_of f) → is_passed x f ≡ false
unpassed-behind x (frag.Start pt) h = refl
unpassed-behind x (frag.Static row) h = refl
unpassed-behind x (frag.Row key row) h = ap is_lt (turned-before x (row_pos key) h)
unpassed-behind x (frag.Change from tomb) h = ap is_le (turned-before x from h)
unpassed-behind x frag.End h = refl

pub upto-behind : (x : Pos) (f : Frag) → IsBefore x (at_of f) → is_upto x f ≡ false
upto-behind x (frag.Start pt) h = refl
upto-behind x (frag.Static row) h = refl
upto-behind x (frag.Row key row) h = ap is_le (turned-before x (row_pos key) h)
upto-behind x (frag.Change from tomb) h = ap is_le (turned-before x from h)
upto-behind x frag.End h = refl

pub behind-upto : (x : Pos) (f : Frag) → IsInner f → is_upto x f ≡ false → IsBefore x (at_of f)
behind-upto x (frag.Start pt) i h = absurd i
behind-upto x (frag.Static row) i h = absurd i
behind-upto x (frag.Row key row) i h = not-le (row_pos key) x h
behind-upto x (frag.Change from tomb) i h = not-le from x h
behind-upto x frag.End i h = absurd i

no-row-behind : (x : Pos) (f : Frag) → IsBefore x (at_of f) → row_at x f ≡ []
no-row-behind x (frag.Start pt) h = refl
no-row-behind x (frag.Static row) h = refl
no-row-behind x (frag.Row key row) h = ap (λ r. cond (is_eq r) (row ∷ []) []) h
no-row-behind x (frag.Change from tomb) h = refl
no-row-behind x frag.End h = refl

no-rows-behind : (x y : Pos) (fs : List Frag) → IsBefore x y → StandFrom y fs → rows_here x fs ≡ []
no-rows-behind x y [] b h = refl
no-rows-behind x y (f ∷ fs) b h = ap (λ rs. rs ++ rows_here x fs) (no-row-behind x f (before-reaches x y (at_of f) b h.0)) ∙ no-rows-behind x y fs b h.1

abbrev pair : Row → Option Tomb → There
pair r t = (r, t)

force-behind : (x y : Pos) (tomb : Option Tomb) (fs : List Frag) → IsBefore x y → StandFrom y fs → force x tomb fs ≡ tomb
force-behind x y tomb [] b h = refl
force-behind x y tomb (f ∷ fs) b h = ap (λ c. cond c (force x (tomb_after tomb f) fs) tomb) (unpassed-behind x f (before-reaches x y (at_of f) b h.0))

-- before all fragments nothing is said but the tombstone in force
pub quiet-before : (x y : Pos) (tomb : Option Tomb) (fs : List Frag) → IsBefore x y → StandFrom y fs → said_at x tomb fs ≡ (empty_row, tomb)
quiet-before x y tomb fs b h = ap (λ rs. pair (row_of_these rs) (force x tomb fs)) (no-rows-behind x y fs b h) ∙ ap (pair empty_row) (force-behind x y tomb fs b h)

then-le : (r s : Ordering) → ordering_then r s ≡ Less → is_le r ≡ true
then-le Less s e = refl
then-le Equal s e = refl
then-le Greater s e = absurd (cc)

pub from-behind : (p : Pos × ℕ) (fs : List Frag) → StandsBefore p fs → StandFrom p.0 fs
from-behind p [] h = tt
from-behind p (f ∷ fs) h = (then-le (pos_cmp p.0 (at_of f)) (nat_cmp p.1 (place_of f).1) h.0, from-behind p fs h.1)

pub from-on : (x y : Pos) (fs : List Frag) → Reaches x y → StandFrom y fs → StandFrom x fs
from-on x y [] r h = tt
from-on x y (f ∷ fs) r h = (reach-through x y (at_of f) r h.0, from-on x y fs r h.1)

-- an ordered list stands from its first on
pub from-first : (f : Frag) (fs : List Frag) → IsOrdered (f ∷ fs) → StandFrom (at_of f) (f ∷ fs)
from-first f fs o = (reach-itself (at_of f), from-behind (place_of f) fs o.1)

pub none-upto : (x upto : Pos) (fs : List Frag) → IsBefore upto x → StandFrom x fs → first_upto upto fs ≡ None
none-upto x upto [] b h = refl
none-upto x upto (f ∷ fs) b h = ap (λ c. cond c (Some f) None) (upto-behind upto f (before-reaches upto x (at_of f) b h.0))

cond-none : (f : Frag) (b : Bool) → cond b (Some f) None ≡ None → b ≡ false
cond-none f true e = absurd (cc)
cond-none f false e = refl

-- where nothing stands up to a position, nothing is said there but the tombstone in force
pub quiet-upto : (near y : Pos) (tomb : Option Tomb) (fs : List Frag) → IsOrdered fs → first_upto near fs ≡ None → Reaches y near → said_at y tomb fs ≡ (empty_row, tomb)
quiet-upto near y tomb [] o e r = refl
quiet-upto near y tomb (f ∷ fs) o e r = quiet-before y (at_of f) tomb (f ∷ fs) (reach-before y near (at_of f) r (behind-upto near f o.0 (cond-none f (is_upto near f) e))) (from-first f fs o)

pub from-upto : (near : Pos) (fs : List Frag) → IsOrdered fs → first_upto near fs ≡ None → StandFrom near fs
from-upto near [] o e = tt
from-upto near (f ∷ fs) o e = from-on near (at_of f) (f ∷ fs) (before-reach near (at_of f) (behind-upto near f o.0 (cond-none f (is_upto near f) e))) (from-first f fs o)

-- ---- what the first says

pub row-said : (key : List Comp) (row : Row) (tomb : Option Tomb) (fs : List Frag) → said_at (row_pos key) tomb (frag.Row key row ∷ fs) ≡ (row, tomb)
row-said key row tomb fs =
    let x = row_pos key in
    ap (λ d. pair (row_of_these (cond d (row ∷ []) [] ++ rows_here x fs)) (force x tomb (frag.Row key row ∷ fs))) (itself x)
    ∙ ap (λ r. pair row (cond (is_lt r) (force x tomb fs) tomb)) (tied_itself pos_cmp_total x)

pub over-row : (key : List Comp) (row : Row) (tomb : Option Tomb) (fs : List Frag) (y : Pos) → IsBefore (row_pos key) y → said_at y tomb (frag.Row key row ∷ fs) ≡ said_at y tomb fs
over-row key row tomb fs y b =
    ap (λ r. pair (row_of_these (cond (is_eq r) (row ∷ []) [] ++ rows_here y fs)) (force y tomb (frag.Row key row ∷ fs))) (turned-before (row_pos key) y b)
    ∙ ap (λ r. pair (row_of_these (rows_here y fs)) (cond (is_lt r) (force y tomb fs) tomb)) b

pub over-change : (from : Pos) (tomb next : Option Tomb) (fs : List Frag) (y : Pos) → Reaches from y → said_at y tomb (frag.Change from next ∷ fs) ≡ said_at y next fs
over-change from tomb next fs y r = ap (λ c. pair (row_of_these (rows_here y fs)) (cond c (force y next fs) tomb)) r

pub behind-its-row : (key : List Comp) → IsBefore (row_pos key) (behind_row key)
behind-its-row key = subst (λ k. IsBefore (row_pos k) (behind_row key)) (append-none key) (After-rows key []) where
  append-none : (xs : List Comp) → xs ++ [] ≡ xs
  append-none [] = refl
  append-none (x ∷ xs) = ap (λ ys. x ∷ ys) (append-none xs)

-- an empty row says nothing
pub over-empty : (key : List Comp) (row : Row) (tomb : Option Tomb) (fs : List Frag) → row ≡ empty_row → IsOrdered (frag.Row key row ∷ fs) → AreRowsApart (frag.Row key row ∷ fs) → (y : Pos) → said_at y tomb (frag.Row key row ∷ fs) ≡ said_at y tomb fs
over-empty key row tomb fs e o a y =
    elim (either-way y (row_pos key)) [
      | inl h ↦ elim (either-way (row_pos key) y) [
        | inl k ↦
            let same : y ≡ row_pos key = same-place y (row_pos key) h k in
            ap (λ z. said_at z tomb (frag.Row key row ∷ fs)) same
            ∙ row-said key row tomb fs
            ∙ ap (λ r. pair r tomb) e
            ∙ sym (quiet-before (row_pos key) (behind_row key) tomb fs (behind-its-row key) a.0)
            ∙ ap (λ z. said_at z tomb fs) (sym same)
        | inr k ↦
            quiet-before y (row_pos key) tomb (frag.Row key row ∷ fs) k (from-first (frag.Row key row) fs o)
            ∙ sym (quiet-before y (row_pos key) tomb fs k (from-behind (row_pos key, 1) fs o.1))
      ]
      | inr h ↦ over-row key row tomb fs y h
    ]

-- ---- a canonical list by what it says

abbrev row_side : There → Row
row_side v = v.0

abbrev tomb_side : There → Option Tomb
tomb_side v = v.1

change-force : (x : Pos) (tomb next : Option Tomb) (fs : List Frag) → IsOrdered (frag.Change x next ∷ fs) → force x tomb (frag.Change x next ∷ fs) ≡ next
change-force x tomb next fs o = ap tomb_side (over-change x tomb next fs x (reach-itself x)) ∙ stop x (x, 0) next fs o.2 o.1 (irreflexive (x, 0))

-- what is first says something at its place
pub first-says : (tomb : Option Tomb) (f : Frag) (fs : List Frag) → IsOrdered (f ∷ fs) → IsTelling tomb (f ∷ fs) → AreWritten (f ∷ fs) → said_at (at_of f) tomb (f ∷ fs) ≡ (empty_row, tomb) → ⊥
first-says tomb (frag.Start pt) fs o t w e = o.0
first-says tomb (frag.Static row) fs o t w e = o.0
first-says tomb (frag.Row key row) fs o t w e = w.0 (ap row_side (sym (row-said key row tomb fs) ∙ e))
first-says tomb (frag.Change from next) fs o t w e = unlike tomb next t.0 (sym (ap tomb_side e) ∙ change-force from tomb next fs o)
first-says tomb frag.End fs o t w e = o.0

-- over a stretch where nothing is said nothing stands
pub from-gap : (x z : Pos) (tomb : Option Tomb) (fs : List Frag) → IsOrdered fs → IsTelling tomb fs → AreWritten fs → StandFrom x fs → ((y : Pos) → Reaches x y → IsBefore y z → said_at y tomb fs ≡ (empty_row, tomb)) → StandFrom z fs
from-gap x z tomb [] o t w h q = tt
from-gap x z tomb (f ∷ fs) o t w h q =
    elim (either-way z (at_of f)) [
      | inl r ↦ from-on z (at_of f) (f ∷ fs) r (from-first f fs o)
      | inr b ↦ absurd (first-says tomb f fs o t w (q (at_of f) h.0 b))
    ]

pub gap-read : (S : Pos → There → Type 0) (x z to : Pos) (tomb : Option Tomb) (fs : List Frag) → Reads S x to tomb fs → Reaches x z → ((y : Pos) → Reaches x y → IsBefore y z → said_at y tomb fs ≡ (empty_row, tomb)) → Reads S z to tomb fs
gap-read S x z to tomb fs r on q = record {
  ordered = r.ordered;
  telling = r.telling;
  written = r.written;
  apart = r.apart;
  from = from-gap x z tomb fs r.ordered r.telling r.written r.from q;
  within = λ y v h b s. r.within y v (reach-through x z y on h) b s;
  beyond = λ y h k. r.beyond y (reach-through x z y on h) k;
}

-- ---- the change at the place

abbrev pub change_if : Pos → Option Tomb → Option Tomb → List Frag
change_if x tomb next = cond (same_tomb tomb next) [] (frag.Change x next ∷ [])

-- a list that says another tombstone at its place begins with the change to it; else it is as if that one were in force
pub record Turns (S : Pos → There → Type 0) (x to : Pos) (tomb next : Option Tomb) (fs : List Frag) : Type 0 where
  pub left : List Frag
  pub begins : fs ≡ change_if x tomb next ++ left
  pub reads : Reads S x to next left
  pub says : (y : Pos) → Reaches x y → said_at y tomb fs ≡ said_at y next left

begins-changed : (x : Pos) (tomb next : Option Tomb) (fs : List Frag) → IsOrdered fs → StandFrom x fs → force x tomb fs ≡ next → same_tomb tomb next ≡ false → (gs : List Frag) × (fs ≡ frag.Change x next ∷ gs)
begins-changed x tomb next [] o h e d = absurd (unlike tomb next d e)
begins-changed x tomb next (frag.Start pt ∷ fs) o h e d = absurd o.0
begins-changed x tomb next (frag.Static row ∷ fs) o h e d = absurd o.0
begins-changed x tomb next (frag.Row key row ∷ fs) o h e d = absurd (unlike tomb next d (sym (unrow (pos_cmp (row_pos key) x) refl) ∙ e)) where
  unrow : (r : Ordering) → pos_cmp (row_pos key) x ≡ r → force x tomb (frag.Row key row ∷ fs) ≡ tomb
  unrow Less k = absurd (never-before (row_pos key) x h.0 k)
  unrow Equal k = ap (λ r. cond (is_lt r) (force x tomb fs) tomb) k
  unrow Greater k = ap (λ r. cond (is_lt r) (force x tomb fs) tomb) k
begins-changed x tomb next (frag.Change from other ∷ fs) o h e d =
    elim (either-way from x) [
      | inl r ↦
          let same : from ≡ x = same-place from x r h.0 in
          let said : other ≡ next = sym (change-force from tomb other fs o) ∙ ap (λ z. force z tomb (frag.Change from other ∷ fs)) same ∙ e in
          (fs, λ i. frag.Change (same i) (said i) ∷ fs)
      | inr b ↦ absurd (unlike tomb next d (sym (force-behind x from tomb (frag.Change from other ∷ fs) b (from-first (frag.Change from other) fs o)) ∙ e))
    ]
begins-changed x tomb next (frag.End ∷ fs) o h e d = absurd o.0

taken-change : (S : Pos → There → Type 0) (x to : Pos) (tomb next : Option Tomb) (fs gs : List Frag) → fs ≡ frag.Change x next ∷ gs → Reads S x to tomb fs → Reads S x to next gs
taken-change S x to tomb next fs gs e r =
    let q : Reads S x to tomb (frag.Change x next ∷ gs) = subst (Reads S x to tomb) e r in
    record {
      ordered = q.ordered.2;
      telling = q.telling.1;
      written = q.written;
      apart = q.apart;
      from = q.from.1;
      within = λ y v h b s. q.within y v h b s ∙ over-change x tomb next gs y h;
      beyond = λ y h k. sym (over-change x tomb next gs y h) ∙ q.beyond y h k;
    }

pub turns : (S : Pos → There → Type 0) (x to : Pos) (tomb next : Option Tomb) (fs : List Frag) → Reads S x to tomb fs → force x tomb fs ≡ next → Turns S x to tomb next fs
turns S x to tomb next fs r e =
    elim (same_tomb tomb next) as (λ b. same_tomb tomb next ≡ b → Turns S x to tomb next fs) [
      | true ↦ λ k.
          let same : tomb ≡ next = same-tombs tomb next k in
          record {
            left = fs;
            begins = ap (λ c. cond c [] (frag.Change x next ∷ []) ++ fs) (sym k);
            reads = subst (λ t. Reads S x to t fs) same r;
            says = λ y h. ap (λ t. said_at y t fs) same;
          }
      | false ↦ λ k.
          let c = begins-changed x tomb next fs r.ordered r.from e k in
          record {
            left = c.0;
            begins = c.1 ∙ ap (λ b. cond b [] (frag.Change x next ∷ []) ++ c.0) (sym k);
            reads = taken-change S x to tomb next fs c.0 c.1 r;
            says = λ y h. ap (said_at y tomb) c.1 ∙ over-change x tomb next c.0 y h;
          }
    ] refl

-- ---- the row at the place

pub record HasRow (S : Pos → There → Type 0) (key : List Comp) (row : Row) (to : Pos) (tomb : Option Tomb) (fs : List Frag) : Type 0 where
  pub left : List Frag
  pub begins : fs ≡ frag.Row key row ∷ left
  pub reads : Reads S (behind_row key) to tomb left
  pub says : (y : Pos) → Reaches (behind_row key) y → said_at y tomb fs ≡ said_at y tomb left

begins-row : (key : List Comp) (row : Row) (tomb : Option Tomb) (fs : List Frag) → IsOrdered fs → IsTelling tomb fs → StandFrom (row_pos key) fs → said_at (row_pos key) tomb fs ≡ (row, tomb) → row ≢ empty_row → (gs : List Frag) × (fs ≡ frag.Row key row ∷ gs)
begins-row key row tomb [] o t h e d = absurd (d (ap row_side (sym e)))
begins-row key row tomb (frag.Start pt ∷ fs) o t h e d = absurd o.0
begins-row key row tomb (frag.Static r ∷ fs) o t h e d = absurd o.0
begins-row key row tomb (frag.Row key' r ∷ fs) o t h e d =
    elim (either-way (row_pos key') (row_pos key)) [
      | inl k ↦
          let same : row_pos key' ≡ row_pos key = same-place (row_pos key') (row_pos key) k h.0 in
          let keys : key' ≡ key = ap (λ (p : Pos). p.prefix) same in
          let rows : r ≡ row = ap row_side (sym (row-said key' r tomb fs) ∙ ap (λ z. said_at z tomb (frag.Row key' r ∷ fs)) same ∙ e) in
          (fs, λ i. frag.Row (keys i) (rows i) ∷ fs)
      | inr b ↦ absurd (d (ap row_side (sym e ∙ quiet-before (row_pos key) (row_pos key') tomb (frag.Row key' r ∷ fs) b (from-first (frag.Row key' r) fs o))))
    ]
begins-row key row tomb (frag.Change from next ∷ fs) o t h e d =
    elim (either-way from (row_pos key)) [
      | inl k ↦
          let same : from ≡ row_pos key = same-place from (row_pos key) k h.0 in
          absurd (unlike tomb next t.0 (sym (ap tomb_side e) ∙ ap (λ z. force z tomb (frag.Change from next ∷ fs)) (sym same) ∙ change-force from tomb next fs o))
      | inr b ↦ absurd (d (ap row_side (sym e ∙ quiet-before (row_pos key) from tomb (frag.Change from next ∷ fs) b (from-first (frag.Change from next) fs o))))
    ]
begins-row key row tomb (frag.End ∷ fs) o t h e d = absurd o.0

pub has-row : (S : Pos → There → Type 0) (key : List Comp) (row : Row) (to : Pos) (tomb : Option Tomb) (fs : List Frag) → Reads S (row_pos key) to tomb fs → said_at (row_pos key) tomb fs ≡ (row, tomb) → row ≢ empty_row → HasRow S key row to tomb fs
has-row S key row to tomb fs r e d =
    let c = begins-row key row tomb fs r.ordered r.telling r.from e d in
    let gs = c.0 in
    let q : Reads S (row_pos key) to tomb (frag.Row key row ∷ gs) = subst (Reads S (row_pos key) to tomb) c.1 r in
    let on : (y : Pos) → Reaches (behind_row key) y → IsBefore (row_pos key) y = λ y h. before-reaches (row_pos key) (behind_row key) y (behind-its-row key) h in
    record {
      left = gs;
      begins = c.1;
      reads = record {
        ordered = q.ordered.2;
        telling = q.telling.1;
        written = q.written.1;
        apart = q.apart.1;
        from = q.apart.0;
        within = λ y v h b s. q.within y v (before-reach (row_pos key) y (on y h)) b s ∙ over-row key row tomb gs y (on y h);
        beyond = λ y h k. sym (over-row key row tomb gs y (on y h)) ∙ q.beyond y (before-reach (row_pos key) y (on y h)) k;
      };
      says = λ y h. ap (said_at y tomb) c.1 ∙ over-row key row tomb gs y (on y h);
    }

-- ---- the end of the slice, and a seek

pub ended : (S : Pos → There → Type 0) (x to : Pos) (fs : List Frag) → Reads S x to None fs → Reaches to x → fs ≡ []
ended S x to [] r h = refl
ended S x to (f ∷ fs) r h = absurd (first-says None f fs r.ordered r.telling r.written (r.beyond (at_of f) r.from.0 (reach-through to x (at_of f) h r.from.0)))

written-onward : (x : Pos) (fs : List Frag) → AreWritten fs → AreWritten (onward x fs)
written-onward x [] h = tt
written-onward x (f ∷ fs) h = elim (is_passed x f) as (λ b. AreWritten (cond b (onward x fs) (f ∷ fs))) [ true ↦ written-onward x fs (rest-written f fs h) | false ↦ h ] where
  rest-written : (f : Frag) (fs : List Frag) → AreWritten (f ∷ fs) → AreWritten fs
  rest-written (frag.Start pt) fs h = h
  rest-written (frag.Static row) fs h = h
  rest-written (frag.Row key row) fs h = h.1
  rest-written (frag.Change from tomb) fs h = h
  rest-written frag.End fs h = h

pub rest-apart : (f : Frag) (fs : List Frag) → AreRowsApart (f ∷ fs) → AreRowsApart fs
rest-apart (frag.Start pt) fs h = h
rest-apart (frag.Static row) fs h = h
rest-apart (frag.Row key row) fs h = h.1
rest-apart (frag.Change from tomb) fs h = h
rest-apart frag.End fs h = h

apart-onward : (x : Pos) (fs : List Frag) → AreRowsApart fs → AreRowsApart (onward x fs)
apart-onward x [] h = tt
apart-onward x (f ∷ fs) h = elim (is_passed x f) as (λ b. AreRowsApart (cond b (onward x fs) (f ∷ fs))) [ true ↦ apart-onward x fs (rest-apart f fs h) | false ↦ h ]

abbrev pub sought_from : Pos → Option Tomb → List Frag → List Frag
sought_from x tomb fs = opening x (force x tomb fs) ++ onward x fs

written-opening : (x : Pos) (t : Option Tomb) (fs : List Frag) → AreWritten fs → AreWritten (opening x t ++ fs)
written-opening x None fs h = h
written-opening x (Some t) fs h = h

apart-opening : (x : Pos) (t : Option Tomb) (fs : List Frag) → AreRowsApart fs → AreRowsApart (opening x t ++ fs)
apart-opening x None fs h = h
apart-opening x (Some t) fs h = h

from-opening : (x : Pos) (t : Option Tomb) (fs : List Frag) → StandFrom x fs → StandFrom x (opening x t ++ fs)
from-opening x None fs h = h
from-opening x (Some t) fs h = (reach-itself x, h)

pub sought-apart : (x : Pos) (tomb : Option Tomb) (fs : List Frag) → AreRowsApart fs → AreRowsApart (sought_from x tomb fs)
sought-apart x tomb fs h = apart-opening x (force x tomb fs) (onward x fs) (apart-onward x fs h)

pub sought-from : (x : Pos) (tomb : Option Tomb) (fs : List Frag) → IsOrdered fs → StandFrom x (sought_from x tomb fs)
sought-from x tomb fs o = from-opening x (force x tomb fs) (onward x fs) (from-behind (x, 0) (onward x fs) (onward-ordered x fs o).1)

pub sought-there : (x y : Pos) (tomb : Option Tomb) (fs : List Frag) → Reaches x y → said_at y None (sought_from x tomb fs) ≡ said_at y tomb fs
sought-there x y tomb fs h =
    ap (λ rs. pair (row_of_these rs) (force y None (sought_from x tomb fs))) (rows-opening x y (force x tomb fs) (onward x fs) ∙ rows-onward x y h fs)
    ∙ ap (pair (row_of_these (rows_here y fs))) (force-opening x y h (force x tomb fs) (onward x fs) ∙ sym (force-onward x y h tomb fs))

pub sought-read : (S : Pos → There → Type 0) (x z to : Pos) (tomb : Option Tomb) (fs : List Frag) → Reads S x to tomb fs → Reaches x z → Reads S z to None (sought_from z tomb fs)
sought-read S x z to tomb fs r on = record {
  ordered = sought-ordered z tomb fs r.ordered;
  telling = sought-telling z tomb fs r.telling;
  written = written-opening z (force z tomb fs) (onward z fs) (written-onward z fs r.written);
  apart = sought-apart z tomb fs r.apart;
  from = sought-from z tomb fs r.ordered;
  within = λ y v h b s. r.within y v (reach-through x z y on h) b s ∙ sym (sought-there z y tomb fs h);
  beyond = λ y h k. sought-there z y tomb fs h ∙ r.beyond y (reach-through x z y on h) k;
}
