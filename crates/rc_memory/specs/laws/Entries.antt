-- Which objects a version has after a split, a row joined, marks set, and an entry taken out.
use Rattle.std.proofs.Common.{◌≡◌, ◌≢◌, ◌⊎◌, Bool, true, false, cond, List, [], ◌∷◌, Option, Some, None, inl, inr, refl, sym, ap, ◌∙◌, subst}
use Rattle.std.specs.Prelude.{IsTrue}
use Rattle.std.specs.Ordering.{eq_by_cmp, is_eq}
use Rattle.std.specs.declared.cmp.Ordering.TheVariants.{Less, Equal, Greater}
use Rattle.rc_cell.specs.declared.rows.Row.{Row}
use Rattle.rc_position.specs.declared.positions.Pos.{Pos}
use Rattle.rc_position.specs.Position.{IsBefore, pos_cmp}
use Rattle.rc_position.specs.laws.Orders.{eq_by_cmp-same, pos_cmp_same, pos_cmp_total}
use Rattle.rc_registry.specs.Entry.{Entry}
use Rattle.rc_registry.specs.Mark.{Mark}
use Rattle.rc_registry.specs.AtPlace.{HasEntryAt}
use Rattle.rc_registry.specs.Change.{at_entry, drop_at, gap_split, lost_mark, split_by, take_out, with_first_gap, with_row}
use Rattle.rc_registry.specs.Continuity.{with_entries}
use Rattle.rc_registry.specs.Steps.{row_joined}
use Rattle.rc_registry.specs.Version.{Ascend, EndsWithDummy, Version}
use Rattle.rc_registry.specs.Placed.{ahead_of, has-split, has-taken_out, stands-has}
use Rattle.rc_registry.specs.Spots.{ascend-tail, position-reached, split-stands}
use Rattle.rc_memory.specs.Recency.{HasObject}

-- ---- entries

pub split-has : (x y : Pos) (es : List Entry) → HasEntryAt y (gap_split x es) → HasEntryAt y es ⊎ (y ≡ x)
split-has x y [] h = absurd h
split-has x y (e ∷ es) h = (elim (pos_cmp x e.position) as (λ r. HasEntryAt y (split_by r x e es (gap_split x es)) → HasEntryAt y (e ∷ es) ⊎ (y ≡ x)) [
  | Less ↦ λ k. elim k [ inl here ↦ inr (sym here) | inr later ↦ inl later ]
  | Equal ↦ λ k. inl k
  | Greater ↦ λ k. elim k [
    | inl here ↦ inl (inl here)
    | inr later ↦ elim (split-has x y es later) [ inl old ↦ inl (inr old) | inr made ↦ inr made ]
  ]
]) h

module _ (f : Entry → Entry) (stays : (e : Entry) → (f e).position ≡ e.position) where
  position_stays : (b : Bool) (e : Entry) → (cond b (f e) e).position ≡ e.position
  position_stays true e = stays e
  position_stays false e = refl

  pub has-at : (x y : Pos) (es : List Entry) → HasEntryAt y es → HasEntryAt y (at_entry x f es)
  has-at x y [] h = absurd h
  has-at x y (e ∷ es) (inl here) = inl (position_stays (eq_by_cmp pos_cmp x e.position) e ∙ here)
  has-at x y (e ∷ es) (inr later) = inr (has-at x y es later)

  pub at-has : (x y : Pos) (es : List Entry) → HasEntryAt y (at_entry x f es) → HasEntryAt y es
  at-has x y [] h = absurd h
  at-has x y (e ∷ es) (inl here) = inl (sym (position_stays (eq_by_cmp pos_cmp x e.position) e) ∙ here)
  at-has x y (e ∷ es) (inr later) = inr (at-has x y es later)

first_has : (m : Mark) (y : Pos) (es : List Entry) → HasEntryAt y (with_first_gap m es) → HasEntryAt y es
first_has m y [] h = h
first_has m y (e ∷ es) h = h

differ : (x y : Pos) → false ≡ eq_by_cmp pos_cmp x y → x ≢ y
differ x y e same = let t : IsTrue false = (eq_by_cmp-same pos_cmp_total pos_cmp_same x y false e).1 same in cc t

pub before-differs : (x y : Pos) → IsBefore x y → x ≢ y
before-differs x y l = differ x y (ap is_eq (sym l))

pub taken-has : (m : Mark) (x y : Pos) (es : List Entry) → Ascend es → HasEntryAt y (take_out m x es) → HasEntryAt y es × (y ≢ x)
taken-has m x y [] a h = absurd h
taken-has m x y (e ∷ es) a h = told (λ k. taken-has m x y es (ascend-tail e es a) k) (eq_by_cmp pos_cmp x e.position) refl h
  where
    told : (HasEntryAt y (take_out m x es) → HasEntryAt y es × (y ≢ x)) → (b : Bool) → b ≡ eq_by_cmp pos_cmp x e.position → HasEntryAt y (cond b (with_first_gap m es) (e ∷ take_out m x es)) → HasEntryAt y (e ∷ es) × (y ≢ x)
    told further true is k = let later = first_has m y es k in let same : x ≡ e.position = (eq_by_cmp-same pos_cmp_total pos_cmp_same x e.position true is).0 refl in
        (inr later, λ this. before-differs e.position x (ahead_of x e es a (subst (λ z. HasEntryAt z es) this later)) (sym same))
    told further false is (inl here) = (inl here, λ this. differ x e.position is (sym this ∙ sym here))
    told further false is (inr later) = let r = further later in (inr r.0, r.1)

-- ---- objects

module _ (v : Version) (x : Pos) where
  pub keeps-split : (at : Option Pos) → HasObject v at → HasObject (with_entries (gap_split x v.entries) v) at
  keeps-split None h = h
  keeps-split (Some y) h = has-split x y v.entries h

  pub only-split : (at : Option Pos) → HasObject (with_entries (gap_split x v.entries) v) at → HasObject v at ⊎ (at ≡ Some x)
  only-split None h = inl h
  only-split (Some y) h = elim (split-has x y v.entries h) [ inl old ↦ inl old | inr made ↦ inr (ap (λ z. Some z) made) ]

  pub here-split : EndsWithDummy v.entries → HasObject (with_entries (gap_split x v.entries) v) (Some x)
  here-split ends = stands-has x (gap_split x v.entries) (split-stands x v.entries (position-reached x v.entries ends))

  pub here-joined : EndsWithDummy v.entries → (row : Row) → HasObject (row_joined x row v) (Some x)
  here-joined ends row = has-at (with_row row) (λ e. refl) x x (gap_split x v.entries) (here-split ends)

  pub keeps-joined : (row : Row) (at : Option Pos) → HasObject v at → HasObject (row_joined x row v) at
  keeps-joined row None h = h
  keeps-joined row (Some y) h = has-at (with_row row) (λ e. refl) x y (gap_split x v.entries) (has-split x y v.entries h)

  pub only-joined : (row : Row) (at : Option Pos) → HasObject (row_joined x row v) at → HasObject v at ⊎ (at ≡ Some x)
  only-joined row None h = inl h
  only-joined row (Some y) h = elim (split-has x y v.entries (at-has (with_row row) (λ e. refl) x y (gap_split x v.entries) h)) [ inl old ↦ inl old | inr made ↦ inr (ap (λ z. Some z) made) ]

  -- what is done to an entry that keeps its position
  pub keeps-marks : (f : Entry → Entry) → ((e : Entry) → (f e).position ≡ e.position) → (at : Option Pos) → HasObject v at → HasObject (with_entries (at_entry x f v.entries) v) at
  keeps-marks f stays None h = h
  keeps-marks f stays (Some y) h = has-at f stays x y v.entries h

  pub only-marks : (f : Entry → Entry) → ((e : Entry) → (f e).position ≡ e.position) → (at : Option Pos) → HasObject (with_entries (at_entry x f v.entries) v) at → HasObject v at
  only-marks f stays None h = h
  only-marks f stays (Some y) h = at-has f stays x y v.entries h

  pub keeps-dropped : (at : Option Pos) → at ≢ Some x → HasObject v at → HasObject (with_entries (drop_at x v.entries) v) at
  keeps-dropped None ne h = h
  keeps-dropped (Some y) ne h = has-taken_out lost_mark x y (λ same. ne (ap (λ z. Some z) same)) v.entries h

  pub only-dropped : Ascend v.entries → (at : Option Pos) → HasObject (with_entries (drop_at x v.entries) v) at → HasObject v at × (at ≢ Some x)
  only-dropped a None h = (h, λ e. cc e)
  only-dropped a (Some y) h = let r = taken-has lost_mark x y v.entries a h in (r.0, λ e. r.1 (cc e))
