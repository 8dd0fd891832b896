-- The fragments of a mutation are filled in their order: between them nothing is said.
use Rattle.std.specs.Prelude.{ℕ, ◌≡◌, Bool, true, false, cond, List, [], ◌∷◌, ◌++◌, Option, None}
use Rattle.std.proofs.Common.{refl, sym, ap, ◌∙◌, subst}
use Rattle.std.specs.declared.cmp.Ordering.{Ordering}
use Rattle.std.specs.declared.cmp.Ordering.TheVariants.{Less, Equal, Greater}
use Rattle.std.specs.Ordering.{is_eq, is_le, is_lt, nat_cmp, ordering_reverse, ordering_then}
use Rattle.std.specs.Cmp.{tied_itself}
use Rattle.rc_cell.specs.declared.rows.Row.{Row}
use Rattle.rc_cell.specs.declared.writes.Tomb.{Tomb}
use Rattle.rc_cell.specs.Winner.{empty_row}
use Rattle.rc_position.specs.declared.comps.Comp.{Comp}
use Rattle.rc_position.specs.declared.positions.Pos.{Pos}
use Rattle.rc_position.specs.declared.positions.Weight.TheVariants.{After, At}
use Rattle.rc_position.specs.Position.{IsBefore, pos_cmp, row_pos}
use Rattle.rc_position.specs.laws.Bounds.{After-rows}
use Rattle.rc_position.specs.laws.Orders.{pos_cmp_same, pos_cmp_total}
use Rattle.rc_mutation.specs.declared.fragments.Frag.{Frag}
use Rattle.rc_mutation.specs.declared.fragments.Frag.TheVariants as frag
use Rattle.rc_mutation.specs.declared.mutations.Mutation.{Mutation}
use Rattle.rc_mutation.specs.Fragments.{fragments, is_written, rows_and_changes, static_fragment, tomb_after}
use Rattle.rc_mutation.specs.Source.{SameSource, source_at}
use Rattle.rc_core.specs.Version.{end_position}
use Rattle.rc_stream.specs.Merging.{IsOrdered, StandsBefore, place_of, rows_here}
use Rattle.rc_stream.specs.Places.{Reaches}
use Rattle.rc_stream.specs.Snapshot.{SayThere, There}
use Rattle.rc_stream.specs.Stream.{force, is_passed, row_at, stream_of}
use Rattle.rc_stream.specs.laws.Ordered.{itself}
use Rattle.rc_cacheread.specs.Reading.{AreRowsApart, AreWritten, Reads, StandFrom, behind_row, row_of_these, said_at}
use Rattle.rc_snapshots.specs.Streams.{first_position}
use Rattle.rc_lookup.specs.calls.Filling.{NoEmptyRows, SaysAll, SaysNone, past}
use Rattle.rc_lookup.proofs.Orders.{reaches-end}
use Rattle.rc_lookup.proofs.Orders.{before-reach, before-reaches, reach-itself, reach-through}

-- ---- by where fragments stand

abbrev at_of : Frag → Pos
at_of f = (place_of f).0

turned : (x y : Pos) → IsBefore x y → pos_cmp y x ≡ Greater
turned x y e = pos_cmp_total.antisymm y x ∙ ap ordering_reverse e

unpassed-behind : (x : Pos) (f : Frag) → IsBefore x (at_of f) → is_passed x f ≡ false
unpassed-behind x (frag.Start pt) h = refl
unpassed-behind x (frag.Static row) h = refl
unpassed-behind x (frag.Row key row) h = ap is_lt (turned x (row_pos key) h)
unpassed-behind x (frag.Change from tomb) h = ap is_le (turned x from h)
unpassed-behind x frag.End h = refl

no-row-behind : (x : Pos) (f : Frag) → IsBefore x (at_of f) → row_at x f ≡ []
no-row-behind x (frag.Start pt) h = refl
no-row-behind x (frag.Static row) h = refl
no-row-behind x (frag.Row key row) h = ap (λ r. cond (is_eq r) (row ∷ []) []) h
no-row-behind x (frag.Change from tomb) h = refl
no-row-behind x frag.End h = refl

no-rows-behind : (x y : Pos) (fs : List Frag) → IsBefore x y → StandFrom y fs → rows_here x fs ≡ []
no-rows-behind x y [] b h = refl
no-rows-behind x y (f ∷ fs) b h = ap (λ rs. rs ++ rows_here x fs) (no-row-behind x f (before-reaches x y (at_of f) b h.0)) ∙ no-rows-behind x y fs b h.1

abbrev pair : Row → Option Tomb → There
pair r t = (r, t)

force-behind : (x y : Pos) (tomb : Option Tomb) (fs : List Frag) → IsBefore x y → StandFrom y fs → force x tomb fs ≡ tomb
force-behind x y tomb [] b h = refl
force-behind x y tomb (f ∷ fs) b h = ap (λ c. cond c (force x (tomb_after tomb f) fs) tomb) (unpassed-behind x f (before-reaches x y (at_of f) b h.0))

-- before all fragments nothing is said but the tombstone in force
quiet-before : (x y : Pos) (tomb : Option Tomb) (fs : List Frag) → IsBefore x y → StandFrom y fs → said_at x tomb fs ≡ (empty_row, tomb)
quiet-before x y tomb fs b h = ap (λ rs. pair (row_of_these rs) (force x tomb fs)) (no-rows-behind x y fs b h) ∙ ap (pair empty_row) (force-behind x y tomb fs b h)

then-le : (r s : Ordering) → ordering_then r s ≡ Less → is_le r ≡ true
then-le Less s e = refl
then-le Equal s e = refl
then-le Greater s e = absurd (cc)

from-behind : (p : Pos) (n : ℕ) (fs : List Frag) → StandsBefore (p, n) fs → StandFrom p fs
from-behind p n [] h = tt
from-behind p n (f ∷ fs) h = (then-le (pos_cmp p (at_of f)) (nat_cmp n (place_of f).1) h.0, from-behind p n fs h.1)

-- ---- what the first says

row-said : (key : List Comp) (row : Row) (tomb : Option Tomb) (fs : List Frag) → said_at (row_pos key) tomb (frag.Row key row ∷ fs) ≡ (row, tomb)
row-said key row tomb fs =
    let x = row_pos key in
    ap (λ d. pair (row_of_these (cond d (row ∷ []) [] ++ rows_here x fs)) (force x tomb (frag.Row key row ∷ fs))) (itself x)
    ∙ ap (λ r. pair row (cond (is_lt r) (force x tomb fs) tomb)) (tied_itself pos_cmp_total x)

over-row : (key : List Comp) (row : Row) (tomb : Option Tomb) (fs : List Frag) (y : Pos) → IsBefore (row_pos key) y → said_at y tomb (frag.Row key row ∷ fs) ≡ said_at y tomb fs
over-row key row tomb fs y b =
    ap (λ r. pair (row_of_these (cond (is_eq r) (row ∷ []) [] ++ rows_here y fs)) (force y tomb (frag.Row key row ∷ fs))) (turned (row_pos key) y b)
    ∙ ap (λ r. pair (row_of_these (rows_here y fs)) (cond (is_lt r) (force y tomb fs) tomb)) b

over-change : (from : Pos) (tomb next : Option Tomb) (fs : List Frag) (y : Pos) → Reaches from y → said_at y tomb (frag.Change from next ∷ fs) ≡ said_at y next fs
over-change from tomb next fs y r = ap (λ c. pair (row_of_these (rows_here y fs)) (cond c (force y next fs) tomb)) r

append-none : (xs : List Comp) → xs ++ [] ≡ xs
append-none [] = refl
append-none (x ∷ xs) = ap (λ ys. x ∷ ys) (append-none xs)

behind-its-row : (key : List Comp) → IsBefore (row_pos key) (behind_row key)
behind-its-row key = subst (λ k. IsBefore (row_pos k) (behind_row key)) (append-none key) (After-rows key [])

-- no row stands at the end
row-inside : (key : List Comp) → IsBefore (row_pos key) end_position
row-inside key =
    elim (pos_cmp (row_pos key) end_position) as (λ r. pos_cmp (row_pos key) end_position ≡ r → IsBefore (row_pos key) end_position) [
      | Less ↦ λ e. e
      | Equal ↦ λ e. (let w : At ≡ After = ap (λ (p : Pos). p.weight) (pos_cmp_same (row_pos key) end_position e) in absurd (cc))
      | Greater ↦ λ e. (let n : false ≡ true = sym (ap is_le e) ∙ reaches-end (row_pos key) in absurd (cc))
    ] refl

-- ---- what is read is what is filled

-- rows and changes that say what writes say from a place on; of `Reads` what an induction needs
record SaysOn (writes : List Mutation) (x : Pos) (tomb : Option Tomb) (fs : List Frag) : Type 0 where
  pub ordered : IsOrdered fs
  pub from : StandFrom x fs
  pub within : (y : Pos) → Reaches x y → IsBefore y end_position → source_at writes y ≡ said_at y tomb fs

on-gap : (writes : List Mutation) (x : Pos) (tomb : Option Tomb) (f : Frag) (fs : List Frag) → SaysOn writes x tomb (f ∷ fs) → SaysNone writes x (at_of f) tomb
on-gap writes x tomb f fs r = λ z h b. r.within z h (before-reaches z (at_of f) end_position b (reaches-end (at_of f))) ∙ quiet-before z (at_of f) tomb (f ∷ fs) b (reach-itself (at_of f), from-behind (at_of f) (place_of f).1 fs r.ordered.1)

on-all : (writes : List Mutation) (x : Pos) (tomb : Option Tomb) (fs : List Frag) → AreRowsApart fs → SaysOn writes x tomb fs → SaysAll writes x tomb fs
on-all writes x tomb [] a r = λ z h b. r.within z h b
on-all writes x tomb (frag.Start pt ∷ fs) a r = absurd r.ordered.0
on-all writes x tomb (frag.Static row ∷ fs) a r = absurd r.ordered.0
on-all writes x tomb (frag.Row key row ∷ fs) a r =
    let on : (y : Pos) → Reaches (behind_row key) y → IsBefore (row_pos key) y = λ y h. before-reaches (row_pos key) (behind_row key) y (behind-its-row key) h in (
      (on-gap writes x tomb (frag.Row key row) fs r, r.within (row_pos key) r.from.0 (row-inside key) ∙ row-said key row tomb fs),
      on-all writes (behind_row key) tomb fs a.1 (record { ordered = r.ordered.2; from = a.0; within = λ y h b. r.within y (reach-through x (row_pos key) y r.from.0 (before-reach (row_pos key) y (on y h))) b ∙ over-row key row tomb fs y (on y h) }),
    )
on-all writes x tomb (frag.Change from next ∷ fs) a r = (
  on-gap writes x tomb (frag.Change from next) fs r,
  on-all writes from next fs a (record { ordered = r.ordered.2; from = from-behind from 0 fs r.ordered.1; within = λ y h b. r.within y (reach-through x from y r.from.0 h) b ∙ over-change from tomb next fs y h }),
)
on-all writes x tomb (frag.End ∷ fs) a r = absurd r.ordered.0

-- ---- all fragments of a mutation

behind-end : (writes : List Mutation) (x : Pos) (tomb : Option Tomb) (fs : List Frag) → SaysAll writes x tomb fs → SaysAll writes x tomb (fs ++ (frag.End ∷ []))
behind-end writes x tomb [] s = (tt, s)
behind-end writes x tomb (f ∷ fs) s = (s.0, behind-end writes (past x f) (tomb_after tomb f) fs s.1)

behind-statics : (writes : List Mutation) (x : Pos) (tomb : Option Tomb) (row : Row) (b : Bool) (fs : List Frag) → SaysAll writes x tomb fs → SaysAll writes x tomb (cond b (frag.Static row ∷ []) [] ++ fs)
behind-statics writes x tomb row true fs s = (tt, s)
behind-statics writes x tomb row false fs s = s

written-end : (fs : List Frag) → AreWritten fs → NoEmptyRows (fs ++ (frag.End ∷ []))
written-end [] w = (tt, tt)
written-end (frag.Start pt ∷ fs) w = (tt, written-end fs w)
written-end (frag.Static row ∷ fs) w = (tt, written-end fs w)
written-end (frag.Row key row ∷ fs) w = (w.0, written-end fs w.1)
written-end (frag.Change from tomb ∷ fs) w = (tt, written-end fs w)
written-end (frag.End ∷ fs) w = (tt, written-end fs w)

written-statics : (row : Row) (b : Bool) (fs : List Frag) → AreWritten fs → AreWritten (cond b (frag.Static row ∷ []) [] ++ fs)
written-statics row true fs w = w
written-statics row false fs w = w

pub spelled : (m : Mutation) → fragments m ≡ ((frag.Start m.pt ∷ static_fragment m.statics) ++ rows_and_changes m) ++ (frag.End ∷ [])
unfolding fragments
spelled m = refl

module _ (m : Mutation) (left : (stream_of (fragments m)).left ≡ rows_and_changes m) (reads : Reads (SayThere (m ∷ [])) first_position end_position None (stream_of (fragments m)).left) where
  inner : Reads (SayThere (m ∷ [])) first_position end_position None (rows_and_changes m)
  inner = subst (Reads (SayThere (m ∷ [])) first_position end_position None) left reads

  -- what is written in its fragments
  pub all-written : NoEmptyRows (fragments m)
  all-written = subst NoEmptyRows (sym (spelled m)) (tt, written-end (static_fragment m.statics ++ rows_and_changes m) (written-statics m.statics (is_written m.statics) (rows_and_changes m) inner.written))

  -- writes that say the same say all of its fragments
  pub says-all : (writes : List Mutation) → SameSource (m ∷ []) writes → SaysAll writes first_position None (fragments m)
  says-all writes same =
      let on : SaysOn writes first_position None (rows_and_changes m) = record { ordered = inner.ordered; from = inner.from; within = λ y h b. sym (same.clustered y) ∙ inner.within y (source_at (m ∷ []) y) h b refl } in
      subst (SaysAll writes first_position None) (sym (spelled m))
      (tt, behind-end writes first_position None (static_fragment m.statics ++ rows_and_changes m) (behind-statics writes first_position None m.statics (is_written m.statics) (rows_and_changes m) (on-all writes first_position None (rows_and_changes m) inner.apart on)))
