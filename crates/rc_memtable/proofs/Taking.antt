-- What was read, with one part more.
use Rattle.std.proofs.Common.{◌≡◌, true, false, List, [], ◌∷◌, Option, Some, None, refl, sym, ap, ◌∙◌, subst, append-nil}
use Rattle.std.specs.declared.cmp.Ordering.TheVariants.{Less, Equal, Greater}
use Rattle.std.specs.Ordering.{is_eq}
use Rattle.rc_cell.specs.declared.rows.Row.{Row}
use Rattle.rc_cell.specs.declared.writes.Tomb.{Tomb}
use Rattle.rc_cell.specs.Orders.{tomb_cmp}
use Rattle.rc_cell.specs.Greatest.{greater}
use Rattle.rc_cell.specs.Winner.{empty_row, joined_row}
use Rattle.rc_cell.specs.laws.{joined_row-append, joined_row-none}
use Rattle.rc_position.specs.declared.comps.Comp.{Comp}
use Rattle.rc_position.specs.declared.positions.Pos.{Pos}
use Rattle.rc_position.specs.declared.positions.Weight.TheVariants.{Before, At, After}
use Rattle.rc_position.specs.Position.{IsBefore, pos_cmp, row_pos}
use Rattle.rc_position.specs.laws.Orders.{pos_cmp_same, pos_cmp_total}
use Rattle.rc_position.specs.laws.Bounds.{first_pos-least, last_pos-greatest}
use Rattle.rc_schema.specs.SchemaValue.{SchemaValue}
use Rattle.rc_ranges.specs.declared.pieces.Piece.{Piece}
use Rattle.rc_ranges.specs.Cover.{cover as range_tomb}
use Rattle.rc_ranges.specs.calls.Sweep.{lt}
use Rattle.rc_ranges.specs.laws.Order.{before-lt, gt-lt, le-same, lt-before, lt-le}
use Rattle.rc_ranges.specs.laws.Greater.{greater-none}
use Rattle.rc_ranges.specs.laws.Covering.{cover-cons, cover-none, piece_at, piece_at-before, piece_at-behind, piece_at-inside}
use Rattle.rc_mutation.specs.declared.mutations.Mutation.{Mutation}
use Rattle.rc_mutation.specs.Source.{all_pieces, all_rows, rows_in, source_at}
use Rattle.rc_mutation.specs.laws.OneMore.{rows_in-append}
use Rattle.rc_core.specs.declared.entries.ChainKind.TheVariants.{Memtable}
use Rattle.rc_core.specs.declared.parts.Part.{Part}
use Rattle.rc_core.specs.declared.parts.Part.TheVariants as part
use Rattle.rc_core.specs.Chain.{content, rows_from, states_at}
use Rattle.rc_core.specs.Parts.{IsFirstPart}
use Rattle.rc_core.specs.StandsFor.{piece_of, piece_over, place_after, row_in_part}
use Rattle.rc_core.specs.Version.{On, Version, end_position}
use Rattle.rc_core.specs.laws.Losing.{joined-again}
use Rattle.rc_core.specs.laws.Written.{memtable-known, no_rows_off, rows_here, rows_off}
use Rattle.rc_memtable.specs.calls.Reading.{IsPartTaken, IsReadUpTo, SayChanges, said_so_far}
use Rattle.rc_memtable.proofs.Ending.{before-after-key, never, row-place, row-seen}
use Rattle.rc_memtable.proofs.Whole.{GapsAreAlike, after, before-end, behind-row, covers-within}

-- ---- one piece

cover-one : (p : Piece) (y : Pos) → range_tomb (p ∷ []) y ≡ piece_at p y
cover-one p y = cover-cons p [] y ∙ ap (greater tomb_cmp (piece_at p y)) (cover-none y) ∙ greater-none (piece_at p y)

over-inside : (from to y : Pos) (t : Option Tomb) → lt y from ≡ false → lt y to ≡ true → range_tomb (piece_over from to t) y ≡ t
over-inside from to y None e f = cover-none y
over-inside from to y (Some t) e f = cover-one (record { from = from; to = to; tomb = t }) y ∙ piece_at-inside (record { from = from; to = to; tomb = t }) y e f

over-before : (from to y : Pos) (t : Option Tomb) → lt y from ≡ true → range_tomb (piece_over from to t) y ≡ None
over-before from to y None e = cover-none y
over-before from to y (Some t) e = cover-one (record { from = from; to = to; tomb = t }) y ∙ piece_at-before (record { from = from; to = to; tomb = t }) y e

over-behind : (from to y : Pos) (t : Option Tomb) → lt y to ≡ false → range_tomb (piece_over from to t) y ≡ None
over-behind from to y None e = cover-none y
over-behind from to y (Some t) e = cover-one (record { from = from; to = to; tomb = t }) y ∙ piece_at-behind (record { from = from; to = to; tomb = t }) y e

-- ---- what a part says

-- what a part that was got at x says at y
abbrev of_part : Part → Pos → Pos → Row × Option Tomb
of_part p x y = (joined_row (rows_in y (row_in_part p)), range_tomb (piece_of p x) y)

-- two things told at a position, as one
abbrev both_told : Row × Option Tomb → Row × Option Tomb → Row × Option Tomb
both_told a b = (joined_row (a.0 ∷ b.0 ∷ []), greater tomb_cmp a.1 b.1)

second-alone : (rs : List Row) → joined_row (empty_row ∷ joined_row rs ∷ []) ≡ joined_row rs
second-alone rs = ap (λ r. joined_row (r ∷ joined_row rs ∷ [])) (sym joined_row-none) ∙ sym (joined_row-append [] rs)

first-alone : (rs : List Row) → joined_row (joined_row rs ∷ empty_row ∷ []) ≡ joined_row rs
first-alone rs = ap (λ r. joined_row (joined_row rs ∷ r ∷ [])) (sym joined_row-none) ∙ sym (joined_row-append rs []) ∙ ap joined_row (append-nil rs)

module _ (rows : List (List Comp × Row)) (ranges : List Piece) (more_rows : List (List Comp × Row)) (more_ranges : List Piece) (p : Part) (x : Pos) (taken : IsPartTaken p x rows ranges more_rows more_ranges) where
  more-told : (y : Pos) → said_so_far more_rows more_ranges y ≡ both_told (said_so_far rows ranges y) (of_part p x y)
  more-told y = λ i. ((taken.row y ∙ ap joined_row (rows_in-append y rows (row_in_part p)) ∙ joined_row-append (rows_in y rows) (rows_in y (row_in_part p))) i, taken.tomb y i)

  -- where the part says nothing it is as it was
  as-it-was : (y : Pos) → of_part p x y ≡ (empty_row, None) → said_so_far more_rows more_ranges y ≡ said_so_far rows ranges y
  as-it-was y none =
      more-told y ∙ ap (both_told (said_so_far rows ranges y)) none
      ∙ (λ i. (first-alone (rows_in y rows) i, greater-none (range_tomb ranges y) i))

  -- where nothing was read it is what the part says
  as-the-part : (y : Pos) → said_so_far rows ranges y ≡ (empty_row, None) → said_so_far more_rows more_ranges y ≡ of_part p x y
  as-the-part y none =
      more-told y ∙ ap (λ a. both_told a (of_part p x y)) none
      ∙ (λ i. (second-alone (rows_in y (row_in_part p)) i, range_tomb (piece_of p x) y))

module _ (alike : GapsAreAlike) (schema : SchemaValue) (versions : List Version) (changes : List Mutation) (say : SayChanges schema versions changes) (x : Pos) (inside : IsBefore x end_position) where
  -- a row says nothing but at its position
  row-off : (key : List Comp) (row : Row) (y : Pos) → (y ≡ row_pos key → ⊥) → joined_row (rows_in y ((key, row) ∷ [])) ≡ empty_row
  row-off key row y off = ap joined_row (rows_off y key row (elim (pos_cmp y (row_pos key)) as (λ r. pos_cmp y (row_pos key) ≡ r → is_eq r ≡ false) [
    | Less ↦ λ e. refl
    | Equal ↦ λ e. absurd (off (pos_cmp_same y (row_pos key) e))
    | Greater ↦ λ e. refl
  ] refl)) ∙ joined_row-none

  part-before : (p : Part) → IsFirstPart Memtable versions x end_position p → (y : Pos) → IsBefore y x → of_part p x y ≡ (empty_row, None)
  part-before (part.Row key row tomb) p y l = λ i. (
    row-off key row y (λ e. never x (subst (λ z. IsBefore z x) (e ∙ sym (row-place schema versions changes say x inside key row tomb p)) l)) i,
    over-before x (after key) y tomb (before-lt y x l) i,
  )
  part-before (part.Gap to tomb) p y l = λ i. (joined_row-none i, over-before x to y tomb (before-lt y x l) i)
  part-before (part.Missing to) p y l = absurd (p.1 (memtable-known versions say.inherit x))
  part-before part.End p y l = absurd (never x (subst (λ z. IsBefore x z) (sym p) inside))

  part-behind : (p : Part) → IsFirstPart Memtable versions x end_position p → (y : Pos) → lt y (place_after p x) ≡ false → of_part p x y ≡ (empty_row, None)
  part-behind (part.Row key row tomb) p y e = λ i. (
    row-off key row y (λ same. let u : true ≡ false = sym (before-lt (row_pos key) (after key) (before-after-key key)) ∙ ap (λ z. lt z (after key)) (sym same) ∙ e in absurd (cc)) i,
    over-behind x (after key) y tomb e i,
  )
  part-behind (part.Gap to tomb) p y e = λ i. (joined_row-none i, over-behind x to y tomb e i)
  part-behind (part.Missing to) p y e = absurd (p.1 (memtable-known versions say.inherit x))
  part-behind part.End p y e = absurd (never x (subst (λ z. IsBefore x z) (sym p) inside))

  -- at a row's position, and behind it up to what is behind its key
  row-within : (key : List Comp) (row : Row) (tomb : Option Tomb) → IsFirstPart Memtable versions x end_position (part.Row key row tomb) → (y : Pos) → lt y x ≡ false → lt y (after key) ≡ true → of_part (part.Row key row tomb) x y ≡ content (states_at (On y) versions)
  row-within key row tomb p y e f = elim (lt x y) as (λ b. lt x y ≡ b → of_part (part.Row key row tomb) x y ≡ content (states_at (On y) versions)) [
    | true ↦ λ l.
        let beyond : IsBefore (row_pos key) y = subst (λ z. IsBefore z y) place (lt-before x y l) in
        let at : content (states_at (On (row_pos key)) versions) ≡ (row, tomb) = ap (λ z. content (states_at (On z) versions)) (sym place) ∙ p.4 in
        let seen = behind-row alike schema versions changes say key y beyond (lt-before y (after key) f) (subst (λ z. (content (states_at (On z) versions)).0 ≡ empty_row → ⊥) place (row-seen schema versions changes say x inside key row tomb p)) in
        (λ i. (row-off key row y (λ same. never y (subst (λ z. IsBefore z y) (sym same) beyond)) i, over-inside x (after key) y tomb e f i))
        ∙ sym (seen ∙ (λ i. (empty_row, ap (λ (a : Row × Option Tomb). a.1) at i)))
    | false ↦ λ l.
        let same : y ≡ x = le-same y x l e in
        let here : row_pos key ≡ y = sym place ∙ sym same in
        (λ i. ((ap joined_row (subst (λ z. rows_in z ((key, row) ∷ []) ≡ row ∷ []) here (rows_here key row)) ∙ row-is) i, over-inside x (after key) y tomb e f i))
        ∙ sym (ap (λ z. content (states_at (On z) versions)) same ∙ p.4)
  ] refl
    where
      place : x ≡ row_pos key
      place = row-place schema versions changes say x inside key row tomb p

      row-is : joined_row (row ∷ []) ≡ row
      row-is = let e : joined_row (rows_from (states_at (On x) versions)) ≡ row = ap (λ (a : Row × Option Tomb). a.0) p.4 in subst (λ r. joined_row (r ∷ []) ≡ r) e (joined-again (rows_from (states_at (On x) versions)))

  part-within : (p : Part) → IsFirstPart Memtable versions x end_position p → (y : Pos) → lt y x ≡ false → lt y (place_after p x) ≡ true → of_part p x y ≡ content (states_at (On y) versions)
  part-within (part.Row key row tomb) p y e f = row-within key row tomb p y e f
  part-within (part.Gap to tomb) p y e f =
      (λ i. (joined_row-none i, over-inside x to y tomb e f i))
      ∙ sym (alike Memtable versions x end_position to tomb p (say.even x) y (covers-within x to y e f)).0
  part-within (part.Missing to) p y e f = absurd (p.1 (memtable-known versions say.inherit x))
  part-within part.End p y e f = absurd (never x (subst (λ z. IsBefore x z) (sym p) inside))

  not-before : (y z : Pos) → lt y z ≡ false → IsBefore y z → ⊥
  not-before y z e l = let u : true ≡ false = sym (before-lt y z l) ∙ e in cc

  -- one part more was read
  pub read-more : (p : Part) → IsFirstPart Memtable versions x end_position p → IsBefore x (place_after p x) → (rows : List (List Comp × Row)) (ranges : List Piece) (more_rows : List (List Comp × Row)) (more_ranges : List Piece) →
      IsReadUpTo versions x rows ranges → IsPartTaken p x rows ranges more_rows more_ranges → IsReadUpTo versions (place_after p x) more_rows more_ranges
  read-more p q further rows ranges more_rows more_ranges read taken = record {
    before = λ y l. elim (lt y x) as (λ b. lt y x ≡ b → said_so_far more_rows more_ranges y ≡ content (states_at (On y) versions)) [
      | true ↦ λ e. as-it-was rows ranges more_rows more_ranges p x taken y (part-before p q y (lt-before y x e)) ∙ read.before y (lt-before y x e)
      | false ↦ λ e. as-the-part rows ranges more_rows more_ranges p x taken y (read.ahead y (not-before y x e)) ∙ part-within p q y e (before-lt y (place_after p x) l)
    ] refl;
    ahead = λ y off. elim (lt y (place_after p x)) as (λ b. lt y (place_after p x) ≡ b → said_so_far more_rows more_ranges y ≡ (empty_row, None)) [
      | true ↦ λ e. absurd (off (lt-before y (place_after p x) e))
      | false ↦ λ e. as-it-was rows ranges more_rows more_ranges p x taken y (part-behind p q y e) ∙ read.ahead y (λ l. off (pos_cmp_total.trans y x (place_after p x) l further))
    ] refl;
  }

-- ---- at the start, and at the end

-- the first of all positions
abbrev pub first_position : Pos
first_position = record { prefix = []; weight = Before }

pub read-none : (versions : List Version) → IsReadUpTo versions first_position [] []
read-none versions = record {
  before = λ y l. let u : true ≡ false = sym (before-lt y first_position l) ∙ sym (gt-lt first_position y) ∙ first_pos-least y in absurd (cc);
  ahead = λ y off. λ i. (joined_row-none i, cover-none y i);
}

-- nothing is said at the end
end-covered : (ps : List Piece) → range_tomb ps end_position ≡ None
end-covered [] = cover-none end_position
end-covered (p ∷ ps) = cover-cons p ps end_position ∙ (λ i. greater tomb_cmp (piece_at-behind p end_position (sym (gt-lt p.to end_position) ∙ last_pos-greatest p.to) i) (end-covered ps i))

end-says : (changes : List Mutation) → source_at changes end_position ≡ (empty_row, None)
end-says changes = λ i. (
  (ap joined_row (no_rows_off end_position (λ k e. let u : After ≡ At = ap (λ (x : Pos). x.weight) e in cc) (all_rows changes)) ∙ joined_row-none) i,
  end-covered (all_pieces changes) i,
)

-- what was read up to the end is what the changes say
pub read-all : (schema : SchemaValue) (versions : List Version) (changes : List Mutation) → SayChanges schema versions changes → (x : Pos) (rows : List (List Comp × Row)) (ranges : List Piece) → lt x end_position ≡ false → IsReadUpTo versions x rows ranges →
    (y : Pos) → said_so_far rows ranges y ≡ source_at changes y
read-all schema versions changes say x rows ranges over read y = elim (lt y end_position) as (λ b. lt y end_position ≡ b → said_so_far rows ranges y ≡ source_at changes y) [
  | true ↦ λ e. read.before y (lt-before y x (lt-le y end_position x e over)) ∙ say.stands.clustered y
  | false ↦ λ e.
      let same : y ≡ end_position = le-same y end_position (sym (gt-lt y end_position) ∙ last_pos-greatest y) e in
      read.ahead y (λ l. let u : true ≡ false = sym (before-lt y end_position (before-end y x l)) ∙ e in cc)
      ∙ sym (ap (source_at changes) same ∙ end-says changes)
] refl
