-- Two lists of canonical range tombstones have one canonical list that has the greater of both in force at each position.
use Rattle.std.proofs.Common.{◌≡◌, ◌≢◌, Bool, true, false, not, cond, List, [], ◌∷◌, ◌++◌, map as list_map, Option, Some, None, refl, sym, ap, subst, ◌∙◌}
use Rattle.std.specs.Option.{IfSome, option_to_list}
use Rattle.std.specs.Cmp.{tied_itself}
use Rattle.std.specs.declared.cmp.Ordering.{Ordering}
use Rattle.std.specs.declared.cmp.Ordering.TheVariants.{Less, Equal, Greater}
use Rattle.std.specs.Ordering.{eq_by_cmp, is_eq, is_gt, is_le, is_lt, ordering_reverse, ordering_then}
use Rattle.std.proofs.lemmas.List.Elements.{All-nil}
use Rattle.rc_cell.specs.declared.rows.Row.{Row}
use Rattle.rc_cell.specs.declared.writes.Tomb.{Tomb}
use Rattle.rc_cell.specs.Greatest.{greater}
use Rattle.rc_cell.specs.Orders.{tomb_cmp, tomb_cmp_total}
use Rattle.rc_cell.specs.Winner.{empty_row}
use Rattle.rc_position.specs.declared.positions.Pos.{Pos}
use Rattle.rc_position.specs.declared.positions.Weight.TheVariants.{After}
use Rattle.rc_position.specs.Position.{pos_cmp, row_pos}
use Rattle.rc_position.specs.laws.Bounds.{last_pos-greatest}
use Rattle.rc_position.specs.laws.Orders.{pos_cmp_total}
use Rattle.rc_ranges.specs.declared.pieces.Piece.{Piece}
use Rattle.rc_ranges.specs.Cover.{IsCanonical, cover}
use Rattle.rc_ranges.specs.calls.Sweep.{lt}
use Rattle.rc_ranges.specs.laws.Covering.{cover-behind, cover-none}
use Rattle.rc_mutation.specs.Canonical.{ComesNext}
use Rattle.rc_mutation.specs.declared.fragments.Frag.{Frag}
use Rattle.rc_mutation.specs.declared.fragments.Frag.TheVariants as frag
use Rattle.rc_mutation.specs.declared.mutations.Mutation.{Mutation}
use Rattle.rc_mutation.specs.Fragments.{changes_of, fragments, in_order, placed_change, placed_row}
use Rattle.rc_mutation.specs.Source.{IsMutation}
use Rattle.rc_mutation.specs.laws.ByKey.{joined_if_any}
use Rattle.rc_mutation.specs.laws.FragMerge.{changes-placed, fragment_of, merge-in_order}
use Rattle.rc_mutation.specs.laws.CanonicalMerging.{Change, IsChanges, changes_in}
use Rattle.rc_mutation.specs.laws.CanonicalPieces.{canonical-pieces, changes-pieces, pieces_in}
use Rattle.rc_query.specs.laws.Compacting.{along, along-ranges}
use Rattle.rc_stream.specs.Merging.{IsOrdered, IsTelling, StandsBefore, merged_stream, rows_here, same_tomb}
use Rattle.rc_stream.specs.Showing.{IsFromStart}
use Rattle.rc_stream.specs.laws.Ordered.{itself}
use Rattle.rc_stream.specs.Stream.{Stream, force, stream_of}

-- behind all positions
abbrev end : Pos
end = record { prefix = []; weight = After }

-- a change is passed exactly where it is not behind the position
passed : (o : Ordering) (r : Ordering) → r ≡ ordering_reverse o → is_le r ≡ not (is_lt o)
passed Less r e = ap is_le e
passed Equal r e = ap is_le e
passed Greater r e = ap is_le e

is_passed-lt : (p x : Pos) → is_le (pos_cmp p x) ≡ not (is_lt (pos_cmp x p))
is_passed-lt p x = passed (pos_cmp x p) (pos_cmp p x) (pos_cmp_total.antisymm p x)

turned_cond : {X : Type 0} (b : Bool) (x y : X) → cond (not b) x y ≡ cond b y x
turned_cond true x y = refl
turned_cond false x y = refl

no_row : {X : Type 0} (key : Pos) (row : Row) (rows : List Row) → cond (eq_by_cmp pos_cmp key key) (row ∷ []) [] ++ rows ≡ [] → X
no_row key row rows e = let full : row ∷ rows ≡ [] = ap (λ b. cond b (row ∷ []) [] ++ rows) (sym (itself key)) ∙ e in absurd (cc)

-- among fragments in order that are no rows the tombstone in force is that along their changes
force-along : (x : Pos) (tomb : Option Tomb) (fs : List Frag) → IsOrdered fs → ((y : Pos) → rows_here y fs ≡ []) → force x tomb fs ≡ along tomb (changes_in fs) x
force-along x tomb [] is none = refl
force-along x tomb (frag.Start pt ∷ fs) is none = absurd is.0
force-along x tomb (frag.Static row ∷ fs) is none = absurd is.0
force-along x tomb (frag.Row key row ∷ fs) is none = no_row (row_pos key) row (rows_here (row_pos key) fs) (none (row_pos key))
force-along x tomb (frag.Change p next ∷ fs) is none =
    ap (λ b. cond b (force x next fs) tomb) (is_passed-lt p x)
    ∙ turned_cond (is_lt (pos_cmp x p)) (force x next fs) tomb
    ∙ ap (cond (is_lt (pos_cmp x p)) tomb) (force-along x next fs is.2 none)
force-along x tomb (frag.End ∷ fs) is none = absurd is.0

same-itself : (t : Option Tomb) → same_tomb t t ≡ true
same-itself None = refl
same-itself (Some t) = ap is_eq (tied_itself tomb_cmp_total t)

differs : (s t : Option Tomb) → same_tomb s t ≡ false → t ≢ s
differs s t e same = (let told : true ≡ false = sym (same-itself s) ∙ ap (same_tomb s) (sym same) ∙ e in absurd (cc))

-- at one rank the order of places is that of positions
by_position : (o : Ordering) → ordering_then o Equal ≡ Less → o ≡ Less
by_position Less e = refl
by_position Equal e = absurd (cc)
by_position Greater e = absurd (cc)

comes_next : (last : Option Pos) (p : Pos) (next : Option Tomb) (fs : List Frag) → IfSome last (λ l. StandsBefore (l, 0) (frag.Change p next ∷ fs)) → ComesNext last p
comes_next None p next fs h = tt
comes_next (Some l) p next fs h = by_position (pos_cmp l p) h.0

not_behind : (o r : Ordering) → r ≡ ordering_reverse o → is_gt o ≡ false → is_lt r ≡ false
not_behind Less r e h = ap is_lt e
not_behind Equal r e h = ap is_lt e
not_behind Greater r e h = absurd (cc)

before_end : (p : Pos) → is_lt (pos_cmp end p) ≡ false
before_end p = not_behind (pos_cmp p end) (pos_cmp end p) (pos_cmp_total.antisymm end p) (last_pos-greatest p)

lt-end : (x : Pos) → lt end x ≡ false
unfolding lt
lt-end x = before_end x

-- fragments in order that are no rows, each of which tells, with none in force at the end, are changes
are_changes : (tomb : Option Tomb) (last : Option Pos) (fs : List Frag) → IsOrdered fs → IsTelling tomb fs → ((y : Pos) → rows_here y fs ≡ []) → IfSome last (λ l. StandsBefore (l, 0) fs) → along tomb (changes_in fs) end ≡ None → IsChanges tomb last (changes_in fs)
are_changes tomb last [] is tells none h e = e
are_changes tomb last (frag.Start pt ∷ fs) is tells none h e = absurd is.0
are_changes tomb last (frag.Static row ∷ fs) is tells none h e = absurd is.0
are_changes tomb last (frag.Row key row ∷ fs) is tells none h e = no_row (row_pos key) row (rows_here (row_pos key) fs) (none (row_pos key))
are_changes tomb last (frag.Change p next ∷ fs) is tells none h e =
    (comes_next last p next fs h, differs tomb next tells.0, are_changes next (Some p) fs is.2 tells.1 none is.1 (ap (λ b. cond b tomb (along next (changes_in fs) end)) (sym (before_end p)) ∙ e))
are_changes tomb last (frag.End ∷ fs) is tells none h e = absurd is.0

-- ---- a mutation of range tombstones alone

abbrev pub ranges_alone : List Piece → Mutation
ranges_alone pieces = record { pt = None; statics = empty_row; rows = []; ranges = pieces }

pub is_ranges_alone : (pieces : List Piece) → IsCanonical pieces → IsMutation (ranges_alone pieces)
is_ranges_alone pieces is = record { alone = refl; statics = refl; rows = record { ascend = refl; written = All-nil _; by_column = All-nil _ }; ranges = is }

-- the fragments of changes
abbrev of_changes : List Change → List Frag
of_changes cs = list_map (λ c. frag.Change c.0 c.1) cs

placed_fragments : (cs : List Change) → list_map fragment_of (list_map placed_change cs) ≡ of_changes cs
placed_fragments [] = refl
placed_fragments (c ∷ cs) = ap (λ fs. frag.Change c.0 c.1 ∷ fs) (placed_fragments cs)

changes-of : (cs : List Change) → changes_in (of_changes cs) ≡ cs
changes-of [] = refl
changes-of (c ∷ cs) = ap (λ ds. c ∷ ds) (changes-of cs)

no_rows-of : (y : Pos) (cs : List Change) → rows_here y (of_changes cs) ≡ []
no_rows-of y [] = refl
no_rows-of y (c ∷ cs) = no_rows-of y cs

-- what the law of the stream of a mutation says of it
in_order-of : (pieces : List Piece) → IsCanonical pieces → in_order (list_map placed_row [] ++ list_map placed_change (changes_of pieces)) ≡ of_changes (changes_of pieces)
in_order-of pieces is = sym (merge-in_order [] (changes_of pieces) refl (changes-placed pieces is)) ∙ placed_fragments (changes_of pieces)

-- ---- both

module _ (whole : (m : Mutation) → IsMutation m → IsFromStart (stream_of (fragments m)))
    (stream : (m : Mutation) → IsMutation m → stream_of (fragments m) ≡ record { head = record { pt = m.pt; statics = m.statics }; tomb = None; left = in_order (list_map placed_row m.rows ++ list_map placed_change (changes_of m.ranges)) })
    (ordered : (s t : Stream) → IsOrdered s.left → IsOrdered t.left → IsOrdered (merged_stream s t).left)
    (telling : (s t : Stream) → IsOrdered s.left → IsOrdered t.left → IsTelling (merged_stream s t).tomb (merged_stream s t).left)
    (rows : (s t : Stream) (x : Pos) → IsOrdered s.left → IsOrdered t.left → rows_here x (merged_stream s t).left ≡ option_to_list (joined_if_any (rows_here x s.left ++ rows_here x t.left)))
    (first : (s t : Stream) → (merged_stream s t).tomb ≡ greater tomb_cmp s.tomb t.tomb)
    (tombs : (s t : Stream) (x : Pos) → IsOrdered s.left → IsOrdered t.left → force x (merged_stream s t).tomb (merged_stream s t).left ≡ greater tomb_cmp (force x s.tomb s.left) (force x t.tomb t.left))
    (one other : List Piece) (is : IsCanonical one) (too : IsCanonical other) where
  -- the stream of range tombstones alone
  abbrev of : List Piece → Stream
  of pieces = stream_of (fragments (ranges_alone pieces))

  left-of : (pieces : List Piece) → IsCanonical pieces → (of pieces).left ≡ of_changes (changes_of pieces)
  left-of pieces can = ap (λ (s : Stream). s.left) (stream (ranges_alone pieces) (is_ranges_alone pieces can)) ∙ in_order-of pieces can

  none-of : (pieces : List Piece) → IsCanonical pieces → (y : Pos) → rows_here y (of pieces).left ≡ []
  none-of pieces can y = ap (rows_here y) (left-of pieces can) ∙ no_rows-of y (changes_of pieces)

  start-of : (pieces : List Piece) → IsCanonical pieces → IsFromStart (of pieces)
  start-of pieces can = whole (ranges_alone pieces) (is_ranges_alone pieces can)

  -- its tombstone in force is that of its pieces
  force-of : (pieces : List Piece) → IsCanonical pieces → (y : Pos) → force y (of pieces).tomb (of pieces).left ≡ cover pieces y
  force-of pieces can y =
      ap (λ t. force y t (of pieces).left) (start-of pieces can).0
      ∙ force-along y None (of pieces).left (start-of pieces can).1 (none-of pieces can)
      ∙ ap (λ fs. along None (changes_in fs) y) (left-of pieces can)
      ∙ ap (λ cs. along None cs y) (changes-of (changes_of pieces))
      ∙ along-ranges pieces can y

  abbrev both : Stream
  both = merged_stream (of one) (of other)

  both_ordered : IsOrdered both.left
  both_ordered = ordered (of one) (of other) (start-of one is).1 (start-of other too).1

  none_both : (y : Pos) → rows_here y both.left ≡ []
  none_both y =
      rows (of one) (of other) y (start-of one is).1 (start-of other too).1
      ∙ ap (λ rs. option_to_list (joined_if_any (rs ++ rows_here y (of other).left))) (none-of one is y)
      ∙ ap (λ rs. option_to_list (joined_if_any rs)) (none-of other too y)

  both_tomb : both.tomb ≡ None
  both_tomb = first (of one) (of other) ∙ ap (λ t. greater tomb_cmp t (of other).tomb) (start-of one is).0 ∙ ap (greater tomb_cmp None) (start-of other too).0

  -- along its changes the greater of both is in force
  along_both : (y : Pos) → along None (changes_in both.left) y ≡ greater tomb_cmp (cover one y) (cover other y)
  along_both y =
      sym (force-along y None both.left both_ordered none_both)
      ∙ ap (λ t. force y t both.left) (sym both_tomb)
      ∙ tombs (of one) (of other) y (start-of one is).1 (start-of other too).1
      ∙ ap (λ t. greater tomb_cmp t (force y (of other).tomb (of other).left)) (force-of one is y)
      ∙ ap (greater tomb_cmp (cover one y)) (force-of other too y)

  none_at_end : (pieces : List Piece) → cover pieces end ≡ None
  none_at_end [] = cover-none end
  none_at_end (p ∷ ps) = cover-behind p ps end (lt-end p.to) ∙ none_at_end ps

  changes_both : IsChanges None None (changes_in both.left)
  changes_both = are_changes None None both.left both_ordered (subst (λ t. IsTelling t both.left) both_tomb (telling (of one) (of other) (start-of one is).1 (start-of other too).1)) none_both tt
      (along_both end ∙ ap (λ t. greater tomb_cmp t (cover other end)) (none_at_end one) ∙ ap (greater tomb_cmp None) (none_at_end other))

  abbrev pub united : List Piece
  united = pieces_in (changes_in both.left)

  pub united_canonical : IsCanonical united
  united_canonical = canonical-pieces (changes_in both.left) changes_both

  pub united_cover : (y : Pos) → cover united y ≡ greater tomb_cmp (cover one y) (cover other y)
  united_cover y = sym (along-ranges united united_canonical y) ∙ ap (λ cs. along None cs y) (changes-pieces (changes_in both.left) changes_both) ∙ along_both y
