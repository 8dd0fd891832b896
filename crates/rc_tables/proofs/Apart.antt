-- The rows and changes of a mutation give its rows and its ranges again.
use Rattle.std.proofs.Common.{◌≡◌, zero, suc, ◌-◌, ◌<◌, ◌≤◌, Bool, true, false, cond, List, [], ◌∷◌, ◌++◌, length, get_or, take, drop, Option, Some, None, refl, sym, ap, ◌∙◌, subst, arith, append-nil, append_assoc, map as list_map}
use Rattle.std.specs.Prelude.{◌≢◌, ◌↔◌, IsTrue, not}
use Rattle.std.specs.declared.cmp.Ordering.{Ordering}
use Rattle.std.specs.declared.cmp.Ordering.TheVariants.{Less, Equal, Greater}
use Rattle.std.specs.Option.{option_map}
use Rattle.std.specs.Ordering.{is_lt, is_gt, is_eq, eq_by_cmp}
use Rattle.std.specs.Cmp.{tied_itself}
use Rattle.std.proofs.lemmas.List.{take_rest}
use Rattle.rc_cell.specs.declared.rows.Row.{Row}
use Rattle.rc_cell.specs.declared.writes.Tomb.{Tomb}
use Rattle.rc_position.specs.declared.comps.Comp.{Comp}
use Rattle.rc_position.specs.declared.positions.Pos.{Pos}
use Rattle.rc_position.specs.Position.{pos_cmp, row_pos}
use Rattle.rc_position.specs.laws.Orders.{pos_cmp_same, pos_cmp_total}
use Rattle.rc_ranges.specs.declared.pieces.Piece.{Piece}
use Rattle.rc_ranges.specs.Cover.{MayFollow}
use Rattle.rc_cell.specs.Orders.{tomb_cmp, tomb_cmp_total}
use Rattle.rc_cell.specs.laws.Beats.{tomb_cmp-IsAntisymmetric}
use Rattle.rc_mutation.specs.declared.fragments.Frag.{Frag}
use Rattle.rc_mutation.specs.declared.fragments.Frag.TheVariants as frag
use Rattle.rc_mutation.specs.declared.mutations.Mutation.{Mutation}
use Rattle.rc_mutation.specs.Source.{IsMutation}
use Rattle.rc_mutation.specs.Fragments.{begins_at, changes_of, placed_change, placed_row, rows_and_changes}
use Rattle.rc_mutation.specs.Rows.{joined_rows, IsRows}
use Rattle.rc_mutation.specs.laws.JoinedRows.{joined_rows-append, joined_rows-rows}
use Rattle.rc_mutation.specs.laws.FragMerge.{merge, merge_into, fragment_of}
use Rattle.rc_tables.specs.calls.Rebuilt.{NoRowIsEmpty, changes_among, pieces_between, rows_among}
use Rattle.rc_tables.proofs.Listing.{between-merge}

abbrev Keyed : Type 0
Keyed = List Comp × Row

abbrev Change : Type 0
Change = Pos × Option Tomb

-- ---- rows and changes apart again

no_rows : (bs : List Change) → rows_among (list_map fragment_of (list_map placed_change bs)) ≡ []
no_rows [] = refl
no_rows (b ∷ bs) = no_rows bs

only_rows : (os : List Keyed) → rows_among (list_map fragment_of (list_map placed_row os)) ≡ os
only_rows [] = refl
only_rows (o ∷ os) = ap (λ t. o ∷ t) (only_rows os)

rows-merge_into : (a : Keyed) (os : List Keyed) → ((bs : List Change) → rows_among (list_map fragment_of (merge os bs)) ≡ os) → (bs : List Change) → rows_among (list_map fragment_of (merge_into a os (merge os) bs)) ≡ a ∷ os
rows-merge_into a os ih [] = only_rows (a ∷ os)
rows-merge_into a os ih (b ∷ bs) =
    elim (is_lt (pos_cmp (row_pos a.0) b.0)) as (λ r. rows_among (list_map fragment_of (cond r (placed_row a ∷ merge os (b ∷ bs)) (placed_change b ∷ merge_into a os (merge os) bs))) ≡ a ∷ os) [
      | true ↦ ap (λ t. a ∷ t) (ih (b ∷ bs))
      | false ↦ rows-merge_into a os ih bs
    ]

rows-merge : (os : List Keyed) (bs : List Change) → rows_among (list_map fragment_of (merge os bs)) ≡ os
rows-merge [] bs = no_rows bs
rows-merge (a ∷ os) bs = rows-merge_into a os (rows-merge os) bs

only_changes : (bs : List Change) → changes_among (list_map fragment_of (list_map placed_change bs)) ≡ bs
only_changes [] = refl
only_changes (b ∷ bs) = ap (λ t. b ∷ t) (only_changes bs)

no_changes : (os : List Keyed) → changes_among (list_map fragment_of (list_map placed_row os)) ≡ []
no_changes [] = refl
no_changes (o ∷ os) = no_changes os

changes-merge_into : (a : Keyed) (os : List Keyed) → ((bs : List Change) → changes_among (list_map fragment_of (merge os bs)) ≡ bs) → (bs : List Change) → changes_among (list_map fragment_of (merge_into a os (merge os) bs)) ≡ bs
changes-merge_into a os ih [] = no_changes (a ∷ os)
changes-merge_into a os ih (b ∷ bs) =
    elim (is_lt (pos_cmp (row_pos a.0) b.0)) as (λ r. changes_among (list_map fragment_of (cond r (placed_row a ∷ merge os (b ∷ bs)) (placed_change b ∷ merge_into a os (merge os) bs))) ≡ b ∷ bs) [
      | true ↦ ih (b ∷ bs)
      | false ↦ ap (λ t. b ∷ t) (changes-merge_into a os ih bs)
    ]

changes-merge : (os : List Keyed) (bs : List Change) → changes_among (list_map fragment_of (merge os bs)) ≡ bs
changes-merge [] bs = only_changes bs
changes-merge (a ∷ os) bs = changes-merge_into a os (changes-merge os) bs

pub rows_between : (m : Mutation) → IsMutation m → rows_among (rows_and_changes m) ≡ m.rows
rows_between m is = ap rows_among (sym (between-merge m is)) ∙ rows-merge m.rows (changes_of m.ranges)

changes_between : (m : Mutation) → IsMutation m → changes_among (rows_and_changes m) ≡ changes_of m.ranges
changes_between m is = ap changes_among (sym (between-merge m is)) ∙ changes-merge m.rows (changes_of m.ranges)

-- ---- ranges

unmapped : {X : Type 0} (o : Option X) → option_map (λ x. x) o ≡ o
unmapped None = refl
unmapped (Some x) = refl

tie : (r : Ordering) → is_eq r ≡ true → r ≡ Equal
tie Less e = absurd cc
tie Equal e = refl
tie Greater e = absurd cc

abbrev piece : Pos → Pos → Tomb → Piece
piece from to tomb = record { from = from; to = to; tomb = tomb }

-- a range whose end begins the next
meets : (p : Piece) (ps : List Piece) → begins_at p.to ps ≡ true → pieces_between (changes_of ps) None ≡ Some ps → pieces_between (changes_of ps) (Some (p.from, p.tomb)) ≡ Some (p ∷ ps)
meets p [] e h = absurd cc
meets p (q ∷ qs) e h =
    let behind = cond (begins_at q.to qs) [] ((q.to, None) ∷ []) ++ changes_of qs in
    let whole : pieces_between behind (Some (q.from, q.tomb)) ≡ Some (q ∷ qs) = sym (unmapped (pieces_between behind (Some (q.from, q.tomb)))) ∙ h in
    let at : q.from ≡ p.to = pos_cmp_same q.from p.to (tie (pos_cmp q.from p.to) e) in
    ap (option_map (λ ps. piece p.from q.from p.tomb ∷ ps)) whole ∙ ap (λ x. Some (piece p.from x p.tomb ∷ q ∷ qs)) at

pub pieces-changes : (ps : List Piece) → pieces_between (changes_of ps) None ≡ Some ps
pieces-changes [] = refl
pieces-changes (p ∷ ps) =
    elim (begins_at p.to ps) as (λ b. begins_at p.to ps ≡ b → option_map (λ (qs : List Piece). qs) (pieces_between (cond b [] ((p.to, None) ∷ []) ++ changes_of ps) (Some (p.from, p.tomb))) ≡ Some (p ∷ ps)) [
      | true ↦ λ e. unmapped (pieces_between (changes_of ps) (Some (p.from, p.tomb))) ∙ meets p ps e (pieces-changes ps)
      | false ↦ λ e. unmapped _ ∙ ap (option_map (λ qs. p ∷ qs)) (pieces-changes ps)
    ] refl

pub ranges_between : (m : Mutation) → IsMutation m → pieces_between (changes_among (rows_and_changes m)) None ≡ Some m.ranges
ranges_between m is = ap (λ cs. pieces_between cs None) (changes_between m is) ∙ pieces-changes m.ranges

-- ---- one row more

pub written_behind : (xs ys : List (List Comp × Row)) → NoRowIsEmpty (xs ++ ys) → NoRowIsEmpty ys
written_behind [] ys h = h
written_behind (x ∷ xs) ys h = written_behind xs ys (λ k d lt. h (suc k) d (omega arith))

pub rows_among-first : (f : Frag) (fs : List Frag) → rows_among (f ∷ fs) ≡ rows_among (f ∷ []) ++ rows_among fs
rows_among-first (frag.Start pt) fs = refl
rows_among-first (frag.Static row) fs = refl
rows_among-first (frag.Row key row) fs = refl
rows_among-first (frag.Change x tomb) fs = refl
rows_among-first frag.End fs = refl

-- rows that were joined already stand for those that they were joined from
pub joined_before : (xs ys zs : List (List Comp × Row)) → joined_rows xs ≡ joined_rows ys → joined_rows (xs ++ zs) ≡ joined_rows (ys ++ zs)
joined_before xs ys zs e = joined_rows-append xs zs ∙ ap (λ rs. joined_rows (rs ++ joined_rows zs)) e ∙ sym (joined_rows-append ys zs)

-- ---- the loop over rows

pub front_first : (x : Frag) (xs : List Frag) → 1 ≤ length xs → x ≡ get_or xs 0 x → xs ≡ x ∷ drop 1 xs
front_first x [] n e = absurd (omega (arith, n))
front_first x (y ∷ ys) n e = ap (λ z. z ∷ ys) (sym e)

written_front : (xs ys : List (List Comp × Row)) → NoRowIsEmpty (xs ++ ys) → NoRowIsEmpty xs
written_front [] ys h k d lt = absurd (omega (arith, lt))
written_front (x ∷ xs) ys h zero d lt = h 0 x (omega arith)
written_front (x ∷ xs) ys h (suc k) d lt = written_front xs ys (λ j e l. h (suc j) e (omega (arith, l))) k d (omega (arith, lt))

rows_first : (x : Frag) (xs : List Frag) → 1 ≤ length xs → x ≡ get_or xs 0 x → rows_among xs ≡ rows_among (x ∷ []) ++ rows_among (drop 1 xs)
rows_first x xs n e = ap rows_among (front_first x xs n e) ∙ rows_among-first x (drop 1 xs)

-- the first of those that are left was written
pub first_written : (x : Frag) (xs : List Frag) → 1 ≤ length xs → x ≡ get_or xs 0 x → NoRowIsEmpty (rows_among xs) → NoRowIsEmpty (rows_among (x ∷ []))
first_written x xs n e h = written_front (rows_among (x ∷ [])) (rows_among (drop 1 xs)) (subst (λ (rs : List (List Comp × Row)). NoRowIsEmpty rs) (rows_first x xs n e) h)

-- the first of those that are left was joined
pub one_joined : (all xs : List Frag) (x : Frag) (rows more : List (List Comp × Row)) → 1 ≤ length xs → x ≡ get_or xs 0 x → joined_rows more ≡ joined_rows (rows ++ rows_among (x ∷ []))
    → (joined_rows (rows ++ rows_among xs) ≡ joined_rows (rows_among all)) × (NoRowIsEmpty (rows_among all) → NoRowIsEmpty (rows_among xs))
    → (joined_rows (more ++ rows_among (take (length xs - 1) (drop 1 xs))) ≡ joined_rows (rows_among all)) × (NoRowIsEmpty (rows_among all) → NoRowIsEmpty (rows_among (take (length xs - 1) (drop 1 xs))))
one_joined all xs x rows more n e joined so_far =
    let rest = drop 1 xs in
    let split = rows_first x xs n e in
    let same : joined_rows (more ++ rows_among rest) ≡ joined_rows (rows_among all) =
    joined_before more (rows ++ rows_among (x ∷ [])) (rows_among rest) joined
    ∙ ap joined_rows (append_assoc rows (rows_among (x ∷ [])) (rows_among rest) ∙ ap (λ t. rows ++ t) (sym split))
    ∙ so_far.0 in
    let written : NoRowIsEmpty (rows_among all) → NoRowIsEmpty (rows_among rest) = λ h. written_behind (rows_among (x ∷ [])) (rows_among rest) (subst (λ (rs : List (List Comp × Row)). NoRowIsEmpty rs) split (so_far.1 h)) in
    subst (λ (t : List Frag). (joined_rows (more ++ rows_among t) ≡ joined_rows (rows_among all)) × (NoRowIsEmpty (rows_among all) → NoRowIsEmpty (rows_among t))) (sym (take_rest xs 1)) (same, written)

none_over : (xs : List Frag) → length xs < 1 → xs ≡ []
none_over [] h = refl
none_over (x ∷ xs) h = absurd (omega (arith, h))

-- all were joined
pub all_joined : (all xs : List Frag) (rows : List (List Comp × Row)) → length xs < 1 → IsRows rows → IsRows (rows_among all) → joined_rows (rows ++ rows_among xs) ≡ joined_rows (rows_among all) → rows ≡ rows_among all
all_joined all xs rows h is are e =
    sym (joined_rows-rows rows is)
    ∙ ap joined_rows (sym (ap (λ t. rows ++ rows_among t) (none_over xs h) ∙ append-nil rows))
    ∙ e
    ∙ joined_rows-rows (rows_among all) are

-- ---- ranges that may follow one another

pub follows_less : (p q : Piece) (next : List Piece) → 1 ≤ length next → q ≡ get_or next 0 q → Less ≡ pos_cmp p.to q.from → MayFollow p next
follows_less p q [] n e h = absurd (omega (arith, n))
follows_less p q (r ∷ rs) n e h =
    let less : Less ≡ pos_cmp p.to r.from = h ∙ ap (λ (s : Piece). pos_cmp p.to s.from) e in
    (ap is_gt (sym less), λ same. absurd (let q = less ∙ ap (λ z. pos_cmp z r.from) same ∙ tied_itself pos_cmp_total r.from in cc))

-- tombstones that differ do not compare alike
unlike : (s t : Tomb) → s ≢ t → not (eq_by_cmp tomb_cmp s t) ≡ true
unlike s t h = elim (tomb_cmp s t) as (λ r. tomb_cmp s t ≡ r → not (is_eq r) ≡ true) [ Less ↦ λ _. refl | Equal ↦ λ e. absurd (h (tomb_cmp-IsAntisymmetric s t e)) | Greater ↦ λ _. refl ] refl

pub follows_equal : (p q : Piece) (next : List Piece) (b : Bool) → 1 ≤ length next → q ≡ get_or next 0 q → Equal ≡ pos_cmp p.to q.from → b ≡ not (eq_by_cmp tomb_cmp p.tomb q.tomb) → IsTrue b ↔ MayFollow p next
follows_equal p q [] b n e h is = absurd (omega (arith, n))
follows_equal p q (r ∷ rs) b n e h is =
    let level : Equal ≡ pos_cmp p.to r.from = h ∙ ap (λ (s : Piece). pos_cmp p.to s.from) e in
    let differs : b ≡ not (eq_by_cmp tomb_cmp p.tomb r.tomb) = is ∙ ap (λ (s : Piece). not (eq_by_cmp tomb_cmp p.tomb s.tomb)) e in (
      λ t. (ap is_gt (sym level), λ _ same. (let q = sym t ∙ differs ∙ ap (λ z. not (is_eq (tomb_cmp p.tomb z))) (sym same) ∙ ap (λ o. not (is_eq o)) (tied_itself tomb_cmp_total p.tomb) in absurd cc)),
      λ follows. differs ∙ unlike p.tomb r.tomb (follows.1 (pos_cmp_same p.to r.from (sym level))),
    )

-- ---- the mutation again

pub rows_ready : (m : Mutation) (fs : List Frag) → IsMutation m → fs ≡ rows_and_changes m → IsRows (rows_among fs)
rows_ready m fs is e = subst (λ (rs : List (List Comp × Row)). IsRows rs) (sym (ap rows_among e ∙ rows_between m is)) is.rows

pub ranges_ready : (m : Mutation) (fs : List Frag) → IsMutation m → fs ≡ rows_and_changes m → pieces_between (changes_among fs) None ≡ Some m.ranges
ranges_ready m fs is e = ap (λ gs. pieces_between (changes_among gs) None) e ∙ ranges_between m is
