-- The answer goes by the joined rows: a reader is given the same of the writes as of what they join to.
use Rattle.std.specs.Prelude.{◌≡◌, ℤ, Bool, true, false, cond, ◌||◌, int_lt, if◌then◌else◌, List, [], ◌∷◌, ◌++◌, Option, Some, None, map as list_map}
use Rattle.std.proofs.Common.{refl, sym, ap, ◌∙◌, append-nil}
use Rattle.std.specs.declared.cmp.Ordering.TheVariants.{Less, Equal, Greater}
use Rattle.std.specs.Ordering.{int_cmp, is_lt, ordering_reverse}
use Rattle.std.specs.Option.{option_to_list}
use Rattle.std.specs.List.{filter, filter_map, list_any, cons_option}
use Rattle.std.specs.Cmp.{int_cmp_total}
use Rattle.std.specs.FinMap.{int_cmp-IsAntisymmetric}
use Rattle.rc_cell.specs.declared.rows.Row.{Row}
use Rattle.rc_cell.specs.declared.writes.Tomb.{Tomb}
use Rattle.rc_cell.specs.Deletion.{in_force, survives}
use Rattle.rc_cell.specs.laws.Beats.{tomb_cmp-IsAntisymmetric}
use Rattle.rc_cell.specs.Orders.{tomb_cmp, tomb_cmp_total}
use Rattle.rc_cell.specs.laws.{IsRow-joined_row, joined_row-one}
use Rattle.rc_cell.specs.Greatest.{greater}
use Rattle.rc_cell.specs.laws.Greatest.{top, greatest-append, greatest-two, greatest-top}
use Rattle.rc_cell.specs.Winner.{all_cells, greatest, joined_row, markers, tombs, winners}
use Rattle.rc_cell.specs.laws.ByColumn.{ascending-winners, winners-ascending}
use Rattle.rc_position.specs.declared.comps.Comp.{Comp}
use Rattle.rc_mutation.specs.declared.mutations.Mutation.{Mutation}
use Rattle.rc_position.specs.declared.positions.Pos.{Pos}
use Rattle.rc_position.specs.declared.slices.Slice.{Slice}
use Rattle.rc_position.specs.Position.{row_pos}
use Rattle.rc_ranges.specs.Cover.{tombs_over, cover as range_tomb}
use Rattle.rc_mutation.specs.Source.{all_pieces, all_rows, row_cover, IsJoinOf, IsRows, joined_rows, keys, partition_tombs, rows_at, source_at_head, source_at_static, static_rows}
use Rattle.rc_mutation.specs.laws.Sources.{head-one}
use Rattle.rc_mutation.specs.laws.ByKey.{joined_rows-is}
use Rattle.rc_mutation.specs.laws.JoinedRows.{joined_rows-again, joined_rows-rows}
use Rattle.rc_query.specs.declared.lines.OutLine.{OutLine}
use Rattle.rc_query.specs.declared.lines.OutLine.TheVariants as line
use Rattle.rc_mutation.specs.Fragments.{has_any}
use Rattle.rc_query.specs.Answer.{live_values, in_slice, line_of, static_line, answer}

less_lt : (a b : Bool) → cond a Less (cond b Greater Equal) ≡ Less → a ≡ true
less_lt true b e = refl
less_lt false true e = absurd (cc)
less_lt false false e = absurd (cc)

lt_less : (a b : Bool) → a ≡ true → cond a Less (cond b Greater Equal) ≡ Less
lt_less true b e = refl
lt_less false b e = absurd (cc)

-- a later timestamp survives what an earlier one does
later : (tomb : Option Tomb) (x y : ℤ) → int_cmp x y ≡ Less → survives tomb x ≡ true → survives tomb y ≡ true
later None x y e h = refl
later (Some t) x y e h = less_lt (int_lt t.ts y) (int_lt y t.ts) (int_cmp_total.trans t.ts x y (lt_less (int_lt t.ts x) (int_lt x t.ts) h) e)

or_right : (a b : Bool) → (a ≡ true → b ≡ true) → (a || b) ≡ b
or_right true b h = sym (h refl)
or_right false b h = refl

or_left : (a b : Bool) → (b ≡ true → a ≡ true) → (a || b) ≡ a
or_left true b h = refl
or_left false true h = sym (h refl)
or_left false false h = refl

or_false : (a : Bool) → (a || false) ≡ a
or_false true = refl
or_false false = refl

-- of two timestamps one survives exactly where the greater does
greater-survives : (tomb : Option Tomb) (x y : ℤ) → (survives tomb x || survives tomb y) ≡ survives tomb (cond (is_lt (int_cmp x y)) y x)
greater-survives tomb x y =
    elim (int_cmp x y) as (λ r. int_cmp x y ≡ r → (survives tomb x || survives tomb y) ≡ survives tomb (cond (is_lt r) y x)) [
      | Less ↦ λ e. or_right (survives tomb x) (survives tomb y) (later tomb x y e)
      | Equal ↦ λ e. or_left (survives tomb x) (survives tomb y) (λ h. ap (survives tomb) (int_cmp-IsAntisymmetric x y e) ∙ h)
      | Greater ↦ λ e. or_left (survives tomb x) (survives tomb y) (later tomb y x (int_cmp_total.antisymm y x ∙ ap ordering_reverse e))
    ] refl

-- one of some timestamps survives exactly where the greatest does
top-survives : (tomb : Option Tomb) (xs : List ℤ) → list_any (survives tomb) xs ≡ list_any (survives tomb) (option_to_list (top int_cmp xs))
top-survives tomb [] = refl
top-survives tomb (x ∷ xs) =
    ap (λ b. survives tomb x || b) (top-survives tomb xs)
    ∙ elim (top int_cmp xs) as (λ o. (survives tomb x || list_any (survives tomb) (option_to_list o)) ≡ list_any (survives tomb) (option_to_list (greater int_cmp (Some x) o))) [
      | None ↦ refl
      | Some y ↦ ap (λ b. survives tomb x || b) (or_false (survives tomb y)) ∙ greater-survives tomb x y ∙ sym (or_false (survives tomb (cond (is_lt (int_cmp x y)) y x)))
    ]

cons_one : {X : Type 0} (o : Option X) → cons_option o [] ≡ option_to_list o
cons_one None = refl
cons_one (Some x) = refl

-- rows at a key have the line of what they join to
pub line_of-joined_row : (tomb : Option Tomb) (key : List Comp) (rows : List Row) → line_of tomb key rows ≡ line_of tomb key (joined_row rows ∷ [])
unfolding joined_row
line_of-joined_row tomb key rows =
    let cells : winners (all_cells rows) ≡ winners (winners (all_cells rows) ++ []) = sym (ap winners (append-nil (winners (all_cells rows))) ∙ winners-ascending (winners (all_cells rows)) (ascending-winners (all_cells rows))) in
    let marks : list_any (survives tomb) (markers rows) ≡ list_any (survives tomb) (cons_option (greatest int_cmp (markers rows)) []) =
    top-survives tomb (markers rows)
    ∙ ap (λ o. list_any (survives tomb) (option_to_list o)) (sym (greatest-top int_cmp_total int_cmp-IsAntisymmetric (markers rows)))
    ∙ ap (list_any (survives tomb)) (sym (cons_one (greatest int_cmp (markers rows)))) in
    λ i. if has_any (live_values tomb (cells i)) || marks i then Some (line.Row key (live_values tomb (cells i))) else None

-- static rows have the line of what they join to
pub static_line-joined_row : (tomb : Option Tomb) (rows : List Row) → static_line tomb rows ≡ static_line tomb (joined_row rows ∷ [])
unfolding joined_row
static_line-joined_row tomb rows =
    let cells : winners (all_cells rows) ≡ winners (winners (all_cells rows) ++ []) = sym (ap winners (append-nil (winners (all_cells rows))) ∙ winners-ascending (winners (all_cells rows)) (ascending-winners (all_cells rows))) in
    λ i. if has_any (live_values tomb (cells i)) then Some (line.Static (live_values tomb (cells i))) else None

filter_map-map : {X Y Z : Type 0} (f : Y → Option Z) (g : X → Y) (xs : List X) → filter_map f (list_map g xs) ≡ filter_map (λ x. f (g x)) xs
filter_map-map f g [] = refl
filter_map-map f g (x ∷ xs) = ap (cons_option (f (g x))) (filter_map-map f g xs)

filter_map-filter : {X Y : Type 0} (f : X → Option Y) (p : X → Bool) (xs : List X) → filter_map f (filter p xs) ≡ filter_map (λ x. if p x then f x else None) xs
filter_map-filter f p [] = refl
filter_map-filter f p (x ∷ xs) =
    elim (p x) as (λ b. filter_map f (cond b (x ∷ filter p xs) (filter p xs)) ≡ cons_option (cond b (f x) None) (filter_map (λ x. if p x then f x else None) xs)) [
      | true ↦ ap (cons_option (f x)) (filter_map-filter f p xs)
      | false ↦ filter_map-filter f p xs
    ]

-- the line of a row under a cover from outside it, and its own tombstone
abbrev pub row_line : Option Tomb → List Comp → Row → Option OutLine
row_line outer key row = line_of (in_force outer row) key (row ∷ [])

-- the tombstones from outside a row that cover it: of the partition and of ranges
abbrev pub outer_cover : List Mutation → List Comp → Option Tomb
outer_cover changes key = greater tomb_cmp (source_at_head changes) (range_tomb (all_pieces changes) (row_pos key))

-- the line of a row of joined rows, if it stands in the slice
abbrev pub sliced_line : List Mutation → Slice → List Comp × Row → Option OutLine
sliced_line changes slice e = if in_slice slice e.0 then row_line (outer_cover changes e.0) e.0 e.1 else None

greatest-three : (ps rs ts : List Tomb) → greatest tomb_cmp (ps ++ rs ++ ts) ≡ greatest tomb_cmp (option_to_list (greater tomb_cmp (greatest tomb_cmp ps) (greatest tomb_cmp rs)) ++ option_to_list (greatest tomb_cmp ts))
greatest-three ps rs ts =
    greatest-append tomb_cmp_total tomb_cmp-IsAntisymmetric (ps ++ rs) ts
    ∙ ap (λ o. greatest tomb_cmp (option_to_list o ++ option_to_list (greatest tomb_cmp ts))) (greatest-append tomb_cmp_total tomb_cmp-IsAntisymmetric ps rs ∙ greatest-two tomb_cmp_total tomb_cmp-IsAntisymmetric (greatest tomb_cmp ps) (greatest tomb_cmp rs))

cover-in_force : (changes : List Mutation) (key : List Comp) → row_cover changes key ≡ in_force (outer_cover changes key) (joined_row (rows_at key (all_rows changes)))
unfolding joined_row range_tomb
cover-in_force changes key = greatest-three (partition_tombs changes) (tombs_over (all_pieces changes) (row_pos key)) (tombs (rows_at key (all_rows changes)))

-- the line of a key
abbrev pub line_at : List Mutation → List Comp → Option OutLine
line_at changes key = line_of (row_cover changes key) key (rows_at key (all_rows changes))

line_at-joined_row : (changes : List Mutation) (key : List Comp) → line_at changes key ≡ row_line (outer_cover changes key) key (joined_row (rows_at key (all_rows changes)))
line_at-joined_row changes key =
    ap (λ t. line_of t key (rows_at key (all_rows changes))) (cover-in_force changes key)
    ∙ line_of-joined_row (in_force (outer_cover changes key) (joined_row (rows_at key (all_rows changes)))) key (rows_at key (all_rows changes))

-- the answer has the static line of the static rows joined, and the lines of the joined rows in the slice
pub answer-rows : (changes : List Mutation) (slice : Slice) → answer changes slice ≡ option_to_list (static_line (source_at_head changes) (source_at_static changes ∷ [])) ++ filter_map (sliced_line changes slice) (joined_rows (all_rows changes))
unfolding answer
answer-rows changes slice =
    let rows = all_rows changes in
    let statics = ap option_to_list (static_line-joined_row (source_at_head changes) (static_rows changes)) in
    let lines : filter_map (line_at changes) (filter (in_slice slice) (keys rows)) ≡ filter_map (sliced_line changes slice) (joined_rows rows) =
    filter_map-filter (line_at changes) (in_slice slice) (keys rows)
    ∙ (λ i. filter_map (λ key. if in_slice slice key then line_at-joined_row changes key i else None) (keys rows))
    ∙ sym (filter_map-map (sliced_line changes slice) (λ key. (key, joined_row (rows_at key rows))) (keys rows))
    ∙ ap (filter_map (sliced_line changes slice)) (sym (joined_rows-is rows)) in
    λ i. statics i ++ lines i

-- the answer of writes is that of what they join to
pub answer-joined : (m : Mutation) (changes : List Mutation) (slice : Slice) → IsJoinOf m changes → answer changes slice ≡ answer (m ∷ []) slice
answer-joined m changes slice j =
    let head : source_at_head changes ≡ source_at_head (m ∷ []) = sym j.head ∙ sym (head-one m) in
    let statics : source_at_static changes ≡ source_at_static (m ∷ []) = sym (joined_row-one (source_at_static changes) (IsRow-joined_row (static_rows changes))) ∙ ap (λ s. joined_row (s ∷ [])) (sym j.statics) in
    let rows : joined_rows (all_rows changes) ≡ joined_rows (all_rows (m ∷ [])) = sym (joined_rows-again (all_rows changes)) ∙ ap joined_rows (sym j.rows ∙ sym (append-nil m.rows)) in
    let pieces : (x : Pos) → range_tomb (all_pieces changes) x ≡ range_tomb (all_pieces (m ∷ [])) x = λ x. sym (j.ranges x) ∙ ap (λ ps. range_tomb ps x) (sym (append-nil m.ranges)) in
    answer-rows changes slice
    ∙ (λ i. option_to_list (static_line (head i) (statics i ∷ [])) ++ filter_map (λ (e : List Comp × Row). if in_slice slice e.0 then row_line (greater tomb_cmp (head i) (pieces (row_pos e.0) i)) e.0 e.1 else None) (rows i))
    ∙ sym (answer-rows (m ∷ []) slice)

-- what one mutation gives
abbrev pub own_cover : Mutation → List Comp → Option Tomb
own_cover m key = greater tomb_cmp m.pt (range_tomb m.ranges (row_pos key))

-- its line for a row in the slice
abbrev pub own_line : Mutation → Slice → List Comp × Row → Option OutLine
own_line m slice e = if in_slice slice e.0 then row_line (own_cover m e.0) e.0 e.1 else None

pub answer-one : (m : Mutation) (slice : Slice) → IsRows m.rows → answer (m ∷ []) slice ≡ option_to_list (static_line m.pt (m.statics ∷ [])) ++ filter_map (own_line m slice) m.rows
answer-one m slice is =
    let head = head-one m in
    let statics : option_to_list (static_line m.pt (source_at_static (m ∷ []) ∷ [])) ≡ option_to_list (static_line m.pt (m.statics ∷ [])) = ap option_to_list (sym (static_line-joined_row m.pt (m.statics ∷ []))) in
    let rows : joined_rows (all_rows (m ∷ [])) ≡ m.rows = ap joined_rows (append-nil m.rows) ∙ joined_rows-rows m.rows is in
    let pieces : (x : Pos) → range_tomb (all_pieces (m ∷ [])) x ≡ range_tomb m.ranges x = λ x. ap (λ ps. range_tomb ps x) (append-nil m.ranges) in
    answer-rows (m ∷ []) slice
    ∙ (λ i. option_to_list (static_line (head i) (source_at_static (m ∷ []) ∷ [])) ++ filter_map (λ (e : List Comp × Row). if in_slice slice e.0 then row_line (greater tomb_cmp (head i) (pieces (row_pos e.0) i)) e.0 e.1 else None) (rows i))
    ∙ ap (λ ls. ls ++ filter_map (own_line m slice) m.rows) statics
