-- The steps of the loops, and when a row has a line.
use Rattle.std.proofs.Common.{◌≡◌, ℕ, ◌+◌, ◌<◌, Bool, true, ◌||◌, List, [], ◌∷◌, ◌++◌, Option, Some, None, cond, length, take, get_or, refl, sym, ap, ◌∙◌, append-nil, append_assoc, arith}
use Rattle.std.specs.Prelude.{IsTrue, not, ◌==◌, suc}
use Rattle.std.specs.declared.cmp.Ordering.{Ordering}
use Rattle.std.specs.declared.cmp.Ordering.TheVariants.{Less, Equal, Greater}
use Rattle.std.specs.Ordering.{is_ge, is_le, ordering_reverse}
use Rattle.std.specs.Option.{option_to_list}
use Rattle.std.specs.List.{filter_map, list_any, cons_option}
use Rattle.std.proofs.lemmas.Bool.Decides.{nat_tests}
use Rattle.std.proofs.lemmas.List.{take_more}
use Rattle.std.proofs.lemmas.List.Elements.{filter_map-append}
use Rattle.rc_cell.specs.declared.rows.Row.{Row}
use Rattle.rc_cell.specs.Columns.{ascending}
use Rattle.rc_cell.specs.Deletion.{in_force, survives}
use Rattle.rc_cell.specs.declared.writes.Tomb.{Tomb}
use Rattle.rc_cell.specs.laws.Beats.{tomb_cmp-IsAntisymmetric}
use Rattle.rc_cell.specs.Greatest.{greater}
use Rattle.rc_cell.specs.laws.Greatest.{greatest-two}
use Rattle.rc_cell.specs.Orders.{tomb_cmp, tomb_cmp_total}
use Rattle.rc_cell.specs.laws.ByColumn.{winners-ascending}
use Rattle.rc_cell.specs.Winner.{winners}
use Rattle.rc_position.specs.declared.comps.Comp.{Comp}
use Rattle.rc_position.specs.declared.positions.Pos.{Pos}
use Rattle.rc_position.specs.Position.{pos_cmp}
use Rattle.rc_position.specs.laws.Orders.{pos_cmp_total}
use Rattle.rc_query.specs.declared.lines.OutLine.TheVariants as line
use Rattle.rc_mutation.specs.Fragments.{has_any}
use Rattle.rc_query.specs.Answer.{line_of, live_values, static_line}
use Rattle.rc_query.specs.laws.Answers.{row_line}

cons_one : {X : Type 0} (o : Option X) → cons_option o [] ≡ option_to_list o
cons_one None = refl
cons_one (Some x) = refl

-- what `filter_map` gives of one element more
pub filter_map-more : {X Y : Type 0} (f : X → Option Y) (xs : List X) (i : ℕ) (d : X) → i < length xs → filter_map f (take (i + 1) xs) ≡ filter_map f (take i xs) ++ option_to_list (f (get_or xs i d))
filter_map-more f xs i d lt = ap (filter_map f) (take_more xs i d lt) ∙ filter_map-append f (take i xs) (get_or xs i d ∷ []) ∙ ap (λ ys. filter_map f (take i xs) ++ ys) (cons_one (f (get_or xs i d)))

-- the step of a loop that pushes what there is of one element more
pub step-some : {X Y : Type 0} (f : X → Option Y) (xs : List X) (i : ℕ) (d : X) (made next : List Y) (o : Option Y) (y : Y) → i < length xs → made ≡ filter_map f (take i xs) → o ≡ f (get_or xs i d) → o ≡ Some y → next ≡ made ++ y ∷ [] → next ≡ filter_map f (take (i + 1) xs)
step-some f xs i d made next o y lt before is some pushed =
    pushed ∙ (λ j. before j ++ option_to_list ((sym some ∙ is) j)) ∙ sym (filter_map-more f xs i d lt)

pub step-none : {X Y : Type 0} (f : X → Option Y) (xs : List X) (i : ℕ) (d : X) (made next : List Y) (o : Option Y) → i < length xs → made ≡ filter_map f (take i xs) → o ≡ f (get_or xs i d) → o ≡ None → next ≡ made → next ≡ filter_map f (take (i + 1) xs)
step-none f xs i d made next o lt before is none kept =
    kept ∙ sym (append-nil made) ∙ (λ j. before j ++ option_to_list ((sym none ∙ is) j)) ∙ sym (filter_map-more f xs i d lt)

-- the step of a loop that appends what there is of one element more
pub step-append : {X Y : Type 0} (f : X → Option Y) (xs : List X) (i : ℕ) (d : X) (first made next : List Y) (o : Option Y) → i < length xs → made ≡ first ++ filter_map f (take i xs) → o ≡ f (get_or xs i d) → next ≡ made ++ option_to_list o → next ≡ first ++ filter_map f (take (i + 1) xs)
step-append f xs i d first made next o lt before is pushed =
    pushed ∙ (λ j. before j ++ option_to_list (is j)) ∙ append_assoc first (filter_map f (take i xs)) (option_to_list (f (get_or xs i d))) ∙ ap (λ ys. first ++ ys) (sym (filter_map-more f xs i d lt))

-- the line of a row whose cells ascend
pub row_line-ascending : (outer cover : Option Tomb) (key : List Comp) (row : Row) (values : List (ℕ × List ℕ)) (given : Bool) → cover ≡ greater tomb_cmp outer row.tomb → IsTrue (ascending row.cells) → values ≡ live_values cover row.cells → given ≡ (has_any values || list_any (survives cover) (cons_option row.marker [])) → cond given (Some (line.Row key values)) None ≡ row_line outer key row
row_line-ascending outer cover key row values given c h is g =
    let cells : row.cells ≡ winners (row.cells ++ []) = sym (ap winners (append-nil row.cells) ∙ winners-ascending row.cells h) in
    let all : values ≡ live_values cover (winners (row.cells ++ [])) = is ∙ ap (live_values cover) cells in
    let force : cover ≡ in_force outer row = c ∙ sym (greatest-two tomb_cmp_total tomb_cmp-IsAntisymmetric outer row.tomb) in
    ap (λ b. cond b (Some (line.Row key values)) None) g
    ∙ (λ i. cond (has_any (all i) || list_any (survives cover) (cons_option row.marker [])) (Some (line.Row key (all i))) None)
    ∙ ap (λ t. line_of t key (row ∷ [])) force

-- the static line of a row whose cells ascend
pub static_line-ascending : (head : Option Tomb) (row : Row) (values : List (ℕ × List ℕ)) → IsTrue (ascending row.cells) → values ≡ live_values head row.cells → cond (has_any values) (Some (line.Static values)) None ≡ static_line head (row ∷ [])
static_line-ascending head row values h is =
    let cells : row.cells ≡ winners (row.cells ++ []) = sym (ap winners (append-nil row.cells) ∙ winners-ascending row.cells h) in
    let all : values ≡ live_values head (winners (row.cells ++ [])) = is ∙ ap (live_values head) cells in
    λ i. cond (has_any (all i)) (Some (line.Static (all i))) None

not_zero : (n : ℕ) → not (suc n == 0) ≡ true
not_zero n = grind (arith, nat_tests)

-- whether a list is empty
pub has_any-length : {X : Type 0} (xs : List X) → not (length xs == 0) ≡ has_any xs
has_any-length [] = refl
has_any-length (x ∷ xs) = not_zero (length xs)

reversed_ge : (r : Ordering) → is_ge (ordering_reverse r) ≡ is_le r
reversed_ge Less = refl
reversed_ge Equal = refl
reversed_ge Greater = refl

-- a position stands behind another, or at it, where that one stands before it, or at it
pub turned_ge : (x y : Pos) → is_ge (pos_cmp x y) ≡ is_le (pos_cmp y x)
turned_ge x y = ap is_ge (pos_cmp_total.antisymm x y) ∙ reversed_ge (pos_cmp y x)
