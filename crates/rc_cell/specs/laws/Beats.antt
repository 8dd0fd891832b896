-- The order of cells agrees with the rules of reconciliation, and the winner does not depend on the order of the cells.
use Rattle.std.specs.Prelude.{ℕ, ℤ, Bool, true, false, ◌&&◌, ◌||◌, ◌==◌, nat_lt, int_lt, List, [], ◌∷◌, ◌++◌, Option, None, cond, ◌≡◌}
use Rattle.std.proofs.Common.{refl, sym, ap, ◌∙◌}
use Rattle.std.specs.declared.cmp.Ordering.{Ordering}
use Rattle.std.specs.declared.cmp.Ordering.TheVariants.{Less, Equal, Greater}
use Rattle.std.specs.Ordering.{nat_cmp, int_cmp, int_eq, is_lt, is_gt, is_eq, ordering_then, ordering_reverse}
use Rattle.std.specs.Cmp.{unsigned_tied, int_cmp_total, nat_cmp_total}
use Rattle.std.specs.Cmp.Lexicographic.{slice_cmp}
use Rattle.rc_cell.specs.declared.writes.Cell.{Cell}
use Rattle.rc_cell.specs.declared.writes.Cell.TheVariants.{Live, Dead}
use Rattle.std.specs.FinMap.{IsAntisymmetric, int_cmp-IsAntisymmetric, nat_cmp-IsAntisymmetric, slice_cmp-IsAntisymmetric}
use Rattle.std.specs.Option.{option_to_list}
use Rattle.rc_cell.specs.Orders.{timestamp_of, rank_of, bytes_of, deletion_time_of, cell_cmp, cell_cmp_total, tomb_cmp}
use Rattle.rc_cell.specs.Greatest.{greater}
use Rattle.rc_cell.specs.laws.Greatest.{greatest-append, greatest-swap, greatest-twice, greatest-one, greatest-two}
use Rattle.rc_cell.specs.Winner.{is_larger, beats_at_tie, beats, unbeaten, winner, greatest}

lt_test : (a b : Bool) → is_lt (cond a Less (cond b Greater Equal)) ≡ a
lt_test true b = refl
lt_test false true = refl
lt_test false false = refl

turn_gt : (r : Ordering) → is_gt (ordering_reverse r) ≡ is_lt r
turn_gt Less = refl
turn_gt Equal = refl
turn_gt Greater = refl

int_cmp-above : (x y : ℤ) → is_gt (int_cmp x y) ≡ int_lt y x
int_cmp-above x y = ap is_gt (int_cmp_total.antisymm x y) ∙ turn_gt (int_cmp y x) ∙ lt_test (int_lt y x) (int_lt x y)

nat_lt_test : (a b : Bool) → is_lt (cond a Less (cond b Equal Greater)) ≡ a
nat_lt_test true b = refl
nat_lt_test false true = refl
nat_lt_test false false = refl

nat_cmp-above : (x y : ℕ) → is_gt (nat_cmp x y) ≡ nat_lt y x
nat_cmp-above x y = ap is_gt (nat_cmp_total.antisymm x y) ∙ turn_gt (nat_cmp y x) ∙ nat_lt_test (nat_lt y x) (y == x)

above_then : (r s : Ordering) → is_gt (ordering_then r s) ≡ (is_gt r || (is_eq r && is_gt s))
above_then Less s = refl
above_then Equal s = refl
above_then Greater s = refl

then_nothing : (r : Ordering) → ordering_then r Equal ≡ r
then_nothing Less = refl
then_nothing Equal = refl
then_nothing Greater = refl

-- the rule for values is the order of bytes
slice_cmp-above : (v w : List ℕ) → is_gt (slice_cmp nat_cmp v w) ≡ is_larger v w
slice_cmp-above [] [] = refl
slice_cmp-above [] (y ∷ ys) = refl
slice_cmp-above (x ∷ xs) [] = refl
slice_cmp-above (x ∷ xs) (y ∷ ys) =
    above_then (nat_cmp x y) (slice_cmp nat_cmp xs ys)
    ∙ (λ i. nat_cmp-above x y i || (unsigned_tied x y i && slice_cmp-above xs ys i))

-- what the order of cells answers after the timestamps
abbrev rest_cmp : Cell → Cell → Ordering
rest_cmp c d = ordering_then (ordering_then (nat_cmp (rank_of c) (rank_of d)) (slice_cmp nat_cmp (bytes_of c) (bytes_of d))) (nat_cmp (deletion_time_of c) (deletion_time_of d))

regrouped : (r a b c : Ordering) → ordering_then (ordering_then (ordering_then r a) b) c ≡ ordering_then r (ordering_then (ordering_then a b) c)
regrouped Less a b c = refl
regrouped Equal a b c = refl
regrouped Greater a b c = refl

rest-above : (c d : Cell) → is_gt (rest_cmp c d) ≡ beats_at_tie c d
rest-above (Live ts value) (Live ts' value') = ap is_gt (then_nothing (slice_cmp nat_cmp value value')) ∙ slice_cmp-above value value'
rest-above (Live ts value) (Dead ts' time') = refl
rest-above (Dead ts time) (Live ts' value') = refl
rest-above (Dead ts time) (Dead ts' time') = nat_cmp-above time time'

-- a cell beats another exactly where it is the greater in the order of cells
pub beats-is_gt : (c d : Cell) → beats c d ≡ is_gt (cell_cmp c d)
beats-is_gt c d =
    sym (
    ap is_gt (regrouped (int_cmp (timestamp_of c) (timestamp_of d)) _ _ _)
    ∙ above_then (int_cmp (timestamp_of c) (timestamp_of d)) (rest_cmp c d)
    ∙ (λ i. int_cmp-above (timestamp_of c) (timestamp_of d) i || (int_eq (timestamp_of c) (timestamp_of d) && rest-above c d i))
    )

-- so the winner is the greatest in that order
pub winner-greatest : (cells : List Cell) → winner cells ≡ greatest cell_cmp cells
unfolding winner greatest
winner-greatest cells = λ i. unbeaten (λ c d. beats-is_gt c d i) cells

then_first : (r s : Ordering) → ordering_then r s ≡ Equal → r ≡ Equal
then_first Less s e = e
then_first Equal s e = refl
then_first Greater s e = e

then_second : (r s : Ordering) → ordering_then r s ≡ Equal → s ≡ Equal
then_second Less s e = absurd (cc)
then_second Equal s e = e
then_second Greater s e = absurd (cc)

cells_tied : (c d : Cell) → int_cmp (timestamp_of c) (timestamp_of d) ≡ Equal → rest_cmp c d ≡ Equal → c ≡ d
cells_tied (Live ts value) (Live ts' value') e h =
    let stamps : ts ≡ ts' = int_cmp-IsAntisymmetric ts ts' e in
    let values : value ≡ value' = slice_cmp-IsAntisymmetric nat_cmp-IsAntisymmetric value value' (then_first _ _ h) in
    λ i. Live (stamps i) (values i)
cells_tied (Live ts value) (Dead ts' time') e h = absurd (cc)
cells_tied (Dead ts time) (Live ts' value') e h = absurd (cc)
cells_tied (Dead ts time) (Dead ts' time') e h =
    let stamps : ts ≡ ts' = int_cmp-IsAntisymmetric ts ts' e in
    let times : time ≡ time' = nat_cmp-IsAntisymmetric time time' h in
    λ i. Dead (stamps i) (times i)

-- only equal cells tie, and only equal tombstones
pub cell_cmp-IsAntisymmetric : IsAntisymmetric cell_cmp
cell_cmp-IsAntisymmetric c d e =
    let h = sym (regrouped (int_cmp (timestamp_of c) (timestamp_of d)) (nat_cmp (rank_of c) (rank_of d)) (slice_cmp nat_cmp (bytes_of c) (bytes_of d)) (nat_cmp (deletion_time_of c) (deletion_time_of d))) ∙ e in
    cells_tied c d (then_first (int_cmp (timestamp_of c) (timestamp_of d)) (rest_cmp c d) h) (then_second (int_cmp (timestamp_of c) (timestamp_of d)) (rest_cmp c d) h)

pub tomb_cmp-IsAntisymmetric : IsAntisymmetric tomb_cmp
tomb_cmp-IsAntisymmetric s t e =
    let stamps = int_cmp-IsAntisymmetric s.ts t.ts (then_first (int_cmp s.ts t.ts) (nat_cmp s.dt t.dt) e) in
    let times = nat_cmp-IsAntisymmetric s.dt t.dt (then_second (int_cmp s.ts t.ts) (nat_cmp s.dt t.dt) e) in
    λ i. record { ts = stamps i; dt = times i }

-- of cells together the winner is the winner of the two winners, in whatever order, and however often one is written
pub winner-append : (xs ys : List Cell) → winner (xs ++ ys) ≡ winner (option_to_list (winner xs) ++ option_to_list (winner ys))
winner-append xs ys =
    winner-greatest (xs ++ ys)
    ∙ greatest-append cell_cmp_total cell_cmp-IsAntisymmetric xs ys
    ∙ sym (winner-greatest _ ∙ (λ i. greatest cell_cmp (option_to_list (winner-greatest xs i) ++ option_to_list (winner-greatest ys i))))

pub winner-swap : (xs ys : List Cell) → winner (xs ++ ys) ≡ winner (ys ++ xs)
winner-swap xs ys = winner-greatest (xs ++ ys) ∙ greatest-swap cell_cmp_total cell_cmp-IsAntisymmetric xs ys ∙ sym (winner-greatest (ys ++ xs))

pub winner-twice : (xs : List Cell) → winner (xs ++ xs) ≡ winner xs
winner-twice xs = winner-greatest (xs ++ xs) ∙ greatest-twice cell_cmp_total cell_cmp-IsAntisymmetric xs ∙ sym (winner-greatest xs)

pub winner-one : (s : Option Cell) → winner (option_to_list s) ≡ s
winner-one s = winner-greatest _ ∙ greatest-one cell_cmp_total cell_cmp-IsAntisymmetric s

pub winner-two : (s t : Option Cell) → winner (option_to_list s ++ option_to_list t) ≡ greater cell_cmp s t
winner-two s t = winner-greatest _ ∙ greatest-two cell_cmp_total cell_cmp-IsAntisymmetric s t

pub winner-none : winner [] ≡ None
unfolding winner
winner-none = refl
