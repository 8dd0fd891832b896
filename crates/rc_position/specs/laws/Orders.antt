-- The laws of the orders of `Position`: each is total, and only equal values tie.
--     comp_cmp_total, pos_cmp_total, key_cmp_total      `IsTotalOrder`
--     comp_cmp_same, pos_cmp_same, key_cmp_same         `IsAntisymmetric`
use Rattle.std.specs.Prelude.{◌≡◌, ◌↔◌, ℕ, Bool, IsTrue, List, [], ◌∷◌, ℤ, pos, Option, Some, None}
use Rattle.std.proofs.Common.{refl, sym, ap, ◌∙◌, subst}
use Rattle.std.specs.Option.{option_cmp}
use Rattle.std.specs.declared.cmp.Ordering.{Ordering}
use Rattle.std.specs.declared.cmp.Ordering.TheVariants.{Less, Equal, Greater}
use Rattle.std.specs.Ordering.{ordering_reverse, ordering_then, nat_cmp, int_cmp, is_eq, eq_by_cmp, on, then_cmp}
use Rattle.std.specs.Cmp.{IsTotalOrder, tied_itself, nat_cmp_total, int_cmp_total, on_total, then_total}
use Rattle.std.specs.Cmp.Lexicographic.{slice_cmp, lists_total, nat_list_cmp_total, options_total}
use Rattle.std.specs.FinMap.{IsAntisymmetric, nat_cmp-IsAntisymmetric, int_cmp-IsAntisymmetric, slice_cmp-IsAntisymmetric}
use Rattle.rc_position.specs.declared.comps.Comp.{Comp}
use Rattle.rc_position.specs.declared.comps.Comp.TheVariants.{Int, Text}
use Rattle.rc_position.specs.declared.positions.Weight.{Weight}
use Rattle.rc_position.specs.declared.positions.Weight.TheVariants.{Before, At, After}
use Rattle.rc_position.specs.declared.positions.Pos.{Pos}
use Rattle.rc_position.specs.Position.{bytes_cmp, comp_cmp, weight_cmp, shorter_cmp, prefix_cmp, pos_cmp, key_cmp, row_pos}

pub bytes_cmp_total : IsTotalOrder bytes_cmp
bytes_cmp_total = nat_list_cmp_total

pub bytes_cmp_same : IsAntisymmetric bytes_cmp
bytes_cmp_same = slice_cmp-IsAntisymmetric nat_cmp-IsAntisymmetric

then_Equal : (r : Ordering) → ordering_then r Equal ≡ r
then_Equal Less = refl
then_Equal Equal = refl
then_Equal Greater = refl

both_Equal : (r s : Ordering) → ordering_then r s ≡ Equal → (r ≡ Equal) × (s ≡ Equal)
both_Equal Less s e = (e, absurd (cc))
both_Equal Equal s e = (refl, e)
both_Equal Greater s e = (e, absurd (cc))

-- ---- components: the kind first, then the number, then the bytes

-- 0 for a number, 1 for text
abbrev kind : Comp → ℕ
kind (Int a) = 0
kind (Text b) = 1

-- the number of a component; 0 for text
abbrev number : Comp → ℤ
number (Int a) = a
number (Text b) = pos 0

-- the bytes of a component; none for a number
abbrev bytes : Comp → List ℕ
bytes (Int a) = []
bytes (Text b) = b

-- the order of components, as that of their kinds, numbers and bytes in turn
abbrev by_parts : Comp → Comp → Ordering
by_parts = then_cmp (on kind nat_cmp) (then_cmp (on number int_cmp) (on bytes bytes_cmp))

comp_parts : (c d : Comp) → by_parts c d ≡ comp_cmp c d
comp_parts (Int a) (Int b) = then_Equal (int_cmp a b)
comp_parts (Int a) (Text b) = refl
comp_parts (Text a) (Int b) = refl
comp_parts (Text a) (Text b) = refl

pub comp_cmp_total : IsTotalOrder comp_cmp
comp_cmp_total = subst IsTotalOrder (λ i c d. comp_parts c d i) (then_total (on_total kind nat_cmp_total) (then_total (on_total number int_cmp_total) (on_total bytes bytes_cmp_total)))

pub comp_cmp_same : IsAntisymmetric comp_cmp
comp_cmp_same (Int a) (Int b) e = ap Int (int_cmp-IsAntisymmetric a b e)
comp_cmp_same (Int a) (Text b) e = absurd (cc)
comp_cmp_same (Text a) (Int b) e = absurd (cc)
comp_cmp_same (Text a) (Text b) e = ap Text (bytes_cmp_same a b e)

-- ---- positions: a prefix and a weight as one list of marks, of which the first that differs decides

-- a component stands between At and After
abbrev rank : Weight → ℕ
rank Before = 0
rank At = 1
rank After = 3

-- a prefix and a weight as a list that is ordered item by item: 2 and the component for each, then the weight's rank
abbrev marks : List Comp → Weight → List (ℕ × Option Comp)
marks [] w = (rank w, None) ∷ []
marks (c ∷ cs) w = (2, Some c) ∷ marks cs w

-- the order of the items of such a list
abbrev mark_cmp : (ℕ × Option Comp) → (ℕ × Option Comp) → Ordering
mark_cmp = then_cmp (on (λ m. m.0) nat_cmp) (on (λ m. m.1) (option_cmp comp_cmp))

mark_cmp_total : IsTotalOrder mark_cmp
mark_cmp_total = then_total (on_total (λ m. m.0) nat_cmp_total) (on_total (λ m. m.1) (options_total comp_cmp_total))

marks_cmp : (cs : List Comp) (v : Weight) (ds : List Comp) (w : Weight) → slice_cmp mark_cmp (marks cs v) (marks ds w) ≡ prefix_cmp cs v ds w
marks_cmp [] Before [] Before = refl
marks_cmp [] Before [] At = refl
marks_cmp [] Before [] After = refl
marks_cmp [] At [] Before = refl
marks_cmp [] At [] At = refl
marks_cmp [] At [] After = refl
marks_cmp [] After [] Before = refl
marks_cmp [] After [] At = refl
marks_cmp [] After [] After = refl
marks_cmp [] Before (d ∷ ds) w = refl
marks_cmp [] At (d ∷ ds) w = refl
marks_cmp [] After (d ∷ ds) w = refl
marks_cmp (c ∷ cs) v [] Before = refl
marks_cmp (c ∷ cs) v [] At = refl
marks_cmp (c ∷ cs) v [] After = refl
marks_cmp (c ∷ cs) v (d ∷ ds) w = ap (ordering_then (comp_cmp c d)) (marks_cmp cs v ds w)

-- the list of a position
abbrev marks_of : Pos → List (ℕ × Option Comp)
marks_of x = marks x.prefix x.weight

pub pos_cmp_total : IsTotalOrder pos_cmp
unfolding pos_cmp
pos_cmp_total = subst IsTotalOrder (λ i x y. marks_cmp x.prefix x.weight y.prefix y.weight i) (on_total marks_of (lists_total mark_cmp_total))

pub weight_cmp_same : IsAntisymmetric weight_cmp
weight_cmp_same Before Before e = refl
weight_cmp_same Before At e = absurd (cc)
weight_cmp_same Before After e = absurd (cc)
weight_cmp_same At Before e = absurd (cc)
weight_cmp_same At At e = refl
weight_cmp_same At After e = absurd (cc)
weight_cmp_same After Before e = absurd (cc)
weight_cmp_same After At e = absurd (cc)
weight_cmp_same After After e = refl

never_Equal : (w : Weight) → shorter_cmp w ≡ Equal → ⊥
never_Equal Before e = cc
never_Equal At e = cc
never_Equal After e = cc

never_Equal_back : (w : Weight) → ordering_reverse (shorter_cmp w) ≡ Equal → ⊥
never_Equal_back Before e = cc
never_Equal_back At e = cc
never_Equal_back After e = cc

prefix_cmp_same : (cs : List Comp) (v : Weight) (ds : List Comp) (w : Weight) → prefix_cmp cs v ds w ≡ Equal → (cs ≡ ds) × (v ≡ w)
prefix_cmp_same [] v [] w e = (refl, weight_cmp_same v w e)
prefix_cmp_same [] v (d ∷ ds) w e = absurd (never_Equal v e)
prefix_cmp_same (c ∷ cs) v [] w e = absurd (never_Equal_back w e)
prefix_cmp_same (c ∷ cs) v (d ∷ ds) w e =
    let both = both_Equal (comp_cmp c d) (prefix_cmp cs v ds w) e in
    let rest = prefix_cmp_same cs v ds w both.1 in
    (λ i. comp_cmp_same c d both.0 i ∷ rest.0 i, rest.1)

pub pos_cmp_same : IsAntisymmetric pos_cmp
unfolding pos_cmp
pos_cmp_same x y e =
    let both = prefix_cmp_same x.prefix x.weight y.prefix y.weight e in
    λ i. record { prefix = both.0 i; weight = both.1 i }

pub key_cmp_total : IsTotalOrder key_cmp
key_cmp_total = on_total row_pos pos_cmp_total

pub key_cmp_same : IsAntisymmetric key_cmp
key_cmp_same k l e = ap (λ (x : Pos). x.prefix) (pos_cmp_same (row_pos k) (row_pos l) e)

-- ---- what `==` says

same_by : {K : Type 0} (x y : K) (o : Ordering) → (o ≡ Equal → x ≡ y) → IsTrue (is_eq o) → x ≡ y
same_by x y Less h t = absurd (cc)
same_by x y Equal h t = h refl
same_by x y Greater h t = absurd (cc)

-- where only equal values tie, `==` by the order says whether two values are one
pub eq_by_cmp-same : {K : Type 0} {R : K → K → Ordering} → IsTotalOrder R → IsAntisymmetric R → (x y : K) (r : Bool) → r ≡ eq_by_cmp R x y → IsTrue r ↔ (x ≡ y)
eq_by_cmp-same {R = R} o same x y r e =
    (λ t. same_by x y (R x y) (same x y) (sym e ∙ t), λ p. e ∙ ap is_eq (subst (λ z. R x z ≡ Equal) p (tied_itself o x)))
