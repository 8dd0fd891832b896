-- What follows from the order of positions.
--     key_cmp-components                       keys by their components; a proper prefix is smaller
--     Before-rows, After-rows                  (p, Before) stands before, and (p, After) after, each row whose key begins with p
--     start_bound-rows, end_bound-rows         the same of the bounds of ranges
--     first_pos-least, last_pos-greatest       no position stands before (no prefix, Before) or behind (no prefix, After)
--     row_pos-next                             none of the positions of n components stands between (k, At) and (k, After)
--     place_cmp_total, place_cmp_same          the order of all places is total, and only equal places tie
use Rattle.std.specs.Prelude.{◌≡◌, ℕ, ◌≤◌, Bool, true, false, MatchBool, List, [], ◌∷◌, ◌++◌, length, Option, Some, None, ◌⊎◌}
use Rattle.std.proofs.Common.{refl, sym, ap, ◌∙◌, subst, arith, inl, inr, ⊎_elim}
use Rattle.std.specs.Option.{option_cmp}
use Rattle.std.specs.declared.cmp.Ordering.{Ordering}
use Rattle.std.specs.declared.cmp.Ordering.TheVariants.{Less, Equal, Greater}
use Rattle.std.specs.Ordering.{ordering_reverse, ordering_then, nat_cmp, is_gt, on, then_cmp}
use Rattle.std.specs.Cmp.{IsTotalOrder, tied_itself, nat_cmp_total, on_total, then_total}
use Rattle.std.specs.Cmp.Lexicographic.{slice_cmp, options_total}
use Rattle.std.specs.FinMap.{IsAntisymmetric}
use Rattle.rc_position.specs.declared.comps.Comp.{Comp}
use Rattle.rc_position.specs.declared.positions.Weight.{Weight}
use Rattle.rc_position.specs.declared.positions.Weight.TheVariants.{Before, At, After}
use Rattle.rc_position.specs.declared.positions.Pos.{Pos}
use Rattle.rc_position.specs.Position.{comp_cmp, prefix_cmp, pos_cmp, key_cmp, row_pos, IsBefore, IsBeforeRows, IsAfterRows, start_bound, end_bound, IsPosOf, Place, Head, Static, Clustered, End, place_cmp}
use Rattle.rc_position.specs.laws.Orders.{comp_cmp_total, pos_cmp_total, pos_cmp_same}

by_components : (k l : List Comp) → prefix_cmp k At l At ≡ slice_cmp comp_cmp k l
by_components [] [] = refl
by_components [] (d ∷ ds) = refl
by_components (c ∷ cs) [] = refl
by_components (c ∷ cs) (d ∷ ds) = ap (ordering_then (comp_cmp c d)) (by_components cs ds)

pub key_cmp-components : (k l : List Comp) → key_cmp k l ≡ slice_cmp comp_cmp k l
unfolding pos_cmp
key_cmp-components k l = by_components k l

-- the components that two prefixes share decide nothing
shared : (p : List Comp) (cs : List Comp) (v : Weight) (ds : List Comp) (w : Weight) → prefix_cmp (p ++ cs) v (p ++ ds) w ≡ prefix_cmp cs v ds w
shared [] cs v ds w = refl
shared (c ∷ p) cs v ds w = ap (λ o. ordering_then o (prefix_cmp (p ++ cs) v (p ++ ds) w)) (tied_itself comp_cmp_total c) ∙ shared p cs v ds w

before_all : (p rest : List Comp) → prefix_cmp p Before (p ++ rest) At ≡ Less
before_all [] [] = refl
before_all [] (d ∷ ds) = refl
before_all (c ∷ p) rest = ap (λ o. ordering_then o (prefix_cmp p Before (p ++ rest) At)) (tied_itself comp_cmp_total c) ∙ before_all p rest

after_all : (p rest : List Comp) → prefix_cmp (p ++ rest) At p After ≡ Less
after_all [] [] = refl
after_all [] (d ∷ ds) = refl
after_all (c ∷ p) rest = ap (λ o. ordering_then o (prefix_cmp (p ++ rest) At p After)) (tied_itself comp_cmp_total c) ∙ after_all p rest

pub Before-rows : (p : List Comp) → IsBeforeRows p (record { prefix = p; weight = Before })
unfolding pos_cmp
Before-rows p rest = before_all p rest

pub After-rows : (p : List Comp) → IsAfterRows p (record { prefix = p; weight = After })
unfolding pos_cmp
After-rows p rest = after_all p rest

pub start_bound-rows : (p : List Comp) (inclusive : Bool) → MatchBool inclusive (IsBeforeRows p (start_bound p inclusive)) (IsAfterRows p (start_bound p inclusive))
start_bound-rows p true = Before-rows p
start_bound-rows p false = After-rows p

pub end_bound-rows : (p : List Comp) (inclusive : Bool) → MatchBool inclusive (IsAfterRows p (end_bound p inclusive)) (IsBeforeRows p (end_bound p inclusive))
end_bound-rows p true = After-rows p
end_bound-rows p false = Before-rows p

least : (ds : List Comp) (w : Weight) → is_gt (prefix_cmp [] Before ds w) ≡ false
least [] Before = refl
least [] At = refl
least [] After = refl
least (d ∷ ds) w = refl

pub first_pos-least : (x : Pos) → is_gt (pos_cmp (record { prefix = []; weight = Before }) x) ≡ false
unfolding pos_cmp
first_pos-least x = least x.prefix x.weight

greatest : (cs : List Comp) (v : Weight) → is_gt (prefix_cmp cs v [] After) ≡ false
greatest [] Before = refl
greatest [] At = refl
greatest [] After = refl
greatest (c ∷ cs) v = refl

pub last_pos-greatest : (x : Pos) → is_gt (pos_cmp x (record { prefix = []; weight = After })) ≡ false
unfolding pos_cmp
last_pos-greatest x = greatest x.prefix x.weight

-- ---- all places

-- how far the kind of a place stands from a partition's head
abbrev place_rank : Place → ℕ
place_rank Head = 0
place_rank Static = 1
place_rank (Clustered x) = 2
place_rank End = 3

-- the position of a place among the rows
abbrev clustered : Place → Option Pos
clustered Head = None
clustered Static = None
clustered (Clustered x) = Some x
clustered End = None

place_parts : (x y : Place) → then_cmp (on place_rank nat_cmp) (on clustered (option_cmp pos_cmp)) x y ≡ place_cmp x y
place_parts Head Head = refl
place_parts Head Static = refl
place_parts Head (Clustered y) = refl
place_parts Head End = refl
place_parts Static Head = refl
place_parts Static Static = refl
place_parts Static (Clustered y) = refl
place_parts Static End = refl
place_parts (Clustered x) Head = refl
place_parts (Clustered x) Static = refl
place_parts (Clustered x) (Clustered y) = refl
place_parts (Clustered x) End = refl
place_parts End Head = refl
place_parts End Static = refl
place_parts End (Clustered y) = refl
place_parts End End = refl

pub place_cmp_total : IsTotalOrder place_cmp
place_cmp_total = subst IsTotalOrder (λ i x y. place_parts x y i) (then_total (on_total place_rank nat_cmp_total) (on_total clustered (options_total pos_cmp_total)))

pub place_cmp_same : IsAntisymmetric place_cmp
place_cmp_same Head Head e = refl
place_cmp_same Head Static e = absurd (cc)
place_cmp_same Head (Clustered y) e = absurd (cc)
place_cmp_same Head End e = absurd (cc)
place_cmp_same Static Head e = absurd (cc)
place_cmp_same Static Static e = refl
place_cmp_same Static (Clustered y) e = absurd (cc)
place_cmp_same Static End e = absurd (cc)
place_cmp_same (Clustered x) Head e = absurd (cc)
place_cmp_same (Clustered x) Static e = absurd (cc)
place_cmp_same (Clustered x) (Clustered y) e = ap Clustered (pos_cmp_same x y e)
place_cmp_same (Clustered x) End e = absurd (cc)
place_cmp_same End Head e = absurd (cc)
place_cmp_same End Static e = absurd (cc)
place_cmp_same End (Clustered y) e = absurd (cc)
place_cmp_same End End e = refl

-- ---- positions of rows with n components

then_Less : (r s : Ordering) → ordering_then r s ≡ Less → (r ≡ Less) ⊎ ((r ≡ Equal) × (s ≡ Less))
then_Less Less s e = inl refl
then_Less Equal s e = inr (refl, e)
then_Less Greater s e = absurd (cc)

no_gap : (k : List Comp) (ds : List Comp) (w : Weight) → length ds ≤ length k → (w ≡ At → length ds ≡ length k) → prefix_cmp k At ds w ≡ Less → prefix_cmp ds w k After ≡ Less → ⊥
no_gap [] [] Before short full e f = cc
no_gap [] [] At short full e f = cc
no_gap [] [] After short full e f = cc
no_gap [] (d ∷ ds) w short full e f = omega arith
no_gap (c ∷ cs) [] Before short full e f = cc
no_gap (c ∷ cs) [] At short full e f = let same : 0 ≡ length (c ∷ cs) = full refl in omega arith
no_gap (c ∷ cs) [] After short full e f = cc
no_gap (c ∷ cs) (d ∷ ds) w short full e f =
    let turn : comp_cmp c d ≡ ordering_reverse (comp_cmp d c) = comp_cmp_total.antisymm c d in
    ⊎_elim
    (λ l. ⊎_elim (λ m. apart (comp_cmp c d) (comp_cmp d c) turn l m) (λ m. apart_tied (comp_cmp c d) (comp_cmp d c) turn l m.0) (then_Less (comp_cmp d c) (prefix_cmp ds w cs After) f))
    (λ l. ⊎_elim (λ m. tied_apart (comp_cmp c d) (comp_cmp d c) turn l.0 m) (λ m. no_gap cs ds w (omega arith) (λ a. let same : length (d ∷ ds) ≡ length (c ∷ cs) = full a in omega arith) l.1 m.1) (then_Less (comp_cmp d c) (prefix_cmp ds w cs After) f))
    (then_Less (comp_cmp c d) (prefix_cmp cs At ds w) e)
  where
    apart : (r s : Ordering) → r ≡ ordering_reverse s → r ≡ Less → s ≡ Less → ⊥
    apart r s t p q = let u : Less ≡ Greater = sym p ∙ t ∙ ap ordering_reverse q in cc

    apart_tied : (r s : Ordering) → r ≡ ordering_reverse s → r ≡ Less → s ≡ Equal → ⊥
    apart_tied r s t p q = let u : Less ≡ Equal = sym p ∙ t ∙ ap ordering_reverse q in cc

    tied_apart : (r s : Ordering) → r ≡ ordering_reverse s → r ≡ Equal → s ≡ Less → ⊥
    tied_apart r s t p q = let u : Equal ≡ Greater = sym p ∙ t ∙ ap ordering_reverse q in cc

pub row_pos-next : (k : List Comp) (x : Pos) → IsPosOf (length k) x → IsBefore (row_pos k) x → IsBefore x (record { prefix = k; weight = After }) → ⊥
unfolding pos_cmp
row_pos-next k x of e f = no_gap k x.prefix x.weight of.0 of.1 e f
