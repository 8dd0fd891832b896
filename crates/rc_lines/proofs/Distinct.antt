-- A set of texts is as long as the list that it was made of exactly where no text stands there twice.
use Rattle.std.proofs.Common.{◌≡◌, ◌≤◌, ℕ, suc, ◌∙◌, Bool, true, false, not, ◌&&◌, ◌||◌, nat_eq, List, [], ◌∷◌, length, Bor, refl, sym, ap, map, arith}
use Rattle.std.specs.BTreeSet.{BTreeSet, btree_set_len, IsFromIterResult}
use Rattle.std.specs.Cmp.Lexicographic.{slice_cmp, texts_ties, nat_list_cmp_total}
use Rattle.std.specs.Cmp.{IsTotalOrder, on_total}
use Rattle.std.specs.List.{list_any}
use Rattle.std.specs.Ordering.{eq_by_cmp, nat_cmp}
use Rattle.std.specs.Set.{distinct_count}
use Rattle.std.specs.declared.cmp.Ordering.{Ordering}
use Rattle.std.proofs.lemmas.Bool.Decides.{nat_tests}
use Rattle.std.proofs.lemmas.Map.Made.{distinct_count-le}
use Rattle.std.proofs.lemmas.Map.Views.{btree_set_len-from_list}
use Rattle.rc_schema.specs.SchemaValue.{are_distinct_by}
use Rattle.rc_spelling.specs.Words.{is_word}

abbrev pub cmp : Bor (List ℕ) → Bor (List ℕ) → Ordering
cmp x y = slice_cmp nat_cmp x.now y.now

cmp_total : IsTotalOrder cmp
cmp_total = on_total (λ x. x.now) nat_list_cmp_total

any_same : (x : Bor (List ℕ)) (xs : List (Bor (List ℕ))) → list_any (eq_by_cmp cmp x) xs ≡ list_any (is_word x.now) (map (λ y. y.now) xs)
any_same x [] = refl
any_same x (y ∷ ys) =
    ap (λ (b : Bool). b || list_any (eq_by_cmp cmp x) ys) (sym (texts_ties x.now y.now)) ∙ ap (λ (b : Bool). is_word x.now y.now || b) (any_same x ys)

shorter : (n m : ℕ) → n ≤ m → nat_eq n (suc m) ≡ false
shorter n m h = grind (arith, nat_tests)

both_more : (n m : ℕ) → nat_eq (suc n) (suc m) ≡ nat_eq n m
both_more n m = grind (arith, nat_tests)

counted : (x : Bor (List ℕ)) (xs : List (Bor (List ℕ))) (b : Bool) → list_any (eq_by_cmp cmp x) xs ≡ b
    → nat_eq (distinct_count (eq_by_cmp cmp) xs) (length xs) ≡ are_distinct_by is_word (map (λ y. y.now) xs)
    → nat_eq (distinct_count (eq_by_cmp cmp) (x ∷ xs)) (length (x ∷ xs)) ≡ not b && are_distinct_by is_word (map (λ y. y.now) xs)
counted x xs true e h = rw e (shorter (distinct_count (eq_by_cmp cmp) xs) (length xs) (distinct_count-le (eq_by_cmp cmp) xs))
counted x xs false e h = rw e (both_more (distinct_count (eq_by_cmp cmp) xs) (length xs) ∙ h)

count_distinct : (xs : List (Bor (List ℕ))) → nat_eq (distinct_count (eq_by_cmp cmp) xs) (length xs) ≡ are_distinct_by is_word (map (λ x. x.now) xs)
count_distinct [] = refl
count_distinct (x ∷ xs) = counted x xs (list_any (is_word x.now) (map (λ y. y.now) xs)) (any_same x xs) (count_distinct xs)

pub distinct_tested : (xs : List (Bor (List ℕ))) (n : BTreeSet (Bor (List ℕ))) → IsFromIterResult cmp xs n
    → nat_eq (btree_set_len n) (length xs) ≡ are_distinct_by is_word (map (λ x. x.now) xs)
distinct_tested xs n made = ap (λ (k : ℕ). nat_eq k (length xs)) (btree_set_len-from_list cmp_total xs n made) ∙ count_distinct xs
