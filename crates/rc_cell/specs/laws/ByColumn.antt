-- Cells by column: what `winners` has at a column, and that it ascends. Its laws are those of the winner, column by column.
use Rattle.std.specs.Prelude.{ℕ, Bool, true, false, ◌&&◌, ◌||◌, ◌==◌, List, [], ◌∷◌, ◌++◌, Option, Some, None, is_some, cond, map as list_map, IsTrue, ◌≡◌}
use Rattle.std.proofs.Common.{refl, sym, ap, ◌∙◌, T}
use Rattle.std.specs.declared.cmp.Ordering.{Ordering}
use Rattle.std.specs.declared.cmp.Ordering.TheVariants.{Less, Equal, Greater}
use Rattle.std.specs.Ordering.{nat_cmp, is_lt, is_eq, eq_by_cmp}
use Rattle.std.specs.Option.{option_map, option_to_list}
use Rattle.std.specs.List.{filter, filter_map, list_any, cons_option}
use Rattle.std.specs.Cmp.{unsigned_tied, nat_cmp_total}
use Rattle.std.specs.FinMap as map
use Rattle.std.specs.FinMap.{find, is_sorted, nat_cmp-IsAntisymmetric}
use Rattle.std.specs.FinMap.Entries.{below_all, same_entries, is_some-find}
use Rattle.rc_cell.specs.declared.writes.Cell.{Cell}
use Rattle.rc_cell.specs.Columns.{ascending}
use Rattle.rc_cell.specs.Winner.{at_column, columns, winner, winners}
use Rattle.rc_cell.specs.laws.Beats.{winner-append, winner-swap, winner-twice, winner-one, winner-none}

pub holds : (b : Bool) → T b → b ≡ true
holds true h = refl
holds false h = absurd h

pub test_of : (b : Bool) → b ≡ true → T b
test_of true e = tt
test_of false e = absurd (cc)

pub both : (a b : Bool) → T a → T b → T (a && b)
both true b h k = k
both false b h k = h

pub first : (a b : Bool) → T (a && b) → T a
first true b h = tt
first false b h = h

pub second : (a b : Bool) → T (a && b) → T b
second true b h = h
second false b h = absurd h

apart : (r : Ordering) → T (is_lt r) → is_eq r ≡ false
apart Less h = refl
apart Equal h = absurd h
apart Greater h = absurd h

pub at_column-append : (q : ℕ) (xs ys : List (ℕ × Cell)) → at_column q (xs ++ ys) ≡ at_column q xs ++ at_column q ys
at_column-append q [] ys = refl
at_column-append q (x ∷ xs) ys =
    elim (q == x.0) as (λ b. list_map (λ e. e.1) (cond b (x ∷ filter (λ e. q == e.0) (xs ++ ys)) (filter (λ e. q == e.0) (xs ++ ys))) ≡ list_map (λ e. e.1) (cond b (x ∷ filter (λ e. q == e.0) xs) (filter (λ e. q == e.0) xs)) ++ at_column q ys) [
      | true ↦ ap (λ cs. x.1 ∷ cs) (at_column-append q xs ys)
      | false ↦ at_column-append q xs ys
    ]

module _ {X : Type 0} where
  -- no column of a list is equal to one below it
  below-apart : (q : ℕ) (es : List (ℕ × X)) → T (below_all nat_cmp q es) → list_any (eq_by_cmp nat_cmp q) (list_map (λ e. e.0) es) ≡ false
  below-apart q [] h = refl
  below-apart q (e ∷ es) h = ap (λ b. b || list_any (eq_by_cmp nat_cmp q) (list_map (λ e. e.0) es)) (apart (nat_cmp q e.0) (first (is_lt (nat_cmp q e.0)) (below_all nat_cmp q es) h)) ∙ below-apart q es (second (is_lt (nat_cmp q e.0)) (below_all nat_cmp q es) h)

or_first : (a b : Bool) → (a || b) ≡ false → a ≡ false
or_first true b e = e
or_first false b e = refl

or_second : (a b : Bool) → (a || b) ≡ false → b ≡ false
or_second true b e = absurd (cc)
or_second false b e = e

-- a column that does not occur has no cells
at_column-absent : (q : ℕ) (es : List (ℕ × Cell)) → list_any (eq_by_cmp nat_cmp q) (list_map (λ e. e.0) es) ≡ false → at_column q es ≡ []
at_column-absent q [] h = refl
at_column-absent q (e ∷ es) h =
    ap (λ b. list_map (λ e. e.1) (cond b (e ∷ filter (λ e. q == e.0) es) (filter (λ e. q == e.0) es))) (sym (unsigned_tied q e.0) ∙ or_first (eq_by_cmp nat_cmp q e.0) (list_any (eq_by_cmp nat_cmp q) (list_map (λ e. e.0) es)) h)
    ∙ at_column-absent q es (or_second (eq_by_cmp nat_cmp q e.0) (list_any (eq_by_cmp nat_cmp q) (list_map (λ e. e.0) es)) h)

tie : (r : Ordering) → is_eq r ≡ true → r ≡ Equal
tie Less e = absurd (cc)
tie Equal e = refl
tie Greater e = absurd (cc)

pub same_column : (q k : ℕ) → eq_by_cmp nat_cmp q k ≡ true → q ≡ k
same_column q k e = nat_cmp-IsAntisymmetric q k (tie (nat_cmp q k) e)

pub less : (r : Ordering) → T (is_lt r) → r ≡ Less
less Less h = refl
less Equal h = absurd h
less Greater h = absurd h

not_level : (r : Ordering) → r ≡ Less → is_eq r ≡ false
not_level Less e = refl
not_level Equal e = absurd (cc)
not_level Greater e = absurd (cc)

-- a column below all of a list has no cell there
pub find-below : (q : ℕ) (es : List (ℕ × Cell)) → T (below_all nat_cmp q es) → find nat_cmp q es ≡ None
find-below q [] h = refl
find-below q (e ∷ es) h =
    ap (λ b. cond b (Some e.1) (find nat_cmp q es)) (not_level (nat_cmp q e.0) (less (nat_cmp q e.0) (first (is_lt (nat_cmp q e.0)) (below_all nat_cmp q es) h)))
    ∙ find-below q es (second (is_lt (nat_cmp q e.0)) (below_all nat_cmp q es) h)

-- in an ascending list a column has at most one cell
pub at_column-ascending : (q : ℕ) (es : List (ℕ × Cell)) → T (is_sorted nat_cmp es) → at_column q es ≡ option_to_list (find nat_cmp q es)
at_column-ascending q [] h = refl
at_column-ascending q (e ∷ es) h =
    let below = first (below_all nat_cmp e.0 es) (is_sorted nat_cmp es) h in
    ap (λ b. list_map (λ e. e.1) (cond b (e ∷ filter (λ e. q == e.0) es) (filter (λ e. q == e.0) es))) (sym (unsigned_tied q e.0))
    ∙ elim (eq_by_cmp nat_cmp q e.0) as (λ b. eq_by_cmp nat_cmp q e.0 ≡ b → list_map (λ e. e.1) (cond b (e ∷ filter (λ e. q == e.0) es) (filter (λ e. q == e.0) es)) ≡ option_to_list (cond b (Some e.1) (find nat_cmp q es))) [
      | true ↦ λ k. ap (λ cs. e.1 ∷ cs) (at_column-absent q es (ap (λ x. list_any (eq_by_cmp nat_cmp x) (list_map (λ e. e.0) es)) (same_column q e.0 k) ∙ below-apart e.0 es below))
      | false ↦ λ k. at_column-ascending q es (second (below_all nat_cmp e.0 es) (is_sorted nat_cmp es) h)
    ] refl

module _ {X : Type 0} (w : ℕ → Option X) where
  abbrev chosen : ℕ → Option (ℕ × X)
  chosen k = option_map (λ x. (k, x)) (w k)

  found : (q k : ℕ) (ks : List ℕ) (o : Option X) → eq_by_cmp nat_cmp q k ≡ true → w k ≡ o → find nat_cmp q (filter_map chosen ks) ≡ cond (list_any (eq_by_cmp nat_cmp q) ks) (w q) None → find nat_cmp q (cons_option (option_map (λ x. (k, x)) o) (filter_map chosen ks)) ≡ w q
  found q k ks None t is rest =
      let nothing : w q ≡ None = ap w (same_column q k t) ∙ is in
      rest ∙ ap (λ o. cond (list_any (eq_by_cmp nat_cmp q) ks) o None) nothing ∙ elim (list_any (eq_by_cmp nat_cmp q) ks) as (λ b. cond {A = Option X} b None None ≡ None) [ true ↦ refl | false ↦ refl ] ∙ sym nothing
  found q k ks (Some x) t is rest = ap (λ b. cond b (Some x) (find nat_cmp q (filter_map chosen ks))) t ∙ sym is ∙ sym (ap w (same_column q k t))

  passed : (q k : ℕ) (ks : List ℕ) (o : Option X) → eq_by_cmp nat_cmp q k ≡ false → find nat_cmp q (cons_option (option_map (λ x. (k, x)) o) (filter_map chosen ks)) ≡ find nat_cmp q (filter_map chosen ks)
  passed q k ks None t = refl
  passed q k ks (Some x) t = ap (λ b. cond b (Some x) (find nat_cmp q (filter_map chosen ks))) t

  find-chosen : (q : ℕ) (ks : List ℕ) → find nat_cmp q (filter_map chosen ks) ≡ cond (list_any (eq_by_cmp nat_cmp q) ks) (w q) None
  find-chosen q [] = refl
  find-chosen q (k ∷ ks) =
      elim (eq_by_cmp nat_cmp q k) as (λ b. eq_by_cmp nat_cmp q k ≡ b → find nat_cmp q (filter_map chosen (k ∷ ks)) ≡ cond (b || list_any (eq_by_cmp nat_cmp q) ks) (w q) None) [
        | true ↦ λ t. found q k ks (w k) t refl (find-chosen q ks)
        | false ↦ λ t. passed q k ks (w k) t ∙ find-chosen q ks
      ] refl

  module _ {Y : Type 0} where
    below-chosen : (x : ℕ) (es : List (ℕ × Y)) → T (below_all nat_cmp x es) → T (below_all nat_cmp x (filter_map chosen (list_map (λ e. e.0) es)))
    below-chosen x [] h = tt
    below-chosen x (e ∷ es) h =
        let rest = below-chosen x es (second (is_lt (nat_cmp x e.0)) (below_all nat_cmp x es) h) in
        elim (w e.0) as (λ o. T (below_all nat_cmp x (cons_option (option_map (λ y. (e.0, y)) o) (filter_map chosen (list_map (λ e. e.0) es))))) [
          | None ↦ rest
          | Some y ↦ both (is_lt (nat_cmp x e.0)) _ (first (is_lt (nat_cmp x e.0)) (below_all nat_cmp x es) h) rest
        ]

    sorted-chosen : (es : List (ℕ × Y)) → T (is_sorted nat_cmp es) → T (is_sorted nat_cmp (filter_map chosen (list_map (λ e. e.0) es)))
    sorted-chosen [] h = tt
    sorted-chosen (e ∷ es) h =
        let below = below-chosen e.0 es (first (below_all nat_cmp e.0 es) (is_sorted nat_cmp es) h) in
        let rest = sorted-chosen es (second (below_all nat_cmp e.0 es) (is_sorted nat_cmp es) h) in
        elim (w e.0) as (λ o. T (is_sorted nat_cmp (cons_option (option_map (λ y. (e.0, y)) o) (filter_map chosen (list_map (λ e. e.0) es))))) [
          | None ↦ rest
          | Some y ↦ both (below_all nat_cmp e.0 (filter_map chosen (list_map (λ e. e.0) es))) _ below rest
        ]

-- whether a column occurs among the columns is whether it occurs in the list
columns-of : (q : ℕ) (es : List (ℕ × Cell)) → list_any (eq_by_cmp nat_cmp q) (columns es) ≡ list_any (eq_by_cmp nat_cmp q) (list_map (λ e. e.0) es)
columns-of q es =
    let m = map.from_entries {R = nat_cmp} es in
    sym (map.contains_key-keys m q) ∙ ap is_some (map.get-from_entries nat_cmp_total es q) ∙ is_some-find nat_cmp q es

-- at each column `winners` has the winner among the column's cells
pub find-winners : (q : ℕ) (es : List (ℕ × Cell)) → find nat_cmp q (winners es) ≡ winner (at_column q es)
unfolding winners
find-winners q es =
    find-chosen (λ k. winner (at_column k es)) q (columns es)
    ∙ ap (λ b. cond b (winner (at_column q es)) None) (columns-of q es)
    ∙ elim (list_any (eq_by_cmp nat_cmp q) (list_map (λ e. e.0) es)) as (λ b. list_any (eq_by_cmp nat_cmp q) (list_map (λ e. e.0) es) ≡ b → cond b (winner (at_column q es)) None ≡ winner (at_column q es)) [
      | true ↦ λ _. refl
      | false ↦ λ absent. sym (ap winner (at_column-absent q es absent) ∙ winner-none)
    ] refl

sorted-winners : (es : List (ℕ × Cell)) → T (is_sorted nat_cmp (winners es))
unfolding winners
sorted-winners es = sorted-chosen (λ k. winner (at_column k es)) (map.entries (map.from_entries {R = nat_cmp} es)) (map.entries_sorted (map.from_entries {R = nat_cmp} es))

-- the winners ascend by column
pub ascending-winners : (es : List (ℕ × Cell)) → IsTrue (ascending (winners es))
ascending-winners es = holds _ (sorted-winners es)

pub at_column-winners : (q : ℕ) (es : List (ℕ × Cell)) → at_column q (winners es) ≡ option_to_list (winner (at_column q es))
at_column-winners q es = at_column-ascending q (winners es) (sorted-winners es) ∙ ap option_to_list (find-winners q es)

-- two ascending lists of cells with the same cell at each column are equal
pub same_cells : (es fs : List (ℕ × Cell)) → IsTrue (ascending es) → IsTrue (ascending fs) → ((q : ℕ) → find nat_cmp q es ≡ find nat_cmp q fs) → es ≡ fs
same_cells es fs g h is = same_entries nat_cmp nat_cmp_total nat_cmp-IsAntisymmetric es fs (test_of _ g) (test_of _ h) is

-- cells with the same winners column by column have the same winners
pub same_winners : (es fs : List (ℕ × Cell)) → ((q : ℕ) → winner (at_column q es) ≡ winner (at_column q fs)) → winners es ≡ winners fs
same_winners es fs is = same_cells (winners es) (winners fs) (ascending-winners es) (ascending-winners fs) (λ q. find-winners q es ∙ is q ∙ sym (find-winners q fs))

pub winners-append : (xs ys : List (ℕ × Cell)) → winners (xs ++ ys) ≡ winners (winners xs ++ winners ys)
winners-append xs ys =
    same_winners _ _ (λ q.
    ap winner (at_column-append q xs ys)
    ∙ winner-append (at_column q xs) (at_column q ys)
    ∙ sym (ap winner (at_column-append q (winners xs) (winners ys)) ∙ (λ i. winner (at_column-winners q xs i ++ at_column-winners q ys i))))

pub winners-swap : (xs ys : List (ℕ × Cell)) → winners (xs ++ ys) ≡ winners (ys ++ xs)
winners-swap xs ys = same_winners _ _ (λ q. ap winner (at_column-append q xs ys) ∙ winner-swap (at_column q xs) (at_column q ys) ∙ sym (ap winner (at_column-append q ys xs)))

pub winners-twice : (xs : List (ℕ × Cell)) → winners (xs ++ xs) ≡ winners xs
winners-twice xs = same_winners _ _ (λ q. ap winner (at_column-append q xs xs) ∙ winner-twice (at_column q xs))

-- ascending cells are their own winners
pub winners-ascending : (es : List (ℕ × Cell)) → IsTrue (ascending es) → winners es ≡ es
winners-ascending es h = same_cells (winners es) es (ascending-winners es) h (λ q. find-winners q es ∙ ap winner (at_column-ascending q es (test_of _ h)) ∙ winner-one (find nat_cmp q es))
