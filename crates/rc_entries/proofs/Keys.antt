-- Keys and numbers that are compared, and entries that are put in and taken out.
use Rattle.std.proofs.Common.{◌≡◌, ◌≢◌, ℕ, Bool, true, false, cond, List, [], ◌∷◌, Some, None, map, nat_eq, refl, ap, ◌∙◌, subst}
use Rattle.std.specs.List.Sorted.{IsStrictlySortedBy}
use Rattle.std.specs.Map.{remove_entry, set_value}
use Rattle.std.specs.BTreeMap.{insert_entry, is_at}
use Rattle.std.specs.Cmp.{eq_by_cmp_equiv, nat_eq_equiv}
use Rattle.std.specs.Ordering.{eq_by_cmp, is_eq, match_ordering, ordering_reverse}
use Rattle.std.specs.declared.cmp.Ordering.{Ordering}
use Rattle.std.specs.declared.cmp.Ordering.TheVariants.{Less, Equal, Greater}
use Rattle.std.proofs.lemmas.Map.{lookup-remove_entry}
use Rattle.std.proofs.lemmas.Map.Keys.{IsDistinct-from_sorted}
use Rattle.std.proofs.lemmas.Map.Views.{exact_unsigned_eq}
use Rattle.rc_position.specs.Position.{bytes_cmp}
use Rattle.rc_position.specs.laws.Orders.{bytes_cmp_same, bytes_cmp_total}
use Rattle.rc_entries.specs.Found.{DoKeysAscend, entry_number}

-- ---- what compares equal is the same

equal-is : (r : Ordering) → is_eq r ≡ true → r ≡ Equal
equal-is Less e = absurd (cc)
equal-is Equal e = refl
equal-is Greater e = absurd (cc)

pub key-is : (key q : List ℕ) → eq_by_cmp bytes_cmp key q ≡ true → key ≡ q
key-is key q e = bytes_cmp_same key q (equal-is (bytes_cmp key q) e)

pub key-itself : (key : List ℕ) → eq_by_cmp bytes_cmp key key ≡ true
key-itself key = (eq_by_cmp_equiv bytes_cmp_total).refl key

pub number-is : (id i : ℕ) → nat_eq id i ≡ true → id ≡ i
number-is id i e = exact_unsigned_eq id i e

pub number-itself : (id : ℕ) → nat_eq id id ≡ true
number-itself id = nat_eq_equiv.refl id

pub not-true : (b : Bool) → (b ≡ true → ⊥) → b ≡ false
not-true true no_way = absurd (no_way refl)
not-true false no_way = refl

-- either of two cases
pub by-test : (P : Type 0) (b : Bool) → (b ≡ true → P) → (b ≡ false → P) → P
by-test P true t f = t refl
by-test P false t f = f refl

pub both-ways : (b : Bool) → b ≡ true → b ≡ false → ⊥
both-ways true t f = cc
both-ways false t f = cc

-- keys that compare unequal are two, and two compare unequal
pub key-differs : (key q : List ℕ) → eq_by_cmp bytes_cmp key q ≡ false → key ≢ q
key-differs key q e same = both-ways (eq_by_cmp bytes_cmp key q) (subst (λ (k : List ℕ). eq_by_cmp bytes_cmp key k ≡ true) same (key-itself key)) e

pub key-beside : (key q : List ℕ) → key ≢ q → eq_by_cmp bytes_cmp key q ≡ false
key-beside key q ne = not-true (eq_by_cmp bytes_cmp key q) (λ e. ne (key-is key q e))

pub number-differs : (id i : ℕ) → nat_eq id i ≡ false → id ≢ i
number-differs id i e same = both-ways (nat_eq id i) (subst (λ k. nat_eq id k ≡ true) same (number-itself id)) e

-- ---- an entry that is put in

-- 0 is put in for a key that has nothing, and then its number
pub set-added : (key : List ℕ) (id : ℕ) (es : List (List ℕ × ℕ)) → entry_number es key ≡ None → set_value (is_at (bytes_cmp key)) (insert_entry bytes_cmp es key 0) id ≡ insert_entry bytes_cmp es key id
set-added key id [] h = ap (λ b. cond b ((key, id) ∷ []) ((key, 0) ∷ [])) (key-itself key)
set-added key id (e ∷ es) h = elim (bytes_cmp key e.0) as
    (λ r. bytes_cmp key e.0 ≡ r → cond (is_eq r) (Some e.1) (entry_number es key) ≡ None → set_value (is_at (bytes_cmp key)) (match_ordering r ((key, 0) ∷ e ∷ es) ((e.0, 0) ∷ es) (e ∷ insert_entry bytes_cmp es key 0)) id ≡ match_ordering r ((key, id) ∷ e ∷ es) ((e.0, id) ∷ es) (e ∷ insert_entry bytes_cmp es key id)) [
      | Less ↦ λ q k. ap (λ b. cond b ((key, id) ∷ e ∷ es) ((key, 0) ∷ set_value (is_at (bytes_cmp key)) (e ∷ es) id)) (key-itself key)
      | Equal ↦ λ q k. absurd (cc)
      | Greater ↦ λ q k. ap (λ b. cond b ((e.0, id) ∷ insert_entry bytes_cmp es key 0) (e ∷ set_value (is_at (bytes_cmp key)) (insert_entry bytes_cmp es key 0) id)) (ap is_eq q) ∙ ap (λ (l : List (List ℕ × ℕ)). e ∷ l) (set-added key id es k)
    ] refl h

-- the same keys are there, whatever is put in for one
pub added-keys : (key : List ℕ) (id other : ℕ) (es : List (List ℕ × ℕ)) → map (λ (e : List ℕ × ℕ). e.0) (insert_entry bytes_cmp es key id) ≡ map (λ (e : List ℕ × ℕ). e.0) (insert_entry bytes_cmp es key other)
added-keys key id other [] = refl
added-keys key id other (e ∷ es) = elim (bytes_cmp key e.0) as
    (λ r. map (λ (e : List ℕ × ℕ). e.0) (match_ordering r ((key, id) ∷ e ∷ es) ((e.0, id) ∷ es) (e ∷ insert_entry bytes_cmp es key id)) ≡ map (λ (e : List ℕ × ℕ). e.0) (match_ordering r ((key, other) ∷ e ∷ es) ((e.0, other) ∷ es) (e ∷ insert_entry bytes_cmp es key other))) [
      | Less ↦ refl
      | Equal ↦ refl
      | Greater ↦ ap (λ (l : List (List ℕ)). e.0 ∷ l) (added-keys key id other es)
    ]

pub added-ascend : (key : List ℕ) (id other : ℕ) (es : List (List ℕ × ℕ)) → DoKeysAscend (insert_entry bytes_cmp es key id) → DoKeysAscend (insert_entry bytes_cmp es key other)
added-ascend key id other es h = subst (IsStrictlySortedBy bytes_cmp) (added-keys key id other es) h

-- what was put in is taken out again
pub added-and-gone : (key : List ℕ) (id : ℕ) (es : List (List ℕ × ℕ)) → entry_number es key ≡ None → remove_entry (is_at (bytes_cmp key)) (insert_entry bytes_cmp es key id) ≡ es
added-and-gone key id [] h = ap (λ b. cond b [] ((key, id) ∷ [])) (key-itself key)
added-and-gone key id (e ∷ es) h = elim (bytes_cmp key e.0) as
    (λ r. bytes_cmp key e.0 ≡ r → cond (is_eq r) (Some e.1) (entry_number es key) ≡ None → remove_entry (is_at (bytes_cmp key)) (match_ordering r ((key, id) ∷ e ∷ es) ((e.0, id) ∷ es) (e ∷ insert_entry bytes_cmp es key id)) ≡ e ∷ es) [
      | Less ↦ λ q k. ap (λ b. cond b (e ∷ es) ((key, id) ∷ remove_entry (is_at (bytes_cmp key)) (e ∷ es))) (key-itself key)
      | Equal ↦ λ q k. absurd (cc)
      | Greater ↦ λ q k. ap (λ b. cond b (insert_entry bytes_cmp es key id) (e ∷ remove_entry (is_at (bytes_cmp key)) (insert_entry bytes_cmp es key id))) (ap is_eq q) ∙ ap (λ (l : List (List ℕ × ℕ)). e ∷ l) (added-and-gone key id es k)
    ] refl h

reversed-equal : (r : Ordering) → is_eq (ordering_reverse r) ≡ is_eq r
reversed-equal Less = refl
reversed-equal Equal = refl
reversed-equal Greater = refl

turned : (key q : List ℕ) → eq_by_cmp bytes_cmp q key ≡ eq_by_cmp bytes_cmp key q
turned key q = ap is_eq (bytes_cmp_total.antisymm q key) ∙ reversed-equal (bytes_cmp key q)

-- two choices of which one at most is made are made in either order
either-order : {X : Type 0} (a b : Bool) (x y z : X) → (a ≡ true → b ≡ true → ⊥) → cond a x (cond b y z) ≡ cond b y (cond a x z)
either-order true true x y z one = absurd (one refl refl)
either-order true false x y z one = refl
either-order false true x y z one = refl
either-order false false x y z one = refl

-- it is found by its key, and all others by theirs
pub added-found : (key : List ℕ) (id : ℕ) (es : List (List ℕ × ℕ)) (q : List ℕ) → entry_number es key ≡ None → entry_number (insert_entry bytes_cmp es key id) q ≡ cond (eq_by_cmp bytes_cmp key q) (Some id) (entry_number es q)
added-found key id [] q h = ap (λ b. cond b (Some id) None) (turned key q)
added-found key id (e ∷ es) q h = elim (bytes_cmp key e.0) as
    (λ r. bytes_cmp key e.0 ≡ r → cond (is_eq r) (Some e.1) (entry_number es key) ≡ None → entry_number (match_ordering r ((key, id) ∷ e ∷ es) ((e.0, id) ∷ es) (e ∷ insert_entry bytes_cmp es key id)) q ≡ cond (eq_by_cmp bytes_cmp key q) (Some id) (entry_number (e ∷ es) q)) [
      | Less ↦ λ c k. ap (λ b. cond b (Some id) (entry_number (e ∷ es) q)) (turned key q)
      | Equal ↦ λ c k. absurd (cc)
      | Greater ↦ λ c k. ap (cond (eq_by_cmp bytes_cmp q e.0) (Some e.1)) (added-found key id es q k)
          ∙ either-order (eq_by_cmp bytes_cmp q e.0) (eq_by_cmp bytes_cmp key q) (Some e.1) (Some id) (entry_number es q) (λ a b. apart c (key-is key q b ∙ key-is q e.0 a))
    ] refl h
  where
    apart : bytes_cmp key e.0 ≡ Greater → key ≡ e.0 → ⊥
    apart c same = both-ways (eq_by_cmp bytes_cmp key e.0) (subst (λ (k : List ℕ). eq_by_cmp bytes_cmp key k ≡ true) same (key-itself key)) (ap is_eq c)

-- one that is taken out is not found, and all others are found as before
pub gone-found : (es : List (List ℕ × ℕ)) (key q : List ℕ) → DoKeysAscend es → entry_number (remove_entry (is_at (bytes_cmp key)) es) q ≡ cond (eq_by_cmp bytes_cmp key q) None (entry_number es q)
gone-found es key q ascend =
    lookup-remove_entry (eq_by_cmp_equiv bytes_cmp_total) (eq_by_cmp bytes_cmp key) (λ x y e. ap (λ (k : List ℕ). eq_by_cmp bytes_cmp k y) (key-is key x e)) q es (IsDistinct-from_sorted bytes_cmp (map (λ e. e.0) es) ascend)
