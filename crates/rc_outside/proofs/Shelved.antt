-- A map of std as the finite map of its entries.
use Rattle.std.proofs.Common.{◌≡◌, ℕ, Bool, true, ◌&&◌, cond, List, [], ◌∷◌, map, Some, T, sym, ap, subst, ◌∙◌, refl}
use Rattle.std.specs.declared.cmp.Ordering.TheVariants.{Less}
use Rattle.std.specs.Ordering.{nat_cmp, is_lt, eq_by_cmp}
use Rattle.std.specs.Cmp.{nat_cmp_total, eq_by_cmp_equiv}
use Rattle.std.specs.List.{AllByRecursion}
use Rattle.std.specs.List.Sorted.{IsStrictlySortedBy, IsStrictlyIncreasing}
use Rattle.std.specs.Map.{lookup, keys_of}
use Rattle.std.specs.BTreeMap.{is_at}
use Rattle.std.specs.FinMap.{find, is_sorted, nat_cmp-IsAntisymmetric, same_map, from_entries, from_sorted, get-from_entries, get-from_sorted, entries-from_sorted, get-insert}
use Rattle.std.specs.FinMap as finite
use Rattle.std.specs.FinMap.Entries.{below_all}
use Rattle.std.proofs.lemmas.Map.Keys.{sorted_head, sorted_tail, IsStrictlyIncreasing-from_sorted}

and_T : (a b : Bool) → T a → T b → T (a && b)
and_T true b p q = q
and_T _ b p q = absurd p

module _ {X : Type 0} where
  below_all-from_keys : (k : ℕ) (es : List (ℕ × X)) → AllByRecursion (λ y. nat_cmp k y ≡ Less) (keys_of es) → T (below_all nat_cmp k es)
  below_all-from_keys k [] h = tt
  below_all-from_keys k (e ∷ es) h =
      subst (λ r. T (is_lt r && below_all nat_cmp k es)) (sym h.0) (below_all-from_keys k es h.1)

  is_sorted-from_keys : (es : List (ℕ × X)) → IsStrictlySortedBy nat_cmp (keys_of es) → T (is_sorted nat_cmp es)
  is_sorted-from_keys [] h = tt
  is_sorted-from_keys (e ∷ es) h =
      and_T _ _ (below_all-from_keys e.0 es (sorted_head nat_cmp e.0 (keys_of es) h)) (is_sorted-from_keys es (sorted_tail nat_cmp e.0 (keys_of es) h))

  find-lookup : (n : ℕ) (es : List (ℕ × X)) → find nat_cmp n es ≡ lookup (is_at (nat_cmp n)) es
  find-lookup n [] = refl
  find-lookup n (e ∷ es) = ap (cond (eq_by_cmp nat_cmp n e.0) (Some e.1)) (find-lookup n es)

  -- looking up is the same in both
  pub get-lookup : (es : List (ℕ × X)) (n : ℕ) → finite.get (from_entries {R = nat_cmp} es) n ≡ lookup (is_at (nat_cmp n)) es
  get-lookup es n = get-from_entries nat_cmp_total es n ∙ find-lookup n es

  -- entries that have the new value at one key, and the old ones elsewhere, are those of the map after an insertion
  pub insert-from_entries : (es fs : List (ℕ × X)) (k : ℕ) (v : X)
      → ((q : ℕ) → lookup (is_at (nat_cmp q)) fs ≡ cond (is_at (nat_cmp k) q) (Some v) (lookup (is_at (nat_cmp q)) es))
      → from_entries {R = nat_cmp} fs ≡ finite.insert (from_entries es) k v
  insert-from_entries es fs k v updates =
      same_map nat_cmp_total nat_cmp-IsAntisymmetric _ _ (λ q.
      get-lookup fs q ∙ updates q
      ∙ ap (λ o. cond (is_at (nat_cmp k) q) (Some v) o) (sym (get-lookup es q))
      ∙ ap (λ b. cond b (Some v) (finite.get (from_entries {R = nat_cmp} es) q)) ((eq_by_cmp_equiv nat_cmp_total).symm k q)
      ∙ sym (get-insert nat_cmp_total (from_entries es) k v q))

  -- the keys of entries in order are those of the map
  pub keys-from_entries : (es : List (ℕ × X)) → IsStrictlySortedBy nat_cmp (keys_of es) → finite.keys (from_entries {R = nat_cmp} es) ≡ keys_of es
  keys-from_entries es h =
      let sorted = is_sorted-from_keys es h in
      let same : from_entries {R = nat_cmp} es ≡ from_sorted es =
      same_map nat_cmp_total nat_cmp-IsAntisymmetric _ _ (λ q. get-from_entries nat_cmp_total es q ∙ sym (get-from_sorted nat_cmp es q sorted)) in
      ap finite.keys same ∙ ap (map (λ e. e.0)) (entries-from_sorted nat_cmp es sorted)

-- the keys of entries in order ascend
pub ascend-from_keys : (keys : List ℕ) (numbers : List ℕ) → IsStrictlySortedBy nat_cmp keys → numbers ≡ keys → IsStrictlyIncreasing numbers
ascend-from_keys keys numbers h same = subst IsStrictlyIncreasing (sym same) (IsStrictlyIncreasing-from_sorted keys h)
