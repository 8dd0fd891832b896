-- The keys of an index are those of its writes, ascending, each once.
use Rattle.std.proofs.Common.{◌≡◌, ℕ, Bool, true, false, cond, ◌&&◌, ◌||◌, T, List, [], ◌∷◌, ◌++◌, map, Option, Some, None, is_some, All, refl, sym, ap, subst, ◌∙◌, append_assoc, arith}
use Rattle.std.specs.declared.cmp.Ordering.TheVariants.{Less}
use Rattle.std.specs.Ordering.{is_lt, eq_by_cmp}
use Rattle.std.specs.List.{AllByRecursion, list_any}
use Rattle.std.specs.List.Sorted.{IsStrictlySortedBy}
use Rattle.std.specs.Option.{option_map}
use Rattle.std.specs.Global.{Vec}
use Rattle.std.specs.Map.{lookup}
use Rattle.std.specs.BTreeMap.{BTreeMap, keys}
use Rattle.std.specs.FinMap as finite
use Rattle.std.specs.FinMap.{is_sorted}
use Rattle.std.specs.FinMap.Entries.{below_all, same_entries, is_some-find}
use Rattle.std.proofs.lemmas.List.{map-append}
use Rattle.std.proofs.lemmas.List.Elements.{All-append, All-cons}
use Rattle.std.proofs.lemmas.Map.Keys.{sorted_head, sorted_tail}
use Rattle.rc_position.specs.Position.{bytes_cmp}
use Rattle.rc_position.specs.laws.Orders.{bytes_cmp_total, bytes_cmp_same}
use Rattle.rc_mutation.specs.declared.mutations.Mutation.{Mutation}
use Rattle.rc_mutation.specs.declared.mutations.Partition.{Partition}
use Rattle.rc_mutation.specs.declared.mutations.Write.{Write}
use Rattle.rc_mutation.specs.Fragments.{IsParts}
use Rattle.rc_mutation.specs.Source.{changes_to, IsJoinOf, IsMutation, SameSource}
use Rattle.rc_mutation.specs.laws.Sources.{IsJoinOf-source}
use Rattle.rc_plain.specs.calls.Index.{IsIndexOf, IsPartitionOf}
use Rattle.rc_plain.proofs.Keyed.{turned}

-- keys, each with nothing
abbrev bare : List (List ℕ) → List (List ℕ × Unit {0})
bare ks = map (λ k. (k, tt)) ks

keys-bare : (ks : List (List ℕ)) → map (λ (e : List ℕ × Unit {0}). e.0) (bare ks) ≡ ks
keys-bare [] = refl
keys-bare (k ∷ ks) = ap (λ xs. k ∷ xs) (keys-bare ks)

and_T : (a b : Bool) → T a → T b → T (a && b)
and_T true b p q = q
and_T false b p q = absurd p

below-bare : (k : List ℕ) (ks : List (List ℕ)) → AllByRecursion (λ y. bytes_cmp k y ≡ Less) ks → T (below_all bytes_cmp k (bare ks))
below-bare k [] h = tt
below-bare k (q ∷ qs) h = subst (λ r. T (is_lt r && below_all bytes_cmp k (bare qs))) (sym h.0) (below-bare k qs h.1)

sorted-bare : (ks : List (List ℕ)) → IsStrictlySortedBy bytes_cmp ks → T (is_sorted bytes_cmp (bare ks))
sorted-bare [] h = tt
sorted-bare (k ∷ ks) h = and_T _ _ (below-bare k ks (sorted_head bytes_cmp k ks h)) (sorted-bare ks (sorted_tail bytes_cmp k ks h))

module _ {X : Type 0} where
  below-of : (k : List ℕ) (es : List (List ℕ × X)) → below_all bytes_cmp k (bare (map (λ (e : List ℕ × X). e.0) es)) ≡ below_all bytes_cmp k es
  below-of k [] = refl
  below-of k (e ∷ es) = ap (λ b. is_lt (bytes_cmp k e.0) && b) (below-of k es)

  sorted-of : (es : List (List ℕ × X)) → is_sorted bytes_cmp (bare (map (λ (e : List ℕ × X). e.0) es)) ≡ is_sorted bytes_cmp es
  sorted-of [] = refl
  sorted-of (e ∷ es) = λ i. below-of e.0 es i && sorted-of es i

nothing_else : (o p : Option (Unit {0})) → is_some o ≡ is_some p → o ≡ p
nothing_else None None e = refl
nothing_else None (Some y) e = absurd (cc)
nothing_else (Some x) None e = absurd (cc)
nothing_else (Some x) (Some y) e = refl

-- keys that ascend and are those of a map are its keys
same_keys : {X : Type 0} (ks : List (List ℕ)) (m : finite.FinMap bytes_cmp X) → IsStrictlySortedBy bytes_cmp ks
    → ((q : List ℕ) → list_any (eq_by_cmp bytes_cmp q) ks ≡ list_any (eq_by_cmp bytes_cmp q) (finite.keys m)) → ks ≡ finite.keys m
same_keys ks m up same =
    let both : bare ks ≡ bare (finite.keys m) =
    same_entries bytes_cmp bytes_cmp_total bytes_cmp_same (bare ks) (bare (finite.keys m)) (sorted-bare ks up) (subst T (sym (sorted-of (finite.entries m))) (finite.entries_sorted m)) (λ q.
    nothing_else _ _
    (is_some-find bytes_cmp q (bare ks)
    ∙ ap (list_any (eq_by_cmp bytes_cmp q)) (keys-bare ks)
    ∙ same q
    ∙ ap (list_any (eq_by_cmp bytes_cmp q)) (sym (keys-bare (finite.keys m)))
    ∙ sym (is_some-find bytes_cmp q (bare (finite.keys m))))) in
    sym (keys-bare ks) ∙ ap (map (λ (e : List ℕ × Unit {0}). e.0)) both ∙ keys-bare (finite.keys m)

-- whether a key is found is whether it is among the keys
found-keys : (q : List ℕ) (es : List (List ℕ × Vec ℕ)) → list_any (eq_by_cmp bytes_cmp q) (map (λ (e : List ℕ × Vec ℕ). e.0) es) ≡ is_some (option_map (λ (v : Vec ℕ). v.items) (lookup (λ k. eq_by_cmp bytes_cmp q k) es))
found-keys q [] = refl
found-keys q (e ∷ es) =
    elim (eq_by_cmp bytes_cmp q e.0) as (λ b. (b || list_any (eq_by_cmp bytes_cmp q) (map (λ (e : List ℕ × Vec ℕ). e.0) es)) ≡ is_some (option_map (λ (v : Vec ℕ). v.items) (cond b (Some e.1) (lookup (λ k. eq_by_cmp bytes_cmp q k) es)))) [
      | true ↦ refl
      | false ↦ found-keys q es
    ]

any-turned : (q : List ℕ) (ws : List Write) → list_any (λ (w : Write). eq_by_cmp bytes_cmp w.key q) ws ≡ list_any (eq_by_cmp bytes_cmp q) (map (λ (e : List ℕ × Mutation). e.0) (map (λ (w : Write). (w.key, w.change)) ws))
any-turned q [] = refl
any-turned q (w ∷ ws) = λ i. turned q w.key i || any-turned q ws i

-- the keys of an index are those of the writes
keys_are : (writes : List Write) (index : BTreeMap (List ℕ) (Vec ℕ)) → IsIndexOf writes index → IsStrictlySortedBy bytes_cmp (keys index)
    → keys index ≡ finite.keys (finite.from_entries {R = bytes_cmp} (map (λ (w : Write). (w.key, w.change)) writes))
keys_are writes index is up =
    let es = map (λ (w : Write). (w.key, w.change)) writes in
    let m = finite.from_entries {R = bytes_cmp} es in
    same_keys (keys index) m up (λ q.
    found-keys q index.entries
    ∙ is.listed q
    ∙ any-turned q writes
    ∙ sym (is_some-find bytes_cmp q es)
    ∙ ap is_some (sym (finite.get-from_entries bytes_cmp_total es q))
    ∙ finite.contains_key-keys m q)

-- what the writes of a key join to says at each place what they say
pub part_says : (part : Partition) (writes : List Write) → IsMutation part.change → IsJoinOf part.change (changes_to part.key writes) → SameSource (part.change ∷ []) (changes_to part.key writes)
part_says part writes is j = IsJoinOf-source part.change (changes_to part.key writes) is j

-- a partition for each key of the index
pub parts_are : (parts : List Partition) (writes : List Write) (index : BTreeMap (List ℕ) (Vec ℕ)) → IsIndexOf writes index → IsStrictlySortedBy bytes_cmp (keys index) → map (λ (p : Partition). p.key) parts ≡ keys index
    → All (λ p. IsPartitionOf p writes) parts → IsParts parts writes
parts_are parts writes index is up keyed all = record {
  keys = keyed ∙ keys_are writes index is up;
  mutations = λ k d l. (all k d l).0;
  changes = λ k d l. (let h = all k d l in part_says _ writes h.0 h.1);
}

-- one partition more
pub one_more : (parts : List Partition) (part : Partition) (writes : List Write) (done left later : List (List ℕ)) (key : List ℕ) → map (λ (p : Partition). p.key) parts ++ left ≡ done → left ≡ key ∷ later → part.key ≡ key
    → map (λ (p : Partition). p.key) (parts ++ part ∷ []) ++ later ≡ done
one_more parts part writes done left later key is next here =
    ap (λ ks. ks ++ later) (map-append (λ (p : Partition). p.key) parts (part ∷ []) ∙ ap (λ k. map (λ (p : Partition). p.key) parts ++ k ∷ []) here)
    ∙ append_assoc (map (λ (p : Partition). p.key) parts) (key ∷ []) later
    ∙ ap (λ ks. map (λ (p : Partition). p.key) parts ++ ks) (sym next)
    ∙ is

pub part_more : (parts : List Partition) (part : Partition) (writes : List Write) → All (λ p. IsPartitionOf p writes) parts → IsPartitionOf part writes → All (λ p. IsPartitionOf p writes) (parts ++ part ∷ [])
part_more parts part writes all is = All-append (λ p. IsPartitionOf p writes) parts (part ∷ []) all (All-cons (λ p. IsPartitionOf p writes) part [] is (λ k d l. absurd (omega arith)))
