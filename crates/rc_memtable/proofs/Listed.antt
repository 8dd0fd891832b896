-- The partitions of the keys of a memtable are the parts of its writes.
use Rattle.std.proofs.Common.{◌≡◌, ℕ, Bool, true, false, cond, ◌&&◌, ◌||◌, T, List, [], ◌∷◌, ◌++◌, map, Option, Some, None, is_some, All, refl, sym, ap, subst, ◌∙◌, append_assoc, append-nil, arith}
use Rattle.std.specs.declared.cmp.Ordering.TheVariants.{Less}
use Rattle.std.specs.Ordering.{is_lt, eq_by_cmp}
use Rattle.std.specs.Cmp.{eq_by_cmp_equiv}
use Rattle.std.specs.List.{AllByRecursion, list_any}
use Rattle.std.specs.List.Sorted.{IsStrictlySortedBy}
use Rattle.std.specs.FinMap as finite
use Rattle.std.specs.FinMap.{is_sorted}
use Rattle.std.specs.FinMap.Entries.{below_all, same_entries, is_some-find}
use Rattle.std.proofs.lemmas.List.{map-append}
use Rattle.std.proofs.lemmas.List.Elements.{All-append, All-cons}
use Rattle.std.proofs.lemmas.Map.Keys.{sorted_head, sorted_tail}
use Rattle.rc_position.specs.Position.{bytes_cmp}
use Rattle.rc_position.specs.laws.Orders.{bytes_cmp_total, bytes_cmp_same}
use Rattle.rc_mutation.specs.declared.mutations.Mutation.{Mutation}
use Rattle.rc_mutation.specs.declared.mutations.Partition.{Partition}
use Rattle.rc_mutation.specs.declared.mutations.Write.{Write}
use Rattle.rc_mutation.specs.Fragments.{IsParts}
use Rattle.rc_mutation.specs.Source.{changes_to, IsMutation, SameSource}
use Rattle.rc_schema.specs.SchemaValue.{SchemaValue}
use Rattle.rc_memory.specs.Memory.{KeptChain, Memory, chain_at}
use Rattle.rc_memtable.specs.Changes.{KeepsChanges}
use Rattle.rc_memtable.specs.Partitions.{AreAsBefore}
use Rattle.rc_memtable.specs.Writes.{HasWrites, chain_of, names}
use Rattle.rc_memtable.proofs.Taken.{as-before, before-then}

-- ---- keys that ascend and are those of a map are its keys

-- keys, each with nothing
abbrev bare : List (List ℕ) → List (List ℕ × Unit {0})
bare ks = map (λ k. (k, tt)) ks

keys-bare : (ks : List (List ℕ)) → map (λ (e : List ℕ × Unit {0}). e.0) (bare ks) ≡ ks
keys-bare [] = refl
keys-bare (k ∷ ks) = ap (λ xs. k ∷ xs) (keys-bare ks)

and_T : (a b : Bool) → T a → T b → T (a && b)
and_T true b p q = q
and_T false b p q = absurd p

below-bare : (k : List ℕ) (ks : List (List ℕ)) → AllByRecursion (λ y. bytes_cmp k y ≡ Less) ks → T (below_all bytes_cmp k (bare ks))
below-bare k [] h = tt
below-bare k (q ∷ qs) h = subst (λ r. T (is_lt r && below_all bytes_cmp k (bare qs))) (sym h.0) (below-bare k qs h.1)

sorted-bare : (ks : List (List ℕ)) → IsStrictlySortedBy bytes_cmp ks → T (is_sorted bytes_cmp (bare ks))
sorted-bare [] h = tt
sorted-bare (k ∷ ks) h = and_T _ _ (below-bare k ks (sorted_head bytes_cmp k ks h)) (sorted-bare ks (sorted_tail bytes_cmp k ks h))

module _ {X : Type 0} where
  below-of : (k : List ℕ) (es : List (List ℕ × X)) → below_all bytes_cmp k (bare (map (λ (e : List ℕ × X). e.0) es)) ≡ below_all bytes_cmp k es
  below-of k [] = refl
  below-of k (e ∷ es) = ap (λ b. is_lt (bytes_cmp k e.0) && b) (below-of k es)

  sorted-of : (es : List (List ℕ × X)) → is_sorted bytes_cmp (bare (map (λ (e : List ℕ × X). e.0) es)) ≡ is_sorted bytes_cmp es
  sorted-of [] = refl
  sorted-of (e ∷ es) = λ i. below-of e.0 es i && sorted-of es i

nothing_else : (o p : Option (Unit {0})) → is_some o ≡ is_some p → o ≡ p
nothing_else None None e = refl
nothing_else None (Some y) e = absurd (cc)
nothing_else (Some x) None e = absurd (cc)
nothing_else (Some x) (Some y) e = refl

same_keys : {X : Type 0} (ks : List (List ℕ)) (m : finite.FinMap bytes_cmp X) → IsStrictlySortedBy bytes_cmp ks
    → ((q : List ℕ) → list_any (eq_by_cmp bytes_cmp q) ks ≡ list_any (eq_by_cmp bytes_cmp q) (finite.keys m)) → ks ≡ finite.keys m
same_keys ks m up same =
    let both : bare ks ≡ bare (finite.keys m) =
    same_entries bytes_cmp bytes_cmp_total bytes_cmp_same (bare ks) (bare (finite.keys m)) (sorted-bare ks up) (subst T (sym (sorted-of (finite.entries m))) (finite.entries_sorted m)) (λ q.
    nothing_else _ _
    (is_some-find bytes_cmp q (bare ks)
    ∙ ap (list_any (eq_by_cmp bytes_cmp q)) (keys-bare ks)
    ∙ same q
    ∙ ap (list_any (eq_by_cmp bytes_cmp q)) (sym (keys-bare (finite.keys m)))
    ∙ sym (is_some-find bytes_cmp q (bare (finite.keys m))))) in
    sym (keys-bare ks) ∙ ap (map (λ (e : List ℕ × Unit {0}). e.0)) both ∙ keys-bare (finite.keys m)

-- ---- the keys of a memtable

abbrev pub keys_in : List (List ℕ × ℕ) → List (List ℕ)
keys_in es = map (λ (e : List ℕ × ℕ). e.0) es

-- whether a key is found is whether it is among the keys
found-keys : (q : List ℕ) (es : List (List ℕ × ℕ)) → list_any (eq_by_cmp bytes_cmp q) (keys_in es) ≡ is_some (chain_of es q)
found-keys q [] = refl
found-keys q (e ∷ es) =
    elim (eq_by_cmp bytes_cmp q e.0) as (λ b. (b || list_any (eq_by_cmp bytes_cmp q) (keys_in es)) ≡ is_some (cond b (Some e.1) (chain_of es q))) [
      | true ↦ refl
      | false ↦ found-keys q es
    ]

any-turned : (q : List ℕ) (ws : List Write) → names q ws ≡ list_any (eq_by_cmp bytes_cmp q) (map (λ (e : List ℕ × Mutation). e.0) (map (λ (w : Write). (w.key, w.change)) ws))
any-turned q [] = refl
any-turned q (w ∷ ws) = λ i. (eq_by_cmp_equiv bytes_cmp_total).symm w.key q i || any-turned q ws i

-- the keys of a memtable are those of its writes
pub keys-are : (writes : List Write) (es : List (List ℕ × ℕ)) → ((key : List ℕ) → is_some (chain_of es key) ≡ names key writes) → IsStrictlySortedBy bytes_cmp (keys_in es)
    → keys_in es ≡ finite.keys (finite.from_entries {R = bytes_cmp} (map (λ (w : Write). (w.key, w.change)) writes))
keys-are writes es named up =
    let all = map (λ (w : Write). (w.key, w.change)) writes in
    let m = finite.from_entries {R = bytes_cmp} all in
    same_keys (keys_in es) m up (λ q.
    found-keys q es
    ∙ named q
    ∙ any-turned q writes
    ∙ sym (is_some-find bytes_cmp q all)
    ∙ ap is_some (sym (finite.get-from_entries bytes_cmp_total all q))
    ∙ finite.contains_key-keys m q)

-- ---- the partitions

-- a partition is made of what the writes to its key say
abbrev pub IsMadeOf : List Write → Partition → Type 0
IsMadeOf writes p = IsMutation p.change × SameSource (p.change ∷ []) (changes_to p.key writes)

pub parts-are : (parts : List Partition) (writes : List Write) (es : List (List ℕ × ℕ)) → ((key : List ℕ) → is_some (chain_of es key) ≡ names key writes) → IsStrictlySortedBy bytes_cmp (keys_in es) → map (λ (p : Partition). p.key) parts ≡ keys_in es
    → All (IsMadeOf writes) parts → IsParts parts writes
parts-are parts writes es named up keyed all = record {
  keys = keyed ∙ keys-are writes es named up;
  mutations = λ k d l. (all k d l).0;
  changes = λ k d l. (all k d l).1;
}

-- one partition more
pub key-more : (parts : List Partition) (part : Partition) (es left later : List (List ℕ × ℕ)) (key : List ℕ) (id : ℕ) → map (λ (p : Partition). p.key) parts ++ keys_in left ≡ keys_in es → left ≡ (key, id) ∷ later → part.key ≡ key
    → map (λ (p : Partition). p.key) (parts ++ part ∷ []) ++ keys_in later ≡ keys_in es
key-more parts part es left later key id is next here =
    ap (λ ks. ks ++ keys_in later) (map-append (λ (p : Partition). p.key) parts (part ∷ []) ∙ ap (λ k. map (λ (p : Partition). p.key) parts ++ k ∷ []) here)
    ∙ append_assoc (map (λ (p : Partition). p.key) parts) (key ∷ []) (keys_in later)
    ∙ ap (λ xs. map (λ (p : Partition). p.key) parts ++ keys_in xs) (sym next)
    ∙ is

pub made-more : (writes : List Write) (parts : List Partition) (part : Partition) → All (IsMadeOf writes) parts → IsMadeOf writes part → All (IsMadeOf writes) (parts ++ part ∷ [])
made-more writes parts part all is = All-append (IsMadeOf writes) parts (part ∷ []) all (All-cons (IsMadeOf writes) part [] is (λ k d l. absurd (omega arith)))

-- ---- one after another

-- the partitions of the keys so far are made, those of `left` are to come
pub record IsListing (es left : List (List ℕ × ℕ)) (old now : Memory) (parts : List Partition) : Type 0 where
  pub keyed : map (λ (p : Partition). p.key) parts ++ keys_in left ≡ keys_in es
  pub made : (schema : SchemaValue) (writes : List Write) → HasWrites schema es old writes → All (IsMadeOf writes) parts
  pub stands : (schema : SchemaValue) (keys : List (List ℕ × ℕ)) (writes : List Write) → HasWrites schema keys old writes → HasWrites schema keys now writes
  pub before : AreAsBefore old now

pub listing-none : (es : List (List ℕ × ℕ)) (m : Memory) → IsListing es es m m []
listing-none es m = record { keyed = refl; made = λ schema writes h k d l. absurd (omega (arith, l)); stands = λ schema keys writes h. h; before = as-before m }

pub listing-more : (es left later : List (List ℕ × ℕ)) (old now new : Memory) (parts : List Partition) (part : Partition) (key : List ℕ) (id : ℕ) → IsListing es left old now parts → left ≡ (key, id) ∷ later → chain_of es key ≡ Some id → part.key ≡ key →
    ((schema : SchemaValue) (changes : List Mutation) (k : KeptChain) → chain_at now id ≡ Some k → KeepsChanges schema k.chain changes → IsMutation part.change × SameSource (part.change ∷ []) changes) →
    ((schema : SchemaValue) (keys : List (List ℕ × ℕ)) (writes : List Write) → HasWrites schema keys now writes → HasWrites schema keys new writes) → AreAsBefore now new → IsListing es later old new (parts ++ part ∷ [])
listing-more es left later old now new parts part key id h next own here said stands before = record {
  keyed = key-more parts part es left later key id h.keyed next here;
  made = λ schema writes has.
      let kept = (h.stands schema es writes has).kept key id own in
      let says = said schema (changes_to key writes) kept.0 kept.1 kept.2 in
      made-more writes parts part (h.made schema writes has) (says.0, subst (λ k. SameSource (part.change ∷ []) (changes_to k writes)) (sym here) says.1);
  stands = λ schema keys writes has. stands schema keys writes (h.stands schema keys writes has);
  before = before-then old now new h.before before;
}

-- what is asked of the next chain
pub chain-ready : (es left : List (List ℕ × ℕ)) (old now : Memory) (parts : List Partition) (key : List ℕ) (id : ℕ) → IsListing es left old now parts → chain_of es key ≡ Some id → (schema : SchemaValue) × (writes : List Write) × HasWrites schema es old writes →
    (schema : SchemaValue) × (changes : List Mutation) × (k : KeptChain) × (chain_at now id ≡ Some k) × KeepsChanges schema k.chain changes
chain-ready es left old now parts key id h own has =
    let kept = (h.stands has.0 es has.1 has.2).kept key id own in
    (has.0, changes_to key has.1, kept.0, kept.1, kept.2)

pub listing-all : (es : List (List ℕ × ℕ)) (old now : Memory) (parts : List Partition) → IsListing es [] old now parts → IsStrictlySortedBy bytes_cmp (keys_in es) → (schema : SchemaValue) (writes : List Write) → HasWrites schema es old writes → IsParts parts writes
listing-all es old now parts h up schema writes has = parts-are parts writes es has.keys up (sym (append-nil (map (λ (p : Partition). p.key) parts)) ∙ h.keyed) (h.made schema writes has)
