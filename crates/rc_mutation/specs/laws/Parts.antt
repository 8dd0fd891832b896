-- The parts of writes are determined by them.
use Rattle.std.specs.Prelude.{◌≡◌, suc, All, ℕ, List, [], ◌∷◌, map as list_map}
use Rattle.std.proofs.Common.{refl, sym, ap, ◌∙◌, subst, arith}
use Rattle.rc_mutation.specs.declared.mutations.Mutation.{Mutation}
use Rattle.rc_mutation.specs.declared.mutations.Partition.{Partition}
use Rattle.rc_mutation.specs.declared.mutations.Write.{Write}
use Rattle.rc_mutation.specs.Source.{IsMutation, SameSource, changes_to}
use Rattle.rc_mutation.specs.Fragments.{IsParts, units}
use Rattle.rc_mutation.specs.laws.Sources.{source-determined}

-- what says the same as some writes says the same as all that do
pub SameSource-both : (m n : Mutation) (xs : List Mutation) → SameSource (m ∷ []) xs → SameSource (n ∷ []) xs → SameSource (m ∷ []) (n ∷ [])
SameSource-both m n xs g h = record {
  head = g.head ∙ sym h.head;
  statics = g.statics ∙ sym h.statics;
  clustered = λ x. g.clustered x ∙ sym (h.clustered x);
}

first_same : (k l : List ℕ) (ks ls : List (List ℕ)) → k ∷ ks ≡ l ∷ ls → k ≡ l
first_same k l ks ls e = cc

rest_same : (k l : List ℕ) (ks ls : List (List ℕ)) → k ∷ ks ≡ l ∷ ls → ks ≡ ls
rest_same k l ks ls e = cc

-- a partition says what the writes to its key say
abbrev Says : List Write → Partition → Type 0
Says writes p = SameSource (p.change ∷ []) (changes_to p.key writes)

-- the keys of partitions, in their order
abbrev keys_of : List Partition → List (List ℕ)
keys_of ps = list_map (λ p. p.key) ps

by_key : (writes : List Write) (ps qs : List Partition) → keys_of ps ≡ keys_of qs → All (λ p. IsMutation p.change) ps → All (λ p. IsMutation p.change) qs → All (Says writes) ps → All (Says writes) qs → ps ≡ qs
by_key writes [] [] e g h s t = refl
by_key writes [] (q ∷ qs) e g h s t = absurd (cc)
by_key writes (p ∷ ps) [] e g h s t = absurd (cc)
by_key writes (p ∷ ps) (q ∷ qs) e g h s t =
    let key : p.key ≡ q.key = first_same p.key q.key (keys_of ps) (keys_of qs) e in
    let ours : SameSource (p.change ∷ []) (changes_to q.key writes) = subst (λ k. SameSource (p.change ∷ []) (changes_to k writes)) key (s 0 p (omega arith)) in
    let change : p.change ≡ q.change =
    source-determined p.change q.change (g 0 p (omega arith)) (h 0 q (omega arith)) (SameSource-both p.change q.change (changes_to q.key writes) ours (t 0 q (omega arith))) in
    let rest : ps ≡ qs =
    by_key writes ps qs (rest_same p.key q.key (keys_of ps) (keys_of qs) e)
    (λ k d l. g (suc k) d (omega arith))
    (λ k d l. h (suc k) d (omega arith))
    (λ k d l. s (suc k) d (omega arith))
    (λ k d l. t (suc k) d (omega arith)) in
    λ i. record { key = key i; change = change i } ∷ rest i

-- two lists that are parts of the same writes are equal
pub parts-determined : (parts others : List Partition) (writes : List Write) → IsParts parts writes → IsParts others writes → parts ≡ others
parts-determined parts others writes g h = by_key writes parts others (g.keys ∙ sym h.keys) g.mutations h.mutations g.changes h.changes

-- and have as many fragments
pub units-determined : (parts others : List Partition) (writes : List Write) → IsParts parts writes → IsParts others writes → units parts ≡ units others
units-determined parts others writes g h = ap units (parts-determined parts others writes g h)
