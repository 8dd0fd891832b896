-- What stands at the number of a chain is another thing: its use, its versions in the region, and the chain.
use Rattle.std.proofs.Common.{◌≡◌, ◌≢◌, ℕ, zero, suc, List, [], ◌∷◌, ◌++◌, Option, Some, None, length, refl, sym, ap, ◌∙◌, slice_index_or}
use Rattle.std.specs.Option.{option_map}
use Rattle.rc_partition.specs.Partitions.{PartitionEntry}
use Rattle.rc_registry.specs.declared.uses.Use.{Use}
use Rattle.rc_registry.specs.Registry.{put_at_number}
use Rattle.rc_memory.specs.Memory.{KeptChain, IsVersionAt}
use Rattle.rc_memory.specs.Kept.{AreKept, IsKeptChain, chain_of_use, present}
use Rattle.rc_memory.specs.laws.Places.{heads, no_some, same_some, tails}

-- ---- lists

module _ {X : Type 0} where
  -- the number reads what was put there
  pub put-at : (xs : List (Option X)) (n : ℕ) (x : Option X) → slice_index_or (put_at_number n x xs) n None ≡ x
  put-at [] zero x = refl
  put-at [] (suc n) x = put-at [] n x
  put-at (y ∷ ys) zero x = refl
  put-at (y ∷ ys) (suc n) x = put-at ys n x

  -- any other number reads what it read
  pub put-beside : (xs : List (Option X)) (n : ℕ) (x : Option X) (k : ℕ) → k ≢ n → slice_index_or (put_at_number n x xs) k None ≡ slice_index_or xs k None
  put-beside [] zero x zero ne = absurd (ne refl)
  put-beside [] zero x (suc k) ne = refl
  put-beside [] (suc n) x zero ne = refl
  put-beside [] (suc n) x (suc k) ne = put-beside [] n x k (λ e. ne (ap suc e))
  put-beside (y ∷ ys) zero x zero ne = absurd (ne refl)
  put-beside (y ∷ ys) zero x (suc k) ne = refl
  put-beside (y ∷ ys) (suc n) x zero ne = refl
  put-beside (y ∷ ys) (suc n) x (suc k) ne = put-beside ys n x k (λ e. ne (ap suc e))

  -- what stands there put there changes nothing
  pub put-same : (xs : List (Option X)) (n : ℕ) (x : X) → slice_index_or xs n None ≡ Some x → put_at_number n (Some x) xs ≡ xs
  put-same [] n x e = absurd (no_some x e)
  put-same (y ∷ ys) zero x e = ap (λ o. o ∷ ys) (sym e)
  put-same (y ∷ ys) (suc n) x e = ap (λ l. y ∷ l) (put-same ys n x e)

-- what is there of a list before and behind a number
pub record IsPlaced {X : Type 0} (xs : List (Option X)) (n : ℕ) : Type 0 where
  pub front : List X
  pub back : List X
  pub there : (x : X) → slice_index_or xs n None ≡ Some x → present xs ≡ front ++ (x ∷ back)
  pub free : slice_index_or xs n None ≡ None → present xs ≡ front ++ back
  pub with_one : (x : X) → present (put_at_number n (Some x) xs) ≡ front ++ (x ∷ back)
  pub without : present (put_at_number n None xs) ≡ front ++ back

pub placed : {X : Type 0} (xs : List (Option X)) (n : ℕ) → IsPlaced xs n
placed [] zero = record { front = []; back = []; there = λ x e. absurd (no_some x e); free = λ e. refl; with_one = λ x. refl; without = refl }
placed [] (suc n) = let h = placed [] n in record { front = h.front; back = h.back; there = λ x e. absurd (no_some x e); free = h.free; with_one = h.with_one; without = h.without }
placed (None ∷ xs) zero = record { front = []; back = present xs; there = λ x e. absurd (no_some x e); free = λ e. refl; with_one = λ x. refl; without = refl }
placed (None ∷ xs) (suc n) = let h = placed xs n in record { front = h.front; back = h.back; there = h.there; free = h.free; with_one = h.with_one; without = h.without }
placed (Some y ∷ xs) zero = record { front = []; back = present xs; there = λ x e. ap (λ z. z ∷ present xs) (same_some y x e); free = λ e. absurd (no_some y (sym e)); with_one = λ x. refl; without = refl }
placed (Some y ∷ xs) (suc n) = let h = placed xs n in record {
  front = y ∷ h.front;
  back = h.back;
  there = λ x e. ap (λ l. y ∷ l) (h.there x e);
  free = λ e. ap (λ l. y ∷ l) (h.free e);
  with_one = λ x. ap (λ l. y ∷ l) (h.with_one x);
  without = ap (λ l. y ∷ l) h.without;
}

module _ {X : Type 0} where
  length-beside : (xs ys : List X) (x : X) → length (xs ++ (x ∷ ys)) ≡ suc (length (xs ++ ys))
  length-beside [] ys x = refl
  length-beside (y ∷ xs) ys x = ap suc (length-beside xs ys x)

  module _ (xs : List (Option X)) (n : ℕ) where
    -- one more where there was none
    pub length-added : (x : X) → slice_index_or xs n None ≡ None → length (present (put_at_number n (Some x) xs)) ≡ suc (length (present xs))
    length-added x e = let p = placed xs n in ap length (p.with_one x) ∙ length-beside p.front p.back x ∙ sym (ap (λ l. suc (length l)) (p.free e))

    -- one less where there was one
    pub length-gone : (x : X) → slice_index_or xs n None ≡ Some x → suc (length (present (put_at_number n None xs))) ≡ length (present xs)
    length-gone x e = let p = placed xs n in ap (λ l. suc (length l)) p.without ∙ sym (length-beside p.front p.back x) ∙ sym (ap length (p.there x e))

    -- as many where what is there becomes another one
    pub length-same : (g : X → X) → length (present (put_at_number n (option_map g (slice_index_or xs n None)) xs)) ≡ length (present xs)
    length-same g = elim (slice_index_or xs n None) as (λ o. slice_index_or xs n None ≡ o → length (present (put_at_number n (option_map g o) xs)) ≡ length (present xs)) [
      | None ↦ λ e. let p = placed xs n in ap length (p.without ∙ sym (p.free e))
      | Some x ↦ λ e. let p = placed xs n in ap length (p.with_one (g x)) ∙ length-beside p.front p.back (g x) ∙ sym (length-beside p.front p.back x) ∙ sym (ap length (p.there x e))
    ] refl

-- ---- chains

-- another chain at a number
pub kept-put : (us : List (Option Use)) (ps : List (Option PartitionEntry)) (cs : List (Option KeptChain)) (id : ℕ) (u : Option Use) (p : Option PartitionEntry) (c : Option KeptChain) → AreKept us ps cs → IsKeptChain u p c → AreKept (put_at_number id u us) (put_at_number id p ps) (put_at_number id c cs)
kept-put [] [] [] zero u p c h one = (one, tt)
kept-put [] [] [] (suc id) u p c h one = (refl, kept-put [] [] [] id u p c tt one)
kept-put [] [] (k ∷ cs) id u p c h one = absurd h
kept-put [] (q ∷ ps) cs id u p c h one = absurd h
kept-put (v ∷ us) [] cs id u p c h one = absurd h
kept-put (v ∷ us) (q ∷ ps) [] id u p c h one = absurd h
kept-put (v ∷ us) (q ∷ ps) (k ∷ cs) zero u p c h one = (one, h.1)
kept-put (v ∷ us) (q ∷ ps) (k ∷ cs) (suc id) u p c h one = (h.0, kept-put us ps cs id u p c h.1 one)

-- the use of versions that stand there, and the chain of both
pub record IsUsedAs (us : List (Option Use)) (cs : List (Option KeptChain)) (id : ℕ) (p : PartitionEntry) : Type 0 where
  pub used : Use
  pub at : slice_index_or us id None ≡ Some used
  pub root : p.root ≡ used.root
  pub chain : slice_index_or cs id None ≡ Some (chain_of_use used p)

used_as : (u : Option Use) (o : Option PartitionEntry) (c : Option KeptChain) (p : PartitionEntry) → IsKeptChain u o c → o ≡ Some p → (used : Use) × (u ≡ Some used) × (p.root ≡ used.root) × (c ≡ Some (chain_of_use used p))
used_as None None c p h e = absurd (no_some p e)
used_as None (Some o) c p h e = absurd h
used_as (Some u) None c p h e = absurd h
used_as (Some u) (Some o) c p h e = let same = same_some o p e in (u, refl, sym (ap (λ (q : PartitionEntry). q.root) same) ∙ h.0, h.1 ∙ ap (λ q. Some (chain_of_use u q)) same)

pub used-at : (us : List (Option Use)) (ps : List (Option PartitionEntry)) (cs : List (Option KeptChain)) (id : ℕ) (p : PartitionEntry) → AreKept us ps cs → slice_index_or ps id None ≡ Some p → IsUsedAs us cs id p
used-at [] [] [] id p h e = absurd (no_some p e)
used-at [] [] (c ∷ cs) id p h e = absurd h
used-at [] (q ∷ ps) cs id p h e = absurd h
used-at (u ∷ us) [] cs id p h e = absurd h
used-at (u ∷ us) (q ∷ ps) [] id p h e = absurd h
used-at (u ∷ us) (q ∷ ps) (c ∷ cs) zero p h e = let k = used_as u q c p h.0 e in record { used = k.0; at = k.1; root = k.2; chain = k.3 }
used-at (u ∷ us) (q ∷ ps) (c ∷ cs) (suc id) p h e = let k = used-at us ps cs id p h.1 e in record { used = k.used; at = k.at; root = k.root; chain = k.chain }

-- where no use is, nothing stands
unused : (u : Option Use) (o : Option PartitionEntry) (c : Option KeptChain) → IsKeptChain u o c → u ≡ None → o ≡ None
unused None None c h e = refl
unused None (Some p) c h e = absurd h
unused (Some u) o c h e = absurd (no_some u (sym e))

pub unused-at : (us : List (Option Use)) (ps : List (Option PartitionEntry)) (cs : List (Option KeptChain)) (id : ℕ) → AreKept us ps cs → slice_index_or us id None ≡ None → slice_index_or ps id None ≡ None
unused-at [] [] [] id h e = refl
unused-at [] [] (c ∷ cs) id h e = absurd h
unused-at [] (p ∷ ps) cs id h e = absurd h
unused-at (u ∷ us) [] cs id h e = absurd h
unused-at (u ∷ us) (p ∷ ps) [] id h e = absurd h
unused-at (u ∷ us) (p ∷ ps) (c ∷ cs) zero h e = unused u p c h.0 e
unused-at (u ∷ us) (p ∷ ps) (c ∷ cs) (suc id) h e = unused-at us ps cs id h.1 e

-- ---- versions by number

module _ {X : Type 0} where
  -- another version at one number, and those at others
  pub beside-at : (older newer : List X) (s t : X) (i : ℕ) (x : X) (olds news : List X) → older ++ (s ∷ newer) ≡ olds ++ (x ∷ news) → length olds ≡ i → i ≢ length older → IsVersionAt (older ++ (t ∷ newer)) i x
  beside-at [] newer s t i x [] news e n ne = absurd (ne (sym n))
  beside-at [] newer s t i x (y ∷ olds) news e n ne = record { older = t ∷ olds; newer = news; split = ap (λ l. t ∷ l) (tails s y newer (olds ++ (x ∷ news)) e); number = n }
  beside-at (o ∷ older) newer s t i x [] news e n ne = record { older = []; newer = older ++ (t ∷ newer); split = ap (λ z. z ∷ (older ++ (t ∷ newer))) (heads o x (older ++ (s ∷ newer)) news e); number = n }
  beside-at (o ∷ older) newer s t i x (y ∷ olds) news e n ne =
      let k = beside-at older newer s t (length olds) x olds news (tails o y (older ++ (s ∷ newer)) (olds ++ (x ∷ news)) e) refl (λ same. ne (sym n ∙ ap suc same)) in
      record { older = o ∷ k.older; newer = k.newer; split = ap (λ l. o ∷ l) k.split; number = ap suc k.number ∙ n }
