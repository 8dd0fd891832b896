-- How deep a balanced tree is.
use Rattle.std.proofs.Common.{◌≡◌, ℕ, zero, suc, ◌+◌, ◌*◌, ◌^◌, ◌<◌, ◌≤◌, List, [], ◌∷◌, length, inl, inr, refl, sym, ◌∙◌, subst, arith}
use Rattle.std.proofs.lemmas.List.{length-append}
use Rattle.std.proofs.lemmas.Bool.{cases_lt}
use Rattle.std.proofs.Math.Nat.{two-pow-succ}
use Rattle.lsa_path.specs.Ref.{Ref}
use Rattle.lsa_shape.specs.declared.flank.Flank.{Flank}
use Rattle.lsa_shape.specs.declared.flank.Flank.TheVariants.{Low, High}
use Rattle.lsa_shape.specs.Flanks.{other_flank}
use Rattle.lsa_shape.specs.Shapes.{TreeShape, Leaf, Node, inorder, IsIn, node_on, shape_by}
use Rattle.lsa_shape.specs.Ways.{Fork, ForkAt, plug}
use Rattle.lsa_shape.specs.laws.Ways.{IsAround}
use Rattle.lsa_shape.specs.Levels.{HasBalance, IsLevel, IsLevelAround}
use Rattle.lsa_shape.specs.calls.Levels.{shape_size}

pub leans-other : (flank : Flank) (balance near far depth : ℕ) → HasBalance flank balance near far depth → HasBalance (other_flank flank) balance far near depth
leans-other Low balance near far depth (inl w) = inl (w.0, sym w.1, omega (arith, w.1, w.2))
leans-other Low balance near far depth (inr (inl w)) = inr (inr w)
leans-other Low balance near far depth (inr (inr w)) = inr (inl w)
leans-other High balance near far depth (inl w) = inl (w.0, sym w.1, omega (arith, w.1, w.2))
leans-other High balance near far depth (inr (inl w)) = inr (inr w)
leans-other High balance near far depth (inr (inr w)) = inr (inl w)

-- each side is less deep by one or two
pub leans-less : (flank : Flank) (balance near far depth : ℕ) → HasBalance flank balance near far depth → (near + 1 ≤ depth) × (far + 1 ≤ depth) × (depth ≤ near + 2) × (depth ≤ far + 2)
leans-less flank balance near far depth (inl w) = (omega (arith, w.1, w.2), omega (arith, w.1, w.2), omega (arith, w.1, w.2), omega (arith, w.1, w.2))
leans-less flank balance near far depth (inr (inl w)) = (omega (arith, w.1, w.2), omega (arith, w.1, w.2), omega (arith, w.1, w.2), omega (arith, w.1, w.2))
leans-less flank balance near far depth (inr (inr w)) = (omega (arith, w.1, w.2), omega (arith, w.1, w.2), omega (arith, w.1, w.2), omega (arith, w.1, w.2))

module _ (lean : Ref → ℕ) where
  pub level-node : (flank : Flank) (near : TreeShape) (r : Ref) (far : TreeShape) (n : ℕ) → IsLevel lean (node_on flank near r far) n → (h : ℕ) × (k : ℕ) × IsLevel lean near h × IsLevel lean far k × HasBalance flank (lean r) h k n
  level-node Low near r far n w = w
  level-node High near r far n w = (w.1, w.0, w.3, w.2, leans-other Low (lean r) w.0 w.1 n w.4)

  pub node-level : (flank : Flank) (near : TreeShape) (r : Ref) (far : TreeShape) (h k n : ℕ) → IsLevel lean near h → IsLevel lean far k → HasBalance flank (lean r) h k n → IsLevel lean (node_on flank near r far) n
  node-level Low near r far h k n a b leans = (h, k, a, b, leans)
  node-level High near r far h k n a b leans = (k, h, b, a, leans-other High (lean r) h k n leans)

  pub level-plug : (way : List Fork) (s : TreeShape) (h n : ℕ) → IsLevel lean s h → IsLevelAround lean way h n → IsLevel lean (plug way s) n
  level-plug [] s h n level around = subst (IsLevel lean s) around level
  level-plug (ForkAt flank r beside ∷ way) s h n level around = level-plug way (node_on flank s r beside) around.1 n (node-level flank s r beside h around.0 around.1 level around.2 around.3) around.4

  pub plug-level : (way : List Fork) (s : TreeShape) (n : ℕ) → IsLevel lean (plug way s) n → (h : ℕ) × IsLevel lean s h × IsLevelAround lean way h n
  plug-level [] s n level = (n, level, refl)
  plug-level (ForkAt flank r beside ∷ way) s n level =
      let w = plug-level way (node_on flank s r beside) n level in let v = level-node flank s r beside w.0 w.1 in (v.0, v.2, (v.1, w.0, v.3, v.4, w.2))

  pub level-once : (s : TreeShape) (n m : ℕ) → IsLevel lean s n → IsLevel lean s m → n ≡ m
  level-once Leaf n m h k = h ∙ sym k
  level-once (Node l r t) n m h k =
      let low = level-once l h.0 k.0 h.2 k.2 in let high = level-once t h.1 k.1 h.3 k.3 in same h.4 k.4 low high
    where
      same : {a b c d : ℕ} → HasBalance Low (lean r) a b n → HasBalance Low (lean r) c d m → a ≡ c → b ≡ d → n ≡ m
      same (inl u) (inl v) low high = omega (arith, u.2, v.2, high)
      same (inl u) (inr (inl v)) low high = omega (arith, u.1, v.1, low, high)
      same (inl u) (inr (inr v)) low high = omega (arith, u.1, v.1, low, high)
      same (inr (inl u)) (inl v) low high = omega (arith, u.1, v.1, low, high)
      same (inr (inl u)) (inr (inl v)) low high = omega (arith, u.2, v.2, low)
      same (inr (inl u)) (inr (inr v)) low high = omega (arith, u.1, v.1, low, high)
      same (inr (inr u)) (inl v) low high = omega (arith, u.1, v.1, low, high)
      same (inr (inr u)) (inr (inl v)) low high = omega (arith, u.1, v.1, low, high)
      same (inr (inr u)) (inr (inr v)) low high = omega (arith, u.2, v.2, high)

  -- the depth of the place and of the way make at most that of the whole
  pub way-short : (way : List Fork) (h n : ℕ) → IsLevelAround lean way h n → length way + h ≤ n
  way-short [] h n around = omega (arith, around)
  way-short (ForkAt flank r beside ∷ way) h n around = let w = way-short way around.1 n around.4 in let less = leans-less flank (lean r) h around.0 around.1 around.3 in omega (arith, w, less.0)

  -- a tree of depth 2d or more has at least 2 ^ d - 1 objects
  pub many : (d : ℕ) (s : TreeShape) (n : ℕ) → IsLevel lean s n → 2 * d ≤ n → 2 ^ d ≤ shape_size s + 1
  many zero s n level deep = omega arith
  many (suc d) Leaf n level deep = absurd (omega (arith, level, deep))
  many (suc d) (Node l r t) n level deep =
      let less = leans-less Low (lean r) level.0 level.1 n level.4 in
      let low = many d l level.0 level.2 (omega (arith, less.2, deep)) in let high = many d t level.1 level.3 (omega (arith, less.3, deep)) in
      omega (arith, two-pow-succ d, low, high)

  -- so one of fewer objects is less deep
  pub shallow : (d : ℕ) (s : TreeShape) (n : ℕ) → IsLevel lean s n → shape_size s + 1 < 2 ^ d → n < 2 * d
  shallow d s n level few = elim (cases_lt n (2 * d)) [
    | inl less ↦ less
    | inr deep ↦ absurd (let w = many d s n level deep in omega (arith, w, few))
  ]

  pub level-size : (s : TreeShape) (n : ℕ) → IsLevel lean s n → n ≤ shape_size s
  level-size Leaf n level = omega (arith, level)
  level-size (Node l r t) n level =
      let low = level-size l level.0 level.2 in let high = level-size t level.1 level.3 in size level.4 low high
    where
      size : {a b : ℕ} → HasBalance Low (lean r) a b n → a ≤ shape_size l → b ≤ shape_size t → n ≤ suc (shape_size l + shape_size t)
      size (inl u) low high = omega (arith, u.2, high)
      size (inr (inl u)) low high = omega (arith, u.2, low)
      size (inr (inr u)) low high = omega (arith, u.2, high)

-- a balance is at most 2
pub level-small : (lean : Ref → ℕ) (s : TreeShape) (n : ℕ) (z : Ref) → IsLevel lean s n → IsIn z s → lean z ≤ 2
level-small lean Leaf n z level i = absurd i
level-small lean (Node l r t) n z level (inl same) = subst (λ x. lean x ≤ 2) (sym same) (small level.4)
  where
    small : {a b : ℕ} → HasBalance Low (lean r) a b n → lean r ≤ 2
    small (inl u) = omega (arith, u.0)
    small (inr (inl u)) = omega (arith, u.0)
    small (inr (inr u)) = omega (arith, u.0)
level-small lean (Node l r t) n z level (inr (inl i)) = level-small lean l level.0 z level.2 i
level-small lean (Node l r t) n z level (inr (inr i)) = level-small lean t level.1 z level.3 i

pub size-listed : (s : TreeShape) → length (inorder s) ≡ shape_size s
size-listed Leaf = refl
size-listed (Node l r t) = omega (arith, length-append (inorder l) (r ∷ inorder t), size-listed l, size-listed t)

node_size : (flank : Flank) (near : TreeShape) (r : Ref) (far : TreeShape) → shape_size (node_on flank near r far) ≡ suc (shape_size near + shape_size far)
node_size Low near r far = refl
node_size High near r far = omega arith

-- a tree has an object for each fork of a way in it, and what is at the place
pub way-size : (way : List Fork) (s : TreeShape) → length way + shape_size s ≤ shape_size (plug way s)
way-size [] s = omega arith
way-size (ForkAt flank r beside ∷ way) s = let w = way-size way (node_on flank s r beside) in omega (arith, w, node_size flank s r beside)

-- a tree that is deep has a root
pub level-root : (lean : Ref → ℕ) (flank : Flank) (s : TreeShape) (n : ℕ) → IsLevel lean s (suc n) → (near : TreeShape) × (r : Ref) × (far : TreeShape) × (s ≡ node_on flank near r far)
level-root lean flank Leaf n level = absurd (omega (arith, level))
level-root lean Low (Node l r t) n level = (l, r, t, refl)
level-root lean High (Node l r t) n level = (t, r, l, refl)

-- ---- other balances

module _ (lean lean' : Ref → ℕ) where
  pub level-kept : (s : TreeShape) (n : ℕ) → ((z : Ref) → IsIn z s → lean' z ≡ lean z) → IsLevel lean s n → IsLevel lean' s n
  level-kept Leaf n same level = level
  level-kept (Node l r t) n same level = (
    level.0,
    level.1,
    level-kept l level.0 (λ z i. same z (inr (inl i))) level.2,
    level-kept t level.1 (λ z i. same z (inr (inr i))) level.3,
    subst (λ b. HasBalance Low b level.0 level.1 n) (sym (same r (inl refl))) level.4,
  )

  pub around-kept : (way : List Fork) (h n : ℕ) → ((z : Ref) → IsAround z way → lean' z ≡ lean z) → IsLevelAround lean way h n → IsLevelAround lean' way h n
  around-kept [] h n same around = around
  around-kept (ForkAt flank r beside ∷ way) h n same around = (
    around.0,
    around.1,
    level-kept beside around.0 (λ z i. same z (inr (inl i))) around.2,
    subst (λ b. HasBalance flank b h around.0 around.1) (sym (same r (inl refl))) around.3,
    around-kept way around.1 n (λ z i. same z (inr (inr i))) around.4,
  )

  -- and other names
  pub level-mapped : (refs : Ref → Ref) (s : TreeShape) (n : ℕ) → ((z : Ref) → IsIn z s → lean' (refs z) ≡ lean z) → IsLevel lean s n → IsLevel lean' (shape_by refs s) n
  level-mapped refs Leaf n same level = level
  level-mapped refs (Node l r t) n same level = (
    level.0,
    level.1,
    level-mapped refs l level.0 (λ z i. same z (inr (inl i))) level.2,
    level-mapped refs t level.1 (λ z i. same z (inr (inr i))) level.3,
    subst (λ b. HasBalance Low b level.0 level.1 n) (sym (same r (inl refl))) level.4,
  )
