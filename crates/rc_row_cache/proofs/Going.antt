-- Where the sealed writes are let go.
use Rattle.std.proofs.Common.{inl, inr, ◌≡◌, ◌≢◌, ℕ, Bool, true, false, cond, List, [], ◌∷◌, Some, None, map, refl, sym, ap, ◌∙◌, le_refl}
use Rattle.std.proofs.lemmas.Map.Keys.{sorted_head, sorted_tail}
use Rattle.std.specs.Cmp.{eq_by_cmp_equiv}
use Rattle.std.specs.List.{AllByRecursion}
use Rattle.std.specs.Ordering.{eq_by_cmp, is_eq}
use Rattle.std.specs.declared.cmp.Ordering.{Ordering}
use Rattle.std.specs.declared.cmp.Ordering.TheVariants.{Less, Equal, Greater}
use Rattle.rc_position.specs.Position.{bytes_cmp}
use Rattle.rc_position.specs.laws.Orders.{bytes_cmp_same, bytes_cmp_total}
use Rattle.rc_schema.specs.SchemaValue.{SchemaValue}
use Rattle.rc_mutation.specs.declared.mutations.Write.{Write}
use Rattle.rc_memory.specs.Memory.{KeptChain, Memory, chain_at, on_shown, shown_detached}
use Rattle.rc_memory.specs.Room.{chain_bytes}
use Rattle.rc_entries.specs.Detached.{IsDetached}
use Rattle.rc_filler.specs.LetGo.{AreLetGo, IsLetGo}
use Rattle.rc_filler.specs.Writes.{DoAscend, HasWrites, chain_of}
use Rattle.rc_row_cache.proofs.Leaving.{Leaves, leaves-changed, leaves-gone, leaves-same, leaves-then}
use Rattle.rc_row_cache.proofs.Numbered.{chain-beside, changed-beside, none-is-none, there-or-not}

-- ---- keys

equal-is : (r : Ordering) → is_eq r ≡ true → r ≡ Equal
equal-is Less e = absurd (cc)
equal-is Equal e = refl
equal-is Greater e = absurd (cc)

key-is : (key q : List ℕ) → eq_by_cmp bytes_cmp key q ≡ true → key ≡ q
key-is key q e = bytes_cmp_same key q (equal-is (bytes_cmp key q) e)

either : (P : Type 0) (b : Bool) → (b ≡ true → P) → (b ≡ false → P) → P
either P true t f = t refl
either P false t f = f refl

none-behind : (key : List ℕ) (es : List (List ℕ × ℕ)) → AllByRecursion (λ y. bytes_cmp key y ≡ Less) (map (λ (e : List ℕ × ℕ). e.0) es) → chain_of es key ≡ None
none-behind key [] h = refl
none-behind key (e ∷ es) h = ap (λ r. cond (is_eq r) (Some e.1) (chain_of es key)) h.0 ∙ none-behind key es h.1

-- ---- chains

-- each key has a chain of its own
record AreTheirs (es : List (List ℕ × ℕ)) (m : Memory) : Type 0 where
  ascend : DoAscend es
  there : (key : List ℕ) (id : ℕ) → chain_of es key ≡ Some id → (k : KeptChain) × (chain_at m id ≡ Some k)
  apart : (key other : List ℕ) (id : ℕ) → chain_of es key ≡ Some id → chain_of es other ≡ Some id → key ≡ other

module _ (e : List ℕ × ℕ) (es : List (List ℕ × ℕ)) (m n : Memory) (h : AreTheirs (e ∷ es) m) (gone : IsLetGo e.1 m n) where
  first-of : chain_of (e ∷ es) e.0 ≡ Some e.1
  first-of = ap (λ b. cond b (Some e.1) (chain_of es e.0)) ((eq_by_cmp_equiv bytes_cmp_total).refl e.0)

  once : chain_of es e.0 ≡ None
  once = none-behind e.0 es (sorted_head bytes_cmp e.0 (map (λ (d : List ℕ × ℕ). d.0) es) h.ascend)

  later-of : (key : List ℕ) (i : ℕ) → chain_of es key ≡ Some i → chain_of (e ∷ es) key ≡ Some i
  later-of key i f = either (chain_of (e ∷ es) key ≡ Some i) (eq_by_cmp bytes_cmp key e.0)
      (λ same. absurd (none-is-none i (sym once ∙ ap (chain_of es) (sym (key-is key e.0 same)) ∙ f)))
      (λ off. ap (λ b. cond b (Some e.1) (chain_of es key)) off ∙ f)

  mine : (k : KeptChain) × (chain_at m e.1 ≡ Some k)
  mine = h.there e.0 e.1 first-of

  gone-beside : (i : ℕ) → i ≢ e.1 → chain_at n i ≡ chain_at m i
  gone-beside i ne = elim (gone mine.0 mine.1) [
    | inl freed ↦ chain-beside m n e.1 None freed.1.chains i ne
    | inr kept ↦ changed-beside m n e.1 (on_shown shown_detached) kept.1.chains i ne
  ]

  one-leaves : Leaves m n
  one-leaves = elim (gone mine.0 mine.1) [
    | inl freed ↦ leaves-gone m n e.1 freed.1.chains
    | inr kept ↦ leaves-changed m n e.1 (on_shown shown_detached) kept.1.chains (λ k there. record { kind = refl; count = refl; bytes = λ memtable. le_refl (chain_bytes k) })
  ]

  one-list : n.recency ≡ m.recency
  one-list = elim (gone mine.0 mine.1) [ inl freed ↦ freed.1.recency | inr kept ↦ kept.1.recency ]

  one-counts : n.counts ≡ m.counts
  one-counts = elim (gone mine.0 mine.1) [ inl freed ↦ freed.1.counts | inr kept ↦ kept.1.counts ]

  theirs-later : AreTheirs es n
  theirs-later = record {
    ascend = sorted_tail bytes_cmp e.0 (map (λ (d : List ℕ × ℕ). d.0) es) h.ascend;
    there = λ key id f. (let k = h.there key id (later-of key id f) in
        (k.0, gone-beside id (λ same. none-is-none id (sym once ∙ ap (chain_of es) (h.apart e.0 key id (first-of ∙ ap Some (sym same)) (later-of key id f)) ∙ f)) ∙ k.1));
    apart = λ key other id f g. h.apart key other id (later-of key id f) (later-of other id g);
  }

all-leave : (es : List (List ℕ × ℕ)) (m n : Memory) → AreTheirs es m → AreLetGo (map (λ (e : List ℕ × ℕ). e.1) es) m n → Leaves m n
all-leave [] m n h same = leaves-same m n (ap (λ (x : Memory). x.chains) same)
all-leave (e ∷ es) m n h (mid, one, rest) = leaves-then m mid n (one-leaves e es m mid h one) (all-leave es mid n (theirs-later e es m mid h one) rest)

all-list : (es : List (List ℕ × ℕ)) (m n : Memory) → AreTheirs es m → AreLetGo (map (λ (e : List ℕ × ℕ). e.1) es) m n → n.recency ≡ m.recency
all-list [] m n h same = ap (λ (x : Memory). x.recency) same
all-list (e ∷ es) m n h (mid, one, rest) = all-list es mid n (theirs-later e es m mid h one) rest ∙ one-list e es m mid h one

all-counts : (es : List (List ℕ × ℕ)) (m n : Memory) → AreTheirs es m → AreLetGo (map (λ (e : List ℕ × ℕ). e.1) es) m n → n.counts ≡ m.counts
all-counts [] m n h same = ap (λ (x : Memory). x.counts) same
all-counts (e ∷ es) m n h (mid, one, rest) = all-counts es mid n (theirs-later e es m mid h one) rest ∙ one-counts e es m mid h one

theirs-of : (schema : SchemaValue) (es : List (List ℕ × ℕ)) (m : Memory) (writes : List Write) → DoAscend es → HasWrites schema es m writes → AreTheirs es m
theirs-of schema es m writes ascend h = record { ascend = ascend; there = λ key id e. (let k = h.kept key id e in (k.0, k.1)); apart = h.apart }

pub let-go-leaves : (schema : SchemaValue) (es : List (List ℕ × ℕ)) (m n : Memory) (writes : List Write) → DoAscend es → HasWrites schema es m writes → AreLetGo (map (λ (e : List ℕ × ℕ). e.1) es) m n → Leaves m n
let-go-leaves schema es m n writes ascend h = all-leave es m n (theirs-of schema es m writes ascend h)

-- the recency list is as it was
pub let-go-list : (schema : SchemaValue) (es : List (List ℕ × ℕ)) (m n : Memory) (writes : List Write) → DoAscend es → HasWrites schema es m writes → AreLetGo (map (λ (e : List ℕ × ℕ). e.1) es) m n → n.recency ≡ m.recency
let-go-list schema es m n writes ascend h = all-list es m n (theirs-of schema es m writes ascend h)

-- nothing is counted
pub let-go-counts : (schema : SchemaValue) (es : List (List ℕ × ℕ)) (m n : Memory) (writes : List Write) → DoAscend es → HasWrites schema es m writes → AreLetGo (map (λ (e : List ℕ × ℕ). e.1) es) m n → n.counts ≡ m.counts
let-go-counts schema es m n writes ascend h = all-counts es m n (theirs-of schema es m writes ascend h)

pub detached-counts : (id : ℕ) (old new : Memory) → IsDetached id old new → new.counts ≡ old.counts
detached-counts id old new d = there-or-not (chain_at old id) (λ none. ap (λ (x : Memory). x.counts) (d.gone none)) (λ k there. (d.there k there).2.counts)
