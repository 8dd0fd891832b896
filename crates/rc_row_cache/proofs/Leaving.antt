-- What calls leave of memtables' chains, and of how many versions chains of the cache have, number by number.
--     IsLeft      what stands at a number is of a kind, and has as many versions, as what stood there, and of a memtable it takes no more; or it is a chain of the cache of one version
--     Leaves      so at each number
use Rattle.std.proofs.Common.{inl, inr, ◌≡◌, ◌⊎◌, ◌≤◌, ℕ, List, Option, Some, None, length, refl, sym, ap, ◌∙◌, subst, slice_index_or, le_refl, arith}
use Rattle.rc_core.specs.declared.entries.ChainKind.TheVariants.{Cache, Memtable}
use Rattle.rc_registry.specs.Registry.{put_at_number}
use Rattle.rc_memory.specs.Memory.{KeptChain, Member, Memory, chain_at, on_chain}
use Rattle.rc_memory.specs.Room.{chain_bytes}
use Rattle.rc_filler.specs.Evictions.{AreEvicted, evicted_of}
use Rattle.rc_row_cache.specs.Footprint.{HaveOneVersion, memtable_bytes}
use Rattle.rc_row_cache.proofs.Evicted.{evicted-less}
use Rattle.rc_row_cache.proofs.Numbered.{among-or, chain-beside, chain-here, changed-beside, changed-was, here-or-beside, mapped, none-is-none}
use Rattle.rc_row_cache.proofs.Sums.{added_by}
use Rattle.rc_row_cache.proofs.Weighed.{bytes-least, kind-or, weigh, weigh-memtable, weigh-other}

-- a chain is of the kind of another one, has as many versions, and takes no more, where it is a memtable's
pub record IsNoLarger (k n : KeptChain) : Type 0 where
  pub kind : n.chain.kind ≡ k.chain.kind
  pub count : length n.chain.versions ≡ length k.chain.versions
  pub bytes : k.chain.kind ≡ Memtable → chain_bytes n ≤ chain_bytes k

-- a chain of the cache has one version
abbrev pub IsOneOfCache : KeptChain → Type 0
IsOneOfCache n = (n.chain.kind ≡ Cache) × (length n.chain.versions ≡ 1)

abbrev pub IsLeft : Option KeptChain → KeptChain → Type 0
IsLeft o n = IsOneOfCache n ⊎ ((k : KeptChain) × (o ≡ Some k) × IsNoLarger k n)

abbrev pub Leaves : Memory → Memory → Type 0
Leaves old new = (id : ℕ) (n : KeptChain) → chain_at new id ≡ Some n → IsLeft (chain_at old id) n

larger-itself : (k : KeptChain) → IsNoLarger k k
larger-itself k = record { kind = refl; count = refl; bytes = λ m. le_refl (chain_bytes k) }

larger-then : (j k n : KeptChain) → IsNoLarger j k → IsNoLarger k n → IsNoLarger j n
larger-then j k n f g = record {
  kind = g.kind ∙ f.kind;
  count = g.count ∙ f.count;
  bytes = λ m. (let one = f.bytes m in let two = g.bytes (f.kind ∙ m) in omega (arith, one, two));
}

pub leaves-then : (old mid new : Memory) → Leaves old mid → Leaves mid new → Leaves old new
leaves-then old mid new f g id n e = elim (g id n e) [
  | inl one ↦ inl one
  | inr (k, there, l) ↦ elim (f id k there) [
    | inl one ↦ inl (l.kind ∙ one.0, l.count ∙ one.1)
    | inr (j, was, m) ↦ inr (j, was, larger-then j k n m l)
  ]
]

-- ---- what follows

module _ (old new : Memory) (h : Leaves old new) where
  weigh-less : (k n : KeptChain) → IsNoLarger k n → weigh Memtable n ≤ weigh Memtable k
  weigh-less k n l = elim (kind-or k.chain.kind) [
    | inl m ↦ (let was = weigh-memtable k m in let now = weigh-memtable n (l.kind ∙ m) in let less = l.bytes m in omega (arith, was, now, less))
    | inr c ↦ (let none = weigh-other n (l.kind ∙ c) in omega (arith, none))
  ]

  less-at : (id : ℕ) (o : Option KeptChain) → chain_at new id ≡ o → added_by (weigh Memtable) o ≤ added_by (weigh Memtable) (chain_at old id)
  less-at id None e = omega arith
  less-at id (Some n) e = elim (h id n e) [
    | inl one ↦ (let none = weigh-other n one.0 in omega (arith, none))
    | inr (k, there, l) ↦ (let was : added_by (weigh Memtable) (chain_at old id) ≡ weigh Memtable k = ap (added_by (weigh Memtable)) there in let less = weigh-less k n l in omega (arith, was, less))
  ]

  -- memtables take no more
  pub leaves-less : memtable_bytes new ≤ memtable_bytes old
  leaves-less = bytes-least Memtable old new (λ id. less-at id (chain_at new id) refl)

  -- chains of the cache have one version still
  pub leaves-one : HaveOneVersion old → HaveOneVersion new
  leaves-one one id n e cached = elim (h id n e) [ inl opened ↦ opened.1 | inr (k, there, l) ↦ l.count ∙ one id k there (sym l.kind ∙ cached) ]

-- ---- what leaves them

pub leaves-same : (old new : Memory) → new.chains ≡ old.chains → Leaves old new
leaves-same old new is id n e = inr (n, ap (λ cs. slice_index_or cs id None) (sym is) ∙ e, larger-itself n)

module _ (old new : Memory) where
  beside : (id : ℕ) → chain_at new id ≡ chain_at old id → (n : KeptChain) → chain_at new id ≡ Some n → IsLeft (chain_at old id) n
  beside id same n e = inr (n, sym same ∙ e, larger-itself n)

  abbrev At : ℕ → Type 0
  At i = (n : KeptChain) → chain_at new i ≡ Some n → IsLeft (chain_at old i) n

  -- a chain is gone
  pub leaves-gone : (id : ℕ) → new.chains ≡ put_at_number id None old.chains → Leaves old new
  leaves-gone id is i = here-or-beside At id i (λ n e. absurd (none-is-none n (sym (chain-here old new id None is) ∙ e))) (λ ne. beside i (chain-beside old new id None is i ne))

  -- one of the cache came to be
  pub leaves-opened : (id : ℕ) (k : KeptChain) → new.chains ≡ put_at_number id (Some k) old.chains → IsOneOfCache k → Leaves old new
  leaves-opened id k is one i = here-or-beside At id i
      (λ n e. inl (subst IsOneOfCache (let same : k ≡ n = cc (sym (chain-here old new id (Some k) is) ∙ e) in same) one))
      (λ ne. beside i (chain-beside old new id (Some k) is i ne))

  -- something was done to one
  pub leaves-changed : (id : ℕ) (f : KeptChain → KeptChain) → new.chains ≡ on_chain id f old.chains → ((k : KeptChain) → chain_at old id ≡ Some k → IsNoLarger k (f k)) → Leaves old new
  leaves-changed id f is h i = here-or-beside At id i
      (λ n e. (let was = changed-was old new id f is n e in inr (was.0, was.1, subst (IsNoLarger was.0) was.2 (h was.0 was.1))))
      (λ ne. beside i (changed-beside old new id f is i ne))

-- what evictions leave of the use of a chain
pub record UseLaws : Type 0 where
  pub kind : (id : ℕ) (went : List Member) (k : KeptChain) → (evicted_of id went k).chain.kind ≡ k.chain.kind
  pub count : (id : ℕ) (went : List Member) (k : KeptChain) → length (evicted_of id went k).chain.versions ≡ length k.chain.versions

pub leaves-evicted : UseLaws → (went : List Member) (gone : List ℕ) (old new : Memory) → AreEvicted went gone old new → Leaves old new
leaves-evicted laws went gone old new a id n e = elim (among-or gone id) [
  | inl on ↦ absurd (none-is-none n (sym (a.absent id on) ∙ e))
  | inr off ↦ (
      let was = mapped (evicted_of id went) (chain_at old id) n (sym (a.chains id off) ∙ e) in
      inr (was.0, was.1, subst (IsNoLarger was.0) was.2 (record { kind = laws.kind id went was.0; count = laws.count id went was.0; bytes = λ m. evicted-less id went was.0 })))
]
