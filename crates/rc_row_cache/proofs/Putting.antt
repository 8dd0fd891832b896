-- A write that was put is of a memtable: what the chains of the cache take is as it was.
use Rattle.std.proofs.Common.{inl, inr, ◌≡◌, ◌≤◌, ◌+◌, ℕ, cond, List, Option, Some, None, refl, sym, ap, ◌∙◌, subst, arith}
use Rattle.std.specs.Cmp.{eq_by_cmp_equiv}
use Rattle.rc_position.specs.laws.Orders.{bytes_cmp_total}
use Rattle.rc_schema.specs.SchemaValue.{SchemaValue}
use Rattle.rc_mutation.specs.declared.mutations.Write.{Write}
use Rattle.rc_writes.specs.Weight.{weight}
use Rattle.rc_core.specs.declared.entries.ChainKind.{ChainKind}
use Rattle.rc_core.specs.declared.entries.ChainKind.TheVariants.{Cache, Memtable}
use Rattle.rc_registry.specs.Registry.{IsNumberIn}
use Rattle.rc_memory.specs.Kept.{IsLiveInChains}
use Rattle.rc_memory.specs.Memory.{KeptChain, Memory, chain_at}
use Rattle.rc_memory.specs.laws.Places.{same_some}
use Rattle.rc_filler.specs.Steps.{IsApplied}
use Rattle.rc_filler.specs.Writes.{HasWrites, chain_of}
use Rattle.rc_row_cache.specs.Leaving.{AreCachesSame}
use Rattle.rc_row_cache.specs.Footprint.{cache_bytes, memtable_bytes}
use Rattle.rc_row_cache.proofs.Numbered.{here-or-beside, none-is-none}
use Rattle.rc_row_cache.proofs.Sums.{added_by}
use Rattle.rc_row_cache.proofs.Weighed.{bytes-same, kind-or, live-of-both, weigh, weigh-no-cache}

not-both : (kind : ChainKind) → kind ≡ Memtable → kind ≡ Cache → ⊥
not-both kind m c = (let clash : Memtable ≡ Cache = sym m ∙ c in cc)

-- ---- each chain of the cache is as it was

module _ (old new : Memory) (same : AreCachesSame old new) where
  cache-none : (o : Option KeptChain) → ((k : KeptChain) → o ≡ Some k → k.chain.kind ≡ Cache → ⊥) → added_by (weigh Cache) o ≡ 0
  cache-none None off = refl
  cache-none (Some k) off = elim (kind-or k.chain.kind) [ inl m ↦ weigh-no-cache k m | inr c ↦ absurd (off k refl c) ]

  -- a chain of the cache stands at a number, or none does, then as before
  cache-at : (id : ℕ) (o q : Option KeptChain) → chain_at old id ≡ o → chain_at new id ≡ q → added_by (weigh Cache) q ≡ added_by (weigh Cache) o
  cache-at id None q was now = cache-none q (λ n e c. none-is-none n (sym was ∙ same.none id n c (now ∙ e)))
  cache-at id (Some k) q was now = elim (kind-or k.chain.kind) [
    | inl m ↦ cache-none q (λ n e c. not-both k.chain.kind m (ap (λ (x : KeptChain). x.chain.kind) (same_some k n (sym was ∙ same.none id n c (now ∙ e))) ∙ c)) ∙ sym (weigh-no-cache k m)
    | inr c ↦ ap (added_by (weigh Cache)) (sym now ∙ same.stays id k c was)
  ]

  pub cache-same : cache_bytes new ≡ cache_bytes old
  cache-same = bytes-same Cache old new (λ id. cache-at id (chain_at old id) (chain_at new id) refl refl)

-- ---- one write more

-- the chain of a number is a memtable's
memtable-at : (m : Memory) (n : ℕ) (k : KeptChain) → chain_at m n ≡ Some k → k.chain.kind ≡ Memtable → (q : KeptChain) → chain_at m n ≡ Some q → q.chain.kind ≡ Cache → ⊥
memtable-at m n k e kind q f cached = not-both k.chain.kind kind (ap (λ (x : KeptChain). x.chain.kind) (same_some k q (sym e ∙ f)) ∙ cached)

module _ (S : ℕ) (schema : SchemaValue) (w : Write) (before now : List (List ℕ × ℕ)) (old new : Memory) (writes : List Write) (h : HasWrites schema before old writes) (a : IsApplied S schema w before now old new) where
  was-none : (o : Option ℕ) → chain_of before w.key ≡ o → (k : KeptChain) → chain_at old a.id ≡ Some k → k.chain.kind ≡ Cache → ⊥
  was-none None none k e cached = none-is-none k (sym (a.made none).0 ∙ e)
  was-none (Some n) some k e cached = let c = h.kept w.key n some in memtable-at old n c.0 c.1 c.2.kind k (ap (chain_at old) (a.had n some).0 ∙ e) cached

  is-none : (k : KeptChain) → chain_at new a.id ≡ Some k → k.chain.kind ≡ Cache → ⊥
  is-none k e cached =
      let own = (eq_by_cmp_equiv bytes_cmp_total).refl w.key in
      let c = (a.stands writes h).kept w.key a.id (a.keys w.key ∙ ap (λ b. cond b (Some a.id) (chain_of before w.key)) own) in
      memtable-at new a.id c.0 c.1 c.2.kind k e cached

  pub applied-beside : AreCachesSame old new
  applied-beside = record {
    stays = λ id. here-or-beside (λ i. (k : KeptChain) → k.chain.kind ≡ Cache → chain_at old i ≡ Some k → chain_at new i ≡ Some k) a.id id (λ k c e. absurd (was-none (chain_of before w.key) refl k e c)) (λ ne k c e. a.others.others id ne ∙ e);
    none = λ id. here-or-beside (λ i. (k : KeptChain) → k.chain.kind ≡ Cache → chain_at new i ≡ Some k → chain_at old i ≡ Some k) a.id id (λ k c e. absurd (is-none k e c)) (λ ne k c e. sym (a.others.others id ne) ∙ e);
    told = λ id on. subst (λ ns. IsNumberIn ns id) (sym a.others.dropped) on;
  }

  pub applied-more : IsLiveInChains old → IsLiveInChains new → memtable_bytes new ≤ memtable_bytes old + weight w.change
  applied-more live_old live_new =
      let was = live-of-both old live_old in
      let now_of_both = live-of-both new live_new in
      let cache = cache-same old new applied-beside in
      let grows = a.grows in
      omega (arith, was, now_of_both, cache, grows)
