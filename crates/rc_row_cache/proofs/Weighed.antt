-- What each chain adds to what the chains of its kind take.
use Rattle.std.proofs.Common.{inl, inr, ◌≡◌, ◌⊎◌, ◌≤◌, ◌+◌, ℕ, refl, ap, cond, sum_by, arith}
use Rattle.std.specs.Prelude.{not}
use Rattle.lsa_region.specs.Region.{live_bytes}
use Rattle.rc_core.specs.declared.entries.ChainKind.{ChainKind}
use Rattle.rc_core.specs.declared.entries.ChainKind.TheVariants.{Cache, Memtable}
use Rattle.rc_memory.specs.Kept.{IsLiveInChains, present}
use Rattle.rc_memory.specs.Memory.{KeptChain, Memory, chain_at}
use Rattle.rc_memory.specs.Room.{chain_bytes}
use Rattle.rc_filler.specs.Lives.{is_cache}
use Rattle.rc_row_cache.specs.Footprint.{kind_bytes, cache_bytes, is_chain_of, memtable_bytes}
use Rattle.rc_row_cache.proofs.Sums.{added_by, sum-both, sum-filter, sum-least, through}

-- what a chain adds to those of a kind
abbrev pub weigh : ChainKind → KeptChain → ℕ
weigh kind = through (is_chain_of kind) chain_bytes

pub bytes-are : (kind : ChainKind) (m : Memory) → kind_bytes kind m ≡ sum_by (weigh kind) (present m.chains)
bytes-are kind m = sum-filter (is_chain_of kind) chain_bytes (present m.chains)

pub kind-or : (kind : ChainKind) → (kind ≡ Memtable) ⊎ (kind ≡ Cache)
kind-or Memtable = inl refl
kind-or Cache = inr refl

module _ (k : KeptChain) where
  pub weigh-memtable : k.chain.kind ≡ Memtable → weigh Memtable k ≡ chain_bytes k
  weigh-memtable e = ap (λ kind. cond (not (is_cache kind)) (chain_bytes k) 0) e

  pub weigh-other : k.chain.kind ≡ Cache → weigh Memtable k ≡ 0
  weigh-other e = ap (λ kind. cond (not (is_cache kind)) (chain_bytes k) 0) e

  pub weigh-cache : k.chain.kind ≡ Cache → weigh Cache k ≡ chain_bytes k
  weigh-cache e = ap (λ kind. cond (is_cache kind) (chain_bytes k) 0) e

  pub weigh-no-cache : k.chain.kind ≡ Memtable → weigh Cache k ≡ 0
  weigh-no-cache e = ap (λ kind. cond (is_cache kind) (chain_bytes k) 0) e

  weigh-both : weigh Memtable k + weigh Cache k ≡ chain_bytes k
  weigh-both = elim (kind-or k.chain.kind) [
    | inl m ↦ (let a = weigh-memtable m in let b = weigh-no-cache m in omega (arith, a, b))
    | inr c ↦ (let a = weigh-other c in let b = weigh-cache c in omega (arith, a, b))
  ]

-- what is live is of memtables or of the cache
pub live-of-both : (m : Memory) → IsLiveInChains m → live_bytes m.region ≡ memtable_bytes m + cache_bytes m
live-of-both m live = omega (arith, live, sum-both chain_bytes (weigh Memtable) (weigh Cache) weigh-both (present m.chains), bytes-are Memtable m, bytes-are Cache m)

-- by what stands at each number
pub bytes-least : (kind : ChainKind) (old new : Memory) → ((id : ℕ) → added_by (weigh kind) (chain_at new id) ≤ added_by (weigh kind) (chain_at old id)) → kind_bytes kind new ≤ kind_bytes kind old
bytes-least kind old new h = omega (arith, bytes-are kind new, bytes-are kind old, sum-least (weigh kind) (weigh kind) new.chains old.chains h)

pub bytes-same : (kind : ChainKind) (old new : Memory) → ((id : ℕ) → added_by (weigh kind) (chain_at new id) ≡ added_by (weigh kind) (chain_at old id)) → kind_bytes kind new ≡ kind_bytes kind old
bytes-same kind old new h = omega (arith, bytes-least kind old new (λ id. let e = h id in omega (arith, e)), bytes-least kind new old (λ id. let e = h id in omega (arith, e)))
