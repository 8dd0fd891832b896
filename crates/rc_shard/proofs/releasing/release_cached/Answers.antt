-- The snapshot is taken back, and its chain dropped where it is to be.
use Rattle.std.proofs.Common.{◌≡◌, Option, Some, IsSome, refl, sym, subst, arith}
use Rattle.rc_memory.specs.Memory.{HasChain, KeptChain, Memory, chain_at}
use Rattle.rc_chain.specs.Lives.{IsChainDropped, IsIdle}
use Rattle.rc_lookup.specs.Readers.{taken_back}
use Rattle.rc_shard.proofs.Released.{IsSweptThen, ReleaseLaws, back-there, has-pin, released, swept-loses, swept-then}
use Rattle.rc_shard.proofs.releasing.release_cached.Goals as goal

pub release-requires : goal.release-requires
release-requires c = (omega arith, has-pin c.args.chains.now c.args.snap.chain c.args.snap.pin c.requires)

pub sweep-requires : goal.sweep-requires
sweep-requires c =
    let s = c.args.snap in
    let old = c.args.chains.now in
    (omega arith, subst (λ (m : Memory). HasChain m s.chain) (sym c.release.ensures) (subst (λ (o : Option KeptChain). IsSome o) (sym (back-there s old old c.requires)) refl))

pub returns-clause-released : goal.returns-clause-released
returns-clause-released c =
    let s = c.args.snap in
    let old = c.args.chains.now in
    let new = c.sweep.new.self in
    let h = c.requires in
    let back : c.release.new.self ≡ taken_back s old = c.release.ensures in
    let swept : IsSweptThen s old new h = swept-then s old new h
    (subst (λ (y : Memory). (k : KeptChain) → chain_at y s.chain ≡ Some k → IsIdle y s.chain k.chain → IsChainDropped s.chain y.recency y new) back c.sweep.ensures.dropped)
    (subst (λ (y : Memory). (k : KeptChain) → chain_at y s.chain ≡ Some k → (IsIdle y s.chain k.chain → ⊥) → new ≡ y) back c.sweep.ensures.kept) in
    let laws : ReleaseLaws = record {
      says_back = c.the_cache_says_what_lies_below.ensures.released;
      says_gone = c.the_cache_says_what_lies_below.ensures.dropped;
      left_back = c.each_change_leaves_the_caches_chains.ensures.released;
      left_gone = c.each_change_leaves_the_caches_chains.ensures.dropped;
      entries = c.what_leaves_the_caches_chains_leaves_the_entries.ensures.entries;
      bytes_back = c.what_calls_leave_of_memtables.ensures.back;
      bytes_gone = c.what_calls_leave_of_memtables.ensures.gone;
      one_back = c.each_chain_of_the_cache_has_one_version.ensures.back;
      one_gone = c.each_chain_of_the_cache_has_one_version.ensures.gone;
      swept = c.chains_of_the_cache_stay_in_use.ensures.swept;
    } in
    released s old new h swept laws

pub returns-clause-loses : goal.returns-clause-loses
returns-clause-loses c =
    let s = c.args.snap in
    let old = c.args.chains.now in
    let new = c.sweep.new.self in
    let h = c.requires in
    let back : c.release.new.self ≡ taken_back s old = c.release.ensures in
    let swept : IsSweptThen s old new h = swept-then s old new h
    (subst (λ (y : Memory). (k : KeptChain) → chain_at y s.chain ≡ Some k → IsIdle y s.chain k.chain → IsChainDropped s.chain y.recency y new) back c.sweep.ensures.dropped)
    (subst (λ (y : Memory). (k : KeptChain) → chain_at y s.chain ≡ Some k → (IsIdle y s.chain k.chain → ⊥) → new ≡ y) back c.sweep.ensures.kept) in
    swept-loses s old new h c.a_chain_that_is_dropped_had_its_ends_alone.ensures c.release.new.self back swept c.known.ensures.rule c.known.ensures.versions c.known.ensures.live c.known-2.ensures.live
