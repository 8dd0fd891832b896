-- The snapshot is taken back, and its chain dropped where it is to be.
use Rattle.std.proofs.Common.{◌≡◌, [], Option, Some, IsSome, inl, inr, refl, sym, subst, arith}
use Rattle.rc_memory.specs.Memory.{HasChain, KeptChain, Memory, chain_at}
use Rattle.rc_cached.specs.Lives.{IsChainDropped, IsIdle}
use Rattle.rc_cached.specs.Stands.{HasCacheSnapshot}
use Rattle.rc_row_cache.specs.Entries.{LeavesCached}
use Rattle.rc_row_cache.specs.Saying.{CacheSays}
use Rattle.rc_lookup.specs.calls.Reading.{without_snap}
use Rattle.rc_lookup.proofs.Kept.{has-pin}
use Rattle.rc_lookup.proofs.Losing.{swept-loses}
use Rattle.rc_lookup.proofs.Swept.{IsSweptThen, SweepLaws, back-there, known-swept, rest-swept, swept-beside, swept-lost, swept-then}
use Rattle.rc_lookup.proofs.populating.give_up.Goals as goal

pub release-requires : goal.release-requires
release-requires g c = (omega arith, has-pin c.args.chains.now c.args.snap.chain c.args.snap.pin c.requires)

pub sweep-requires : goal.sweep-requires
sweep-requires g c =
    let s = c.args.snap in
    let x = c.args.chains.now in
    let h : HasCacheSnapshot x s.chain s.pin = c.requires in
    (omega arith, subst (λ (y : Memory). HasChain y s.chain) (sym c.release.ensures) (subst (λ (o : Option KeptChain). IsSome o) (sym (back-there s x x h.chain h.there h.cached)) refl))

pub returns-clause-rest : goal.returns-clause-rest
returns-clause-rest g c = λ before but fresh.
    let s = c.args.snap in
    let x = c.args.chains.now in
    let new = c.sweep.new.self in
    let h : HasCacheSnapshot x s.chain s.pin = c.requires in
    let back : c.release.new.self ≡ without_snap s x = c.release.ensures in
    let swept : IsSweptThen s x new h.chain h.there h.cached = swept-then s x new h.chain h.there h.cached
    (subst (λ (y : Memory). (k : KeptChain) → chain_at y s.chain ≡ Some k → IsIdle y s.chain k.chain → IsChainDropped s.chain y.recency y new) back c.sweep.ensures.dropped)
    (subst (λ (y : Memory). (k : KeptChain) → chain_at y s.chain ≡ Some k → (IsIdle y s.chain k.chain → ⊥) → new ≡ y) back c.sweep.ensures.kept) in
    let held = c.each_snapshot_pins_what_it_pinned.ensures in
    let laws : SweepLaws = record {
      bytes_back = c.what_calls_leave_of_memtables.ensures.back;
      bytes_gone = c.what_calls_leave_of_memtables.ensures.gone;
      one_back = c.each_chain_of_the_cache_has_one_version.ensures.back;
      one_gone = c.each_chain_of_the_cache_has_one_version.ensures.gone;
      swept = c.chains_of_the_cache_stay_in_use.ensures.swept;
      held_back = λ y m id pin apart there. (held.released (λ _. []) id pin y.chain y.pin m apart there).0;
      held_gone = λ chain list m n gone free id pin there. (held.dropped (λ _. []) id pin chain list m n gone free there).0;
      one_less = c.what_calls_leave_of_snapshots.ensures.one_less;
      snapshots_gone = c.what_calls_leave_of_snapshots.ensures.gone;
    } in
    rest-swept s x new h.chain h.there h.cached swept laws before but fresh h

pub returns-clause-lost : goal.returns-clause-lost
returns-clause-lost g c =
    let s = c.args.snap in
    let x = c.args.chains.now in
    let new = c.sweep.new.self in
    let h : HasCacheSnapshot x s.chain s.pin = c.requires in
    let back : c.release.new.self ≡ without_snap s x = c.release.ensures in
    let swept : IsSweptThen s x new h.chain h.there h.cached = swept-then s x new h.chain h.there h.cached
    (subst (λ (y : Memory). (k : KeptChain) → chain_at y s.chain ≡ Some k → IsIdle y s.chain k.chain → IsChainDropped s.chain y.recency y new) back c.sweep.ensures.dropped)
    (subst (λ (y : Memory). (k : KeptChain) → chain_at y s.chain ≡ Some k → (IsIdle y s.chain k.chain → ⊥) → new ≡ y) back c.sweep.ensures.kept) in
    swept-lost s x new h.chain h.there h.cached swept

pub returns-clause-beside : goal.returns-clause-beside
returns-clause-beside g c =
    let s = c.args.snap in
    let x = c.args.chains.now in
    let new = c.sweep.new.self in
    let h : HasCacheSnapshot x s.chain s.pin = c.requires in
    let back : c.release.new.self ≡ without_snap s x = c.release.ensures in
    let swept : IsSweptThen s x new h.chain h.there h.cached = swept-then s x new h.chain h.there h.cached
    (subst (λ (y : Memory). (k : KeptChain) → chain_at y s.chain ≡ Some k → IsIdle y s.chain k.chain → IsChainDropped s.chain y.recency y new) back c.sweep.ensures.dropped)
    (subst (λ (y : Memory). (k : KeptChain) → chain_at y s.chain ≡ Some k → (IsIdle y s.chain k.chain → ⊥) → new ≡ y) back c.sweep.ensures.kept) in
    swept-beside s x new h.chain h.there h.cached swept

pub returns-clause-cached : goal.returns-clause-cached
returns-clause-cached g c =
    let s = c.args.snap in
    let x = c.args.chains.now in
    let new = c.sweep.new.self in
    let h : HasCacheSnapshot x s.chain s.pin = c.requires in
    let back : c.release.new.self ≡ without_snap s x = c.release.ensures in
    let swept : IsSweptThen s x new h.chain h.there h.cached = swept-then s x new h.chain h.there h.cached
    (subst (λ (y : Memory). (k : KeptChain) → chain_at y s.chain ≡ Some k → IsIdle y s.chain k.chain → IsChainDropped s.chain y.recency y new) back c.sweep.ensures.dropped)
    (subst (λ (y : Memory). (k : KeptChain) → chain_at y s.chain ≡ Some k → (IsIdle y s.chain k.chain → ⊥) → new ≡ y) back c.sweep.ensures.kept) in
    let leaves = c.each_change_leaves_the_caches_chains.ensures in
    let gone : LeavesCached (without_snap s x) new = elim swept [ inl gone ↦ leaves.dropped s.chain x.recency (without_snap s x) new gone.1 | inr kept ↦ subst (LeavesCached (without_snap s x)) (sym kept.1) (c.what_leaves_the_caches_chains_leaves_the_entries.ensures.itself (without_snap s x)) ] in
    c.what_leaves_the_caches_chains_leaves_the_entries.ensures.both x (without_snap s x) new (leaves.released s.chain s.pin x) gone

pub returns-clause-says : goal.returns-clause-says
returns-clause-says g c = λ schema below says.
    let s = c.args.snap in
    let x = c.args.chains.now in
    let new = c.sweep.new.self in
    let h : HasCacheSnapshot x s.chain s.pin = c.requires in
    let back : c.release.new.self ≡ without_snap s x = c.release.ensures in
    let swept : IsSweptThen s x new h.chain h.there h.cached = swept-then s x new h.chain h.there h.cached
    (subst (λ (y : Memory). (k : KeptChain) → chain_at y s.chain ≡ Some k → IsIdle y s.chain k.chain → IsChainDropped s.chain y.recency y new) back c.sweep.ensures.dropped)
    (subst (λ (y : Memory). (k : KeptChain) → chain_at y s.chain ≡ Some k → (IsIdle y s.chain k.chain → ⊥) → new ≡ y) back c.sweep.ensures.kept) in
    let law = c.the_cache_says_what_lies_below.ensures in
    let left : CacheSays schema below (without_snap s x) = law.released schema below s.chain s.pin x says in
    elim swept [ inl gone ↦ law.dropped schema below s.chain x.recency (without_snap s x) new gone.1 left | inr kept ↦ subst (CacheSays schema below) (sym kept.1) left ]

pub returns-clause-known : goal.returns-clause-known
returns-clause-known g c =
    let s = c.args.snap in
    let x = c.args.chains.now in
    let new = c.sweep.new.self in
    let h : HasCacheSnapshot x s.chain s.pin = c.requires in
    let back : c.release.new.self ≡ without_snap s x = c.release.ensures in
    let swept : IsSweptThen s x new h.chain h.there h.cached = swept-then s x new h.chain h.there h.cached
    (subst (λ (y : Memory). (k : KeptChain) → chain_at y s.chain ≡ Some k → IsIdle y s.chain k.chain → IsChainDropped s.chain y.recency y new) back c.sweep.ensures.dropped)
    (subst (λ (y : Memory). (k : KeptChain) → chain_at y s.chain ≡ Some k → (IsIdle y s.chain k.chain → ⊥) → new ≡ y) back c.sweep.ensures.kept) in
    known-swept s x new h swept

pub returns-clause-loses : goal.returns-clause-loses
returns-clause-loses g c =
    let s = c.args.snap in
    let x = c.args.chains.now in
    let new = c.sweep.new.self in
    let h : HasCacheSnapshot x s.chain s.pin = c.requires in
    let back : c.release.new.self ≡ without_snap s x = c.release.ensures in
    let swept : IsSweptThen s x new h.chain h.there h.cached = swept-then s x new h.chain h.there h.cached
    (subst (λ (y : Memory). (k : KeptChain) → chain_at y s.chain ≡ Some k → IsIdle y s.chain k.chain → IsChainDropped s.chain y.recency y new) back c.sweep.ensures.dropped)
    (subst (λ (y : Memory). (k : KeptChain) → chain_at y s.chain ≡ Some k → (IsIdle y s.chain k.chain → ⊥) → new ≡ y) back c.sweep.ensures.kept) in
    swept-loses c.a_chain_that_is_dropped_had_its_ends_alone.ensures g.row.S s x c.release.new.self new h.chain h.there h.cached back swept c.known.ensures.rule c.known.ensures.versions c.known.ensures.live c.known-2.ensures.live
