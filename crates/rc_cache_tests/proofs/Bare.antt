-- Where no chain is there none is of the cache, and a chain that was opened is there, and may be freed once it is detached.
use Rattle.std.proofs.Common.{◌≡◌, ℕ, true, false, List, [], Option, Some, None, refl, sym, ap, ◌∙◌, subst, slice_index_or}
use Rattle.std.specs.Prelude.{IsSome, IsSomeAnd}
use Rattle.std.specs.Option.{option_map}
use Rattle.rc_registry.specs.Registry.{AreFree}
use Rattle.rc_memory.specs.Memory.{KeptChain, Member, Memory, IsEmpty, chain_at, on_shown, shown_detached}
use Rattle.rc_memory.specs.laws.Places.{no_some}
use Rattle.rc_memory.specs.laws.Put.{put-at}
use Rattle.rc_chain.specs.Lives.{IsChainChanged, IsEndListed}
use Rattle.rc_populate.specs.Filling.{IsEntryOpened, chain_opened}
use Rattle.rc_entries.specs.Entries.{IsCached}

pub none-cached : (m : Memory) → IsEmpty m → (id : ℕ) → IsCached m id → ⊥
none-cached m empty id c = no_some c.kept (sym (ap (λ (cs : List (Option KeptChain)). slice_index_or cs id None) empty.chains) ∙ c.there)

pub opened-free : (id : ℕ) (old new : Memory) → IsEntryOpened id None None 7 old new → IsSomeAnd (chain_at new id) (λ k. AreFree k.chain.pins)
opened-free id old new o =
    subst (λ (c : Option KeptChain). IsSomeAnd c (λ k. AreFree k.chain.pins)) (sym (ap (λ cs. slice_index_or cs id None) o.chains ∙ put-at old.chains id (Some (chain_opened None None 7)))) (λ version on. on)

pub some-there : (c : Option KeptChain) → IsSomeAnd c (λ k. AreFree k.chain.pins) → (k : KeptChain) × (c ≡ Some k) × AreFree k.chain.pins
some-there None h = absurd h
some-there (Some k) h = (k, refl, h)

module _ (id : ℕ) (old new : Memory) (free : IsSomeAnd (chain_at old id) (λ k. AreFree k.chain.pins)) where
  pub is-there : IsSome (chain_at old id)
  is-there = let k = some-there (chain_at old id) free in subst IsSome (sym k.1) refl

  pub detached-free : ((k : KeptChain) → chain_at old id ≡ Some k → (list : List Member) × IsEndListed id k.chain old.recency list × IsChainChanged id (on_shown shown_detached) list old new) → IsSomeAnd (chain_at new id) (λ k. (k.chain.attached ≡ false) × AreFree k.chain.pins)
  detached-free d = let k = some-there (chain_at old id) free in
      subst (λ (c : Option KeptChain). IsSomeAnd c (λ k. (k.chain.attached ≡ false) × AreFree k.chain.pins))
      (sym (ap (λ cs. slice_index_or cs id None) (d k.0 k.1).2.chains ∙ put-at old.chains id (option_map (on_shown shown_detached) (chain_at old id)) ∙ ap (option_map (on_shown shown_detached)) k.1)) (refl, k.2)
