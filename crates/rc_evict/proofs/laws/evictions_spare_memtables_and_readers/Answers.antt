use Rattle.std.proofs.Common.{◌≡◌, ◌≢◌, ℕ, List, [], Option, Some, None, refl, sym, ap, ◌∙◌, subst}
use Rattle.std.specs.Prelude.{Contains, IsSomeAnd}
use Rattle.std.specs.Option.{option_map}
use Rattle.std.proofs.lemmas.List.Elements.{Contains-append_left}
use Rattle.rc_core.specs.declared.entries.ChainKind.TheVariants.{Cache, Memtable}
use Rattle.rc_partition.specs.laws.Lists.{elem-none}
use Rattle.rc_memory.specs.Memory.{KeptChain, Member, Memory, chain_at}
use Rattle.rc_memory.specs.Recency.{IsRecency, MayBeListed}
use Rattle.rc_memory.specs.laws.Recent.{at_there}
use Rattle.rc_chain.specs.Lives.{IsIdle}
use Rattle.rc_evict.specs.Evictions.{AreEvicted, evicted_of}
use Rattle.rc_evict.proofs.Chains.{untouched}
use Rattle.rc_evict.proofs.laws.evictions_spare_memtables_and_readers.Goals as goal

module _ (went : List Member) (gone : List ℕ) (old new : Memory) (a : AreEvicted went gone old new) (id : ℕ) where
  -- a chain that was dropped was to be dropped
  idle_of : (k : KeptChain) → chain_at old id ≡ Some k → Contains gone id → IsIdle new id k.chain
  idle_of k there on = at_there (λ q. IsIdle new id q.chain) (chain_at old id) k (a.idle id on) there

  stays : (k : KeptChain) → chain_at old id ≡ Some k → (IsIdle new id k.chain → ⊥) → chain_at new id ≡ Some (evicted_of id went k)
  stays k there busy = a.chains id (λ on. busy (idle_of k there on)) ∙ ap (option_map (evicted_of id went)) there

  -- nothing of a memtable went
  none_of : (k : KeptChain) → IsRecency old → chain_at old id ≡ Some k → k.chain.kind ≡ Memtable → (w : Member) → Contains went w → w.chain ≢ id
  none_of k rule there is w on e =
      let may = at_there (λ q. MayBeListed q.chain w.version w.position) (chain_at old w.chain) k (rule.members w (subst (λ l. Contains l w) (sym a.recency) (Contains-append_left went new.recency w on))) (ap (chain_at old) e ∙ there) in
      let clash : Memtable ≡ Cache = sym is ∙ may.cached in cc clash

  memtable_stays : (k : KeptChain) → IsRecency old → chain_at old id ≡ Some k → k.chain.kind ≡ Memtable → chain_at new id ≡ Some k
  memtable_stays k rule there is = stays k there (λ i. let clash : Memtable ≡ Cache = sym is ∙ i.cached in cc clash) ∙ ap (λ x. Some x) (untouched id went k (none_of k rule there is))

  absent_stays : chain_at old id ≡ None → chain_at new id ≡ None
  absent_stays none = a.chains id (λ on. subst (λ (o : Option KeptChain). IsSomeAnd o (λ k. IsIdle new id k.chain)) none (a.idle id on)) ∙ ap (option_map (evicted_of id went)) none

same_map : (id : ℕ) (o : Option KeptChain) → option_map (evicted_of id []) o ≡ o
same_map id None = refl
same_map id (Some k) = refl

pub returns : goal.returns
returns c = record {
  memtable = λ went gone old new id k rule a there is. memtable_stays went gone old new a id k rule there is;
  pinned = λ went gone old new id j k a there on. stays went gone old new a id k there (λ i. i.unpinned j on);
  updating = λ went gone old new id k a there up. stays went gone old new a id k there (λ i. up i.settled);
  absent = λ went gone old new id a none. absent_stays went gone old new a id none;
  none = λ gone old new id a. a.chains id (λ on. elem-none (a.cause id on).0 (a.cause id on).1) ∙ same_map id (chain_at old id);
}
