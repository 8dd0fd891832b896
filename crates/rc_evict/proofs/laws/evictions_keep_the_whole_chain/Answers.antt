use Rattle.std.proofs.Common.{◌≡◌, ◌≢◌, ℕ, List, Some, sym, ap, ◌∙◌, subst}
use Rattle.std.specs.Prelude.{AllPairs, Contains}
use Rattle.std.proofs.lemmas.List.Elements.{Contains-append_left, Contains-append_right}
use Rattle.rc_position.specs.Position.{Place}
use Rattle.rc_core.specs.Chains.{at_place}
use Rattle.rc_core.specs.Steps.{IsChain}
use Rattle.rc_memory.specs.Memory.{KeptChain, Member, Memory, chain_at}
use Rattle.rc_memory.specs.Changes.{member_at}
use Rattle.rc_memory.specs.Recency.{IsRecency, MayBeListed}
use Rattle.rc_memory.specs.laws.Recent.{at_there}
use Rattle.rc_evict.specs.Evictions.{AreEvicted, IsPlaceUnlisted}
use Rattle.rc_evict.proofs.Chains.{MayGo, all-continuous, once-left, use-kept}
use Rattle.rc_evict.proofs.Idle.{of-chain}
use Rattle.rc_evict.proofs.laws.evictions_keep_the_whole_chain.Goals as goal

may_go : (p : Place) (went : List Member) (gone : List ℕ) (old new : Memory) (id : ℕ) (k : KeptChain) → IsRecency old → AreEvicted went gone old new → chain_at old id ≡ Some k → IsChain (at_place p k.chain) → IsPlaceUnlisted p id k.chain old.recency → MayGo p id went k
may_go p went gone old new id k rule a there ch off = record {
  are = ch.versions;
  may = λ w on e. at_there (λ q. MayBeListed q.chain w.version w.position) (chain_at old w.chain) k (rule.members w (listed w on)) (ap (chain_at old) e ∙ there);
  off = λ w on e x is up at. off x w.version is up.0 up.1 (subst (λ y. Contains old.recency (member_at id w.version y)) at (of-chain old.recency w id e (listed w on)));
}
  where
    listed : (w : Member) → Contains went w → Contains old.recency w
    listed w on = subst (λ l. Contains l w) (sym a.recency) (Contains-append_left went new.recency w on)

pub returns : goal.returns
returns c = record {
  chain = λ below p went gone old new id k rule a there ch off on. all-continuous below p id went k (once-left went new.recency (subst (AllPairs ◌≢◌) a.recency rule.once)) (may_go p went gone old new id k rule a there ch off) on;
  place = λ p went gone old new id k a off x j is up last on.
      let u = use-kept id went k in off x j is (sym u.updating ∙ up) (last ∙ u.count) (subst (λ l. Contains l (member_at id j (Some x))) (sym a.recency) (Contains-append_right went new.recency (member_at id j (Some x)) on));
}
