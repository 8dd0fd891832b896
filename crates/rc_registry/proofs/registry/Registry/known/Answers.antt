use Rattle.std.proofs.Common.{◌≡◌, ℕ, None, subst, vec_capacity}
use Rattle.lsa_region.specs.declared.end.Root.{Root}
use Rattle.std.specs.VecDeque.{deque_capacity}
use Rattle.rc_registry.specs.Registry.{Registry, AreOnce, HasRoot, IsNumberIn, use_at}
use Rattle.rc_registry.specs.laws.Numbers.{IsOneOf-back, AreOnce-back}
use Rattle.rc_registry.proofs.Keeping.{one-root}
use Rattle.rc_registry.proofs.registry.Registry.known.Goals as goal

pub returns-clause-gone : goal.returns-clause-gone
returns-clause-gone c =
    let i = c.self.inside in
    subst (λ (r : Registry). (id : ℕ) → IsNumberIn r.dropped id → use_at r.uses id ≡ None) c.self.view_is (λ id one. (c.self.invariant.gone id (IsOneOf-back i.vacant.items i.dropped.items id one)).1)

pub returns-clause-once : goal.returns-clause-once
returns-clause-once c =
    let i = c.self.inside in subst (λ (r : Registry). AreOnce r.dropped) c.self.view_is (AreOnce-back i.vacant.items i.dropped.items c.self.invariant.once)

pub returns-clause-roots : goal.returns-clause-roots
returns-clause-roots c =
    let i = c.self.inside in
    subst (λ (r : Registry). (root : Root) (i j : ℕ) → HasRoot r root i → HasRoot r root j → i ≡ j) c.self.view_is
    (one-root i.uses.items i.vacant.items i.dropped.items i.owners.items (vec_capacity i.vacant) (deque_capacity i.dropped) c.self.invariant)
