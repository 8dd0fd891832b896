use Rattle.std.proofs.Common.{◌++◌, inl, inr, refl, arith}
use Rattle.rc_memory.specs.Lists.{elem-split}
use Rattle.rc_memory.specs.Changes.{Nowhere}
use Rattle.rc_memory.specs.laws.Still.{still-itself}
use Rattle.rc_chain.proofs.Ended.{same-objects, true-false}
use Rattle.rc_chain.proofs.chains.Chains.take.Goals as goal

pub unlist-requires : goal.unlist-requires
unlist-requires g c =
    let q = c.requires in let k = elem-split c.args.self.now.recency q.0 ((c.is_listed.ensures q.0 q.1).0 c.if-is_listed.true) in (omega arith, (q.0, k.0, k.1, k.2, q.1, q.2))

pub returns-then-is_listed-clause-taken : goal.returns-then-is_listed-clause-taken
returns-then-is_listed-clause-taken g c =
    λ w at. let k = elem-split c.args.self.now.recency w ((c.is_listed.ensures w at).0 c.if-is_listed.true) in (k.0 ++ k.1, inr (k.0, k.1, k.2, refl), c.unlist.ensures.unlisted w k.0 k.1 k.2 at)

pub returns-else-is_listed-clause-taken : goal.returns-else-is_listed-clause-taken
returns-else-is_listed-clause-taken g c =
    λ w at. (c.args.self.now.recency, inl ((λ on. true-false c.is_listed.result ((c.is_listed.ensures w at).1 on) c.if-is_listed.false), refl), refl)

pub returns-else-is_listed-clause-still : goal.returns-else-is_listed-clause-still
returns-else-is_listed-clause-still g c =
    still-itself Nowhere c.args.self.now

pub returns-else-is_listed-clause-objects : goal.returns-else-is_listed-clause-objects
returns-else-is_listed-clause-objects g c =
    same-objects c.args.self.now.region
