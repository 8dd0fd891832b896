use Rattle.std.proofs.Common.{inl, inr, refl, sym, ◌∙◌, subst, arith}
use Rattle.rc_memory.specs.Changes.{NothingListed}
use Rattle.rc_chain.proofs.Ended.{true-false}
use Rattle.rc_chain.proofs.Idle.{all-unlisted, below-or, free-told}
use Rattle.rc_chain.proofs.Reading.{memory-now, there}
use Rattle.rc_chain.proofs.chains.Chains.is_idle.Goals as goal

pub is_free-requires : goal.is_free-requires
is_free-requires g c =
    let s = c.self.inside in let n = memory-now g.row.S s.recency s.region s.registry s.counts s.memory c.args.self.now c.self.view_is c.self.invariant.0 c.self.invariant.1 in
    there s.recency s.region s.registry s.counts c.args.self.now n.held c.args.id c.requires

pub returns-then-is_updating : goal.returns-then-is_updating
returns-then-is_updating g c =
    λ k e. ((λ t. cc t), (λ idle. absurd (true-false c.is_updating.result c.if-is_updating.true (c.is_updating.ensures k e ∙ idle.settled))))

pub returns-then-not-is_free : goal.returns-then-not-is_free
returns-then-not-is_free g c =
    λ k e. let s = c.self.inside in let n = memory-now g.row.S s.recency s.region s.registry s.counts s.memory c.args.self.now c.self.view_is c.self.invariant.0 c.self.invariant.1 in
    ((λ t. cc t), (λ idle. absurd (true-false c.is_free.result ((free-told s.recency s.region s.registry s.counts c.args.self.now n.held c.args.id k c.is_free.result e c.is_free.ensures).1 idle.unpinned) c.if-not-is_free.true)))

pub loop-number-init : goal.loop-number-init
loop-number-init g c =
    λ j low. absurd (omega (arith, low))

pub returns-then-has_listed : goal.returns-then-has_listed
returns-then-has_listed g c =
    λ k e. let x = c.has_listed.ensures.some c.if-has_listed.true in ((λ t. cc t), (λ idle. absurd (idle.unlisted c.loop-number.number x.0 x.1)))

pub loop-number-preserved : goal.loop-number-preserved
loop-number-preserved g c =
    λ j low. elim (below-or j c.loop-number.number low) [
      | inl under ↦ c.loop-number.invariant j under
      | inr same ↦ subst (λ i. NothingListed c.args.id i c.args.self.now) (sym same) (c.has_listed.ensures.none c.if-has_listed.false)
    ]

pub returns : goal.returns
returns g c =
    λ k e. let s = c.self.inside in let n = memory-now g.row.S s.recency s.region s.registry s.counts s.memory c.args.self.now c.self.view_is c.self.invariant.0 c.self.invariant.1 in
    ((λ t. record { cached = sym (c.kind.ensures k e) ∙ c.in-Cache.is; settled = sym (c.is_updating.ensures k e) ∙ c.if-is_updating.false; unpinned = (free-told s.recency s.region s.registry s.counts c.args.self.now n.held c.args.id k c.is_free.result e c.is_free.ensures).0 c.if-not-is_free.false; unlisted = all-unlisted c.args.self.now c.args.id k e c.known.ensures.rule (λ j low. c.loop-number.invariant j (let last = c.loop-number-test.false in let long = c.versions-number-end.ensures k e in omega (arith, last, long, low))) }), (λ idle. refl))
