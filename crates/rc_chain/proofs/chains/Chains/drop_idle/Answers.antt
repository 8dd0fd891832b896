use Rattle.std.proofs.Common.{refl, ◌∙◌, arith}
use Rattle.rc_chain.proofs.Idle.{idle-alone, idle-bare-first, idle-can, idle-free, idle-gone, idle-smaller, idle-start, idle-step, idle-there, versions_of}
use Rattle.rc_chain.proofs.chains.Chains.drop_idle.Goals as goal

pub loop-self-init : goal.loop-self-init
loop-self-init g c =
    (idle-start c.args.self.now c.args.id c.requires c.known.ensures.rule c.known.ensures.sound c.known.ensures.versions, refl)

pub versions-requires : goal.versions-requires
versions-requires g c =
    (omega arith, idle-there c.args.id c.args.self.now c.loop-self.self c.loop-self.invariant.0)

pub drop_bare-requires : goal.drop_bare-requires
drop_bare-requires g c =
    (omega arith, (idle-bare-first c.args.id c.args.self.now c.loop-self.self c.loop-self.invariant.0, (c.loop-self.invariant.0.unlisted 0, idle-can c.args.id c.args.self.now c.loop-self.self c.loop-self.invariant.0 (let is = c.versions.ensures c.loop-self.invariant.0.chain c.loop-self.invariant.0.there in let more = c.loop-self-test.true in omega (arith, is, more)))))

pub loop-self-smaller : goal.loop-self-smaller
loop-self-smaller g c =
    idle-smaller c.args.id c.args.self.now c.loop-self.self c.loop-self.invariant.0 c.drop_bare.new.self c.drop_bare.ensures.dropped (let is = c.versions.ensures c.loop-self.invariant.0.chain c.loop-self.invariant.0.there in let more = c.loop-self-test.true in omega (arith, is, more)) versions_of (λ k. refl)

pub loop-self-preserved : goal.loop-self-preserved
loop-self-preserved g c =
    (idle-step c.args.id c.args.self.now c.loop-self.self c.loop-self.invariant.0 c.drop_bare.new.self c.drop_bare.ensures.dropped (let is = c.versions.ensures c.loop-self.invariant.0.chain c.loop-self.invariant.0.there in let more = c.loop-self-test.true in omega (arith, is, more)), c.drop_bare.ensures.spare ∙ c.loop-self.invariant.1)

pub close-requires : goal.close-requires
close-requires g c =
    (omega arith, (idle-alone c.args.id c.args.self.now c.loop-self.self c.loop-self.invariant.0 c.versions.result (c.versions.ensures c.loop-self.invariant.0.chain c.loop-self.invariant.0.there) (λ more. let few = c.loop-self-test.false in omega (arith, few, more)), (c.loop-self.invariant.0.unlisted 0, idle-free c.args.id c.args.self.now c.loop-self.self c.loop-self.invariant.0)))

pub returns-clause-dropped : goal.returns-clause-dropped
returns-clause-dropped g c =
    idle-gone c.args.id c.args.self.now c.loop-self.self c.loop-self.invariant.0 c.close.new.self c.close.ensures.dropped

pub returns-clause-spare : goal.returns-clause-spare
returns-clause-spare g c =
    c.close.ensures.spare ∙ c.loop-self.invariant.1
