use Rattle.std.proofs.Common.{subst, arith}
use Rattle.lsa_tree.specs.calls.Placing.{IsStepped}
use Rattle.lsa_tree.proofs.Settled.{way-start, place-now, settled-now, way-on, way-less}
use Rattle.lsa_tree.proofs.mending.fall.Goals as goal

pub loop-above-init : goal.loop-above-init
loop-above-init g c = λ p sunk. way-start c.args.region.now c.args.start p

pub sink-requires : goal.sink-requires
sink-requires g c =
    let v = c.args.region.now in let w = c.loop-above.region in let u = c.loop-above.invariant c.requires.0 c.requires.1 in
    (omega arith, (place-now v w c.args.start c.loop-above.at c.requires.0 u.0 u.1 u.2 u.3 u.4, u.4.down c.requires.1))

pub returns-in-None-clause-settled : goal.returns-in-None-clause-settled
returns-in-None-clause-settled g c = λ p sunk.
    let v = c.args.region.now in let w = c.loop-above.region in let u = c.loop-above.invariant p sunk in let now = place-now v w c.args.start c.loop-above.at p u.0 u.1 u.2 u.3 u.4 in let x = c.sink.new.region in
    settled-now v w c.args.start c.loop-above.at p u.0 u.1 u.2 u.3 u.4 x (subst (IsStepped w x c.loop-above.at now) c.in-None.is (c.sink.ensures.stepped now (u.4.down sunk)))

pub loop-above-smaller : goal.loop-above-smaller
loop-above-smaller g c =
    let v = c.args.region.now in let w = c.loop-above.region in let p = c.requires.0 in let u = c.loop-above.invariant p c.requires.1 in let now = place-now v w c.args.start c.loop-above.at p u.0 u.1 u.2 u.3 u.4 in let x = c.sink.new.region in
    way-less v w c.args.start c.loop-above.at p u.0 u.1 u.2 u.3 u.4 x c.in-Some.above (subst (IsStepped w x c.loop-above.at now) c.in-Some.is (c.sink.ensures.stepped now (u.4.down c.requires.1)))
    c.known.ensures.well c.known.ensures.summed c.sink.ensures.well c.known-in-Some.ensures.summed

pub loop-above-preserved : goal.loop-above-preserved
loop-above-preserved g c = λ p sunk.
    let v = c.args.region.now in let w = c.loop-above.region in let u = c.loop-above.invariant p sunk in let now = place-now v w c.args.start c.loop-above.at p u.0 u.1 u.2 u.3 u.4 in let x = c.sink.new.region in
    way-on v w c.args.start c.loop-above.at p u.0 u.1 u.2 u.3 u.4 x c.in-Some.above (subst (IsStepped w x c.loop-above.at now) c.in-Some.is (c.sink.ensures.stepped now (u.4.down sunk)))
