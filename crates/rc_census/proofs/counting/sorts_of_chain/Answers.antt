use Rattle.std.proofs.Common.{arith}
use Rattle.rc_memory.specs.Memory.{chain_at}
use Rattle.rc_census.proofs.Counted.{dummies-fit, rows-fit}
use Rattle.rc_census.proofs.Numbered.{number-there, some_of}
use Rattle.rc_census.proofs.Versions.{dummies-under, rows-under, versions-dummies, versions-more, versions-rows}
use Rattle.rc_census.proofs.counting.sorts_of_chain.Goals as goal

pub both-sorts-requires-clause-rows : goal.both-sorts-requires-clause-rows
both-sorts-requires-clause-rows g c =
    let m = c.args.chains.now in let k = some_of (chain_at m c.args.id) c.requires in let n = c.loop-number.number in let e = c.sorts_of_version.ensures in
    let v = number-there k.0.chain.versions n (omega (arith, c.loop-number-test.true, c.versions-number-end.ensures k.0 k.1)) in
    omega (arith, rows-fit m c.few_objects.ensures c.args.id k.0 k.1, rows-under k.0 n c.loop-number.sorts (c.loop-number.invariant k.0 k.1) v.0 v.1 c.sorts_of_version.result (e.rows k.0 v.0 k.1 v.1) (e.dummies k.0 v.0 k.1 v.1))

pub both-sorts-requires-clause-dummies : goal.both-sorts-requires-clause-dummies
both-sorts-requires-clause-dummies g c =
    let m = c.args.chains.now in let k = some_of (chain_at m c.args.id) c.requires in let n = c.loop-number.number in let e = c.sorts_of_version.ensures in
    let v = number-there k.0.chain.versions n (omega (arith, c.loop-number-test.true, c.versions-number-end.ensures k.0 k.1)) in
    omega (arith, dummies-fit m c.few_objects.ensures c.args.id k.0 k.1, dummies-under k.0 n c.loop-number.sorts (c.loop-number.invariant k.0 k.1) v.0 v.1 c.sorts_of_version.result (e.rows k.0 v.0 k.1 v.1) (e.dummies k.0 v.0 k.1 v.1))

pub loop-number-preserved : goal.loop-number-preserved
loop-number-preserved g c = λ k there.
    let n = c.loop-number.number in let e = c.sorts_of_version.ensures in let now = c.both-sorts.ensures in
    let v = number-there k.chain.versions n (omega (arith, c.loop-number-test.true, c.versions-number-end.ensures k there)) in
    versions-more k n c.loop-number.sorts (c.loop-number.invariant k there) v.0 v.1 c.sorts_of_version.result (e.rows k v.0 there v.1) (e.dummies k v.0 there v.1) c.both-sorts.result now.rows now.dummies

pub returns-clause-rows : goal.returns-clause-rows
returns-clause-rows g c = λ k there. versions-rows k c.loop-number.number c.loop-number.sorts (c.loop-number.invariant k there) (omega (arith, c.loop-number-test.false, c.versions-number-end.ensures k there))

pub returns-clause-dummies : goal.returns-clause-dummies
returns-clause-dummies g c = λ k there. versions-dummies k c.loop-number.number c.loop-number.sorts (c.loop-number.invariant k there) (omega (arith, c.loop-number-test.false, c.versions-number-end.ensures k there))
