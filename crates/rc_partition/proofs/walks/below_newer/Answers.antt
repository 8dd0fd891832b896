use Rattle.std.proofs.Common.{◌∙◌, arith}
use Rattle.rc_partition.proofs.Passing.{seeking-start, seeking-next, seeking-set, seeking-here}
use Rattle.rc_partition.proofs.walks.below_newer.Goals as goal

pub loop-passed-init : goal.loop-passed-init
loop-passed-init g c = let p = c.requires.path in (p.0, p.1, p.2, seeking-start c.args.region.now c.args.root c.requires.there c.args.newer p.0 p.1 p.2 p.3 p.4)

pub named-requires : goal.named-requires
named-requires g c = let i = c.loop-passed.invariant in
    (omega arith, (i.3.there, seeking-set c.args.region.now c.args.root c.loop-passed.at c.args.newer c.loop-passed._passed i.0 i.1 i.2 i.3))

pub loop-passed-preserved : goal.loop-passed-preserved
loop-passed-preserved g c = let i = c.loop-passed.invariant in
    let w = seeking-next c.args.region.now c.args.root c.known.ensures.well c.loop-passed.at c.args.newer c.loop-passed._passed i.0 i.1 i.2 c.named.result c.loop-passed-test.true i.3 c.named.ensures in
    (w.0, i.1, i.2, w.1)

pub named-requires-2 : goal.named-requires-2
named-requires-2 g c = let i = c.loop-passed.invariant in
    (omega arith, (i.3.there, seeking-set c.args.region.now c.args.root c.loop-passed.at c.args.newer c.loop-passed._passed i.0 i.1 i.2 i.3))

pub returns : goal.returns
returns g c = λ xs n ys p long. let i = c.loop-passed.invariant in
    seeking-here c.args.region.now c.args.root c.loop-passed.at c.args.newer c.loop-passed._passed i.0 i.1 i.2 c.named-2.result c.loop-passed-test.false i.3 c.named-2.ensures ∙ i.3.only xs n ys p long
