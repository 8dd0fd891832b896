use Rattle.std.proofs.Common.{refl, arith}
use Rattle.rc_cached.specs.Fills.{IsCacheFill, OfGap}
use Rattle.rc_lookup.proofs.Taken.{taken-by}
use Rattle.rc_lookup.proofs.filling.take_gap.Goals as goal

pub take_gap-requires : goal.take_gap-requires
take_gap-requires g c = (omega arith, (c.requires.ready.snapshot, (c.requires.ready.roomy, c.requires.order)))

pub returns-clause-known : goal.returns-clause-known
returns-clause-known g c =
    let S = g.row.S in
    let f = c.args.filler.now.filler in
    let m = c.args.home.now in
    let n = c.take_gap.new.home in
    let q = OfGap c.args.from.now c.args.to.now c.args.tomb in
    let law = c.what_came_of_a_fill.ensures in
    let came = c.take_gap.ensures.came in
    let source = c.requires.source in
    law.known S f q c.take_gap.result m n source.0 c.counts_in_range.ensures.range c.known.ensures.rule came source.1 source.2

pub returns-clause-stands : goal.returns-clause-stands
returns-clause-stands g c = λ writes stood said.
    let S = g.row.S in
    let f = c.args.filler.now.filler in
    let m = c.args.home.now in
    let n = c.take_gap.new.home in
    let q = OfGap c.args.from.now c.args.to.now c.args.tomb in
    let law = c.what_came_of_a_fill.ensures in
    let came = c.take_gap.ensures.came in
    law.stands S f q c.take_gap.result m n writes c.known.ensures.rule came stood said

pub returns-clause-filled : goal.returns-clause-filled
returns-clause-filled g c =
    let S = g.row.S in
    let f = c.args.filler.now.filler in
    let m = c.args.home.now in
    let n = c.take_gap.new.home in
    let q = OfGap c.args.from.now c.args.to.now c.args.tomb in
    let law = c.what_came_of_a_fill.ensures in
    let came = c.take_gap.ensures.came in
    let source = c.requires.source in
    let fill : IsCacheFill S f m f n = record { same = refl; done = law.done S f.chain f.pin q c.take_gap.result m n came } in
    taken-by S c.args.filler.now m n fill c.known.ensures.rule (c.a_fill_takes_no_segment.ensures.counts S f f m n fill c.counts_in_range.ensures.evicted c.counts_in_range.ensures.skipped)
    (c.a_fill_keeps_the_static_row_known.ensures.known S f f m n fill c.counts_in_range.ensures.evicted c.counts_in_range.ensures.skipped) source.0 source.1
    (law.stands S f q c.take_gap.result m n source.0 c.known.ensures.rule came source.1 source.2)
    (law.may S f.chain f.pin q c.take_gap.result m n came)
    (law.keeps S f q c.take_gap.result m n source.0 c.counts_in_range.ensures.range c.known.ensures.rule came source.1 source.2)
    (record { snapshot = law.there S f.chain f.pin q c.take_gap.result m n came c.requires.ready.snapshot; roomy = c.requires.ready.roomy })

pub returns-clause-loses : goal.returns-clause-loses
returns-clause-loses g c = c.take_gap.ensures.loses
