use Rattle.std.proofs.Common.{arith}
use Rattle.rc_core.specs.Steps.{gap_filled}
use Rattle.rc_populate.specs.laws.Filled.{filled-pins, may-fill}
use Rattle.rc_cache_tests.proofs.Snaps.{pin-of, some-version}
use Rattle.rc_cache_tests.proofs.populate.fill_between.Goals as goal

pub fill_gap-requires : goal.fill_gap-requires
fill_gap-requires c =
    let m = c.args.chains.now in let id = c.args.snap.now.chain in let pin = c.args.snap.now.pin in
    let p = pin-of m id pin c.requires.pin in let small = c.requires.small in let spare = c.requires.spare in
    (omega arith, (may-fill m id pin p.1 p.0 p.2 p.3 ((c.may_fill.ensures p.0 p.1 p.2 p.3).0 c.if-not-may_fill.false), (c.requires.ascend, (c.requires.limits, ((omega (arith, small.0), omega (arith, small.1)), omega (arith, small.0, small.1, spare))))))

pub returns : goal.returns
returns c =
    let m = c.args.chains.now in let id = c.args.snap.now.chain in let pin = c.args.snap.now.pin in
    let p = pin-of m id pin c.requires.pin in let v = some-version p.0 p.1 ((c.may_fill.ensures p.0 p.1 p.2 p.3).0 c.if-not-may_fill.false) in
    filled-pins id (gap_filled c.args.from.now c.args.to.now c.args.tomb) m c.fill_gap.new.chains (c.fill_gap.ensures.filled p.0 p.1 v.0 p.2 p.3 v.1).chains id pin c.requires.pin
