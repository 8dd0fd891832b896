use Rattle.std.proofs.Common.{arith}
use Rattle.rc_core.specs.Continuity.{fill_statics}
use Rattle.rc_populate.specs.Filling.{filled_statics}
use Rattle.rc_populate.specs.laws.Filled.{filled-pins, may-fill}
use Rattle.rc_cache_tests.proofs.Snaps.{fits-there, pin-of, some-version, source-there}
use Rattle.rc_cache_tests.proofs.populate.fill.Goals as goal

pub fill_static-requires : goal.fill_static-requires
fill_static-requires c =
    let m = c.args.chains.now in let id = c.args.snap.now.chain in let pin = c.args.snap.now.pin in let row = c.args.row.now in
    let p = pin-of m id pin c.requires.pin in let small = c.requires.small in let spare = c.requires.spare in
    (omega arith, (may-fill m id pin p.1 p.0 p.2 p.3 ((c.may_fill.ensures p.0 p.1 p.2 p.3).0 c.if-not-may_fill.false), (c.requires.row, (omega (arith, small), (source-there m id pin c.requires.bare row c.row_in_range.ensures.ascending, (fits-there m id pin c.requires.bare row c.row_in_range.ensures.ascending c.known.ensures.fit (omega (arith, small)), omega (arith, small, spare)))))))

pub returns : goal.returns
returns c =
    let m = c.args.chains.now in let id = c.args.snap.now.chain in let pin = c.args.snap.now.pin in
    let p = pin-of m id pin c.requires.pin in let v = some-version p.0 p.1 ((c.may_fill.ensures p.0 p.1 p.2 p.3).0 c.if-not-may_fill.false) in
    filled-pins id (fill_statics (filled_statics c.args.row.now)) m c.fill_static.new.chains (c.fill_static.ensures.filled p.0 p.1 v.0 p.2 p.3 v.1).chains id pin c.requires.pin
