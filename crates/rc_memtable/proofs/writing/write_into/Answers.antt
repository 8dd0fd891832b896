use Rattle.std.proofs.Common.{arith}
use Rattle.rc_memtable.specs.Writes.{joined_need}
use Rattle.rc_memtable.proofs.Steps.{opened-written}
use Rattle.rc_memtable.proofs.writing.write_into.Goals as goal

pub write_newest-requires : goal.write_newest-requires
write_newest-requires g c =
    let r = c.requires.1 in
    let k = c.open_newest-number.ensures.opened.grown r.kept.0 r.kept.2 in
    (omega arith, (c.requires.0, record { limits = r.limits; small = r.small; kept = (k.0, r.kept.1, k.1, k.3, k.4 c.requires.0 r.kept.1 r.kept.3); spare = c.open_newest-number.ensures.spare (joined_need c.requires.0 c.args.change.now) r.joined r.version }, r.single, r.fits))

pub returns-clause-live : goal.returns-clause-live
returns-clause-live g c = c.known.ensures.live

pub returns-clause-written : goal.returns-clause-written
returns-clause-written g c schema fits =
    opened-written g.row.S schema c.args.id c.open_newest-number.result c.args.change.now c.args.chains.now c.open_newest-number.new.chains c.write_newest.new.chains c.open_newest-number.ensures.opened (c.write_newest.ensures schema fits)
