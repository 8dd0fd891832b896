use Rattle.std.proofs.Common.{arith}
use Rattle.rc_schema.specs.Largest.{largest_static}
use Rattle.rc_memtable.proofs.Ready.{ready-number, static-fitting, static-limits, static-room, static-there}
use Rattle.rc_memtable.proofs.writing.write_static.Goals as goal

pub join_static-requires : goal.join_static-requires
join_static-requires g c =
    (omega arith, (static-limits g.row.S c.requires.0 c.args.chains.now c.args.id c.args.number (largest_static c.requires.0) c.requires.1 c.known.ensures.sound c.known.ensures.versions c.args.row.now c.requires.2 c.requires.3, (ready-number g.row.S c.requires.0 c.args.chains.now c.args.id c.args.number (largest_static c.requires.0) c.requires.1 c.known.ensures.sound c.known.ensures.versions, (static-room g.row.S c.requires.0 c.args.chains.now c.args.id c.args.number (largest_static c.requires.0) c.requires.1 c.known.ensures.sound c.known.ensures.versions c.args.row.now c.requires.2 c.requires.3 (omega arith), static-fitting g.row.S c.requires.0 c.args.chains.now c.args.id c.args.number (largest_static c.requires.0) c.requires.1 c.known.ensures.sound c.known.ensures.versions c.args.row.now c.requires.2 c.requires.3))))

pub returns : goal.returns
returns g c = static-there g.row.S c.requires.0 c.args.chains.now c.args.id c.args.number (largest_static c.requires.0) c.requires.1 c.known.ensures.sound c.known.ensures.versions c.args.row.now c.join_static.new.self c.join_static.ensures.joined c.join_static.ensures.recency
