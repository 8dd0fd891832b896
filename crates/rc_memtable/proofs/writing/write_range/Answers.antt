use Rattle.std.proofs.Common.{◌*◌, arith}
use Rattle.rc_schema.specs.Largest.{largest_entry}
use Rattle.rc_memtable.proofs.Ready.{bound-key, bound-small, range-room, range-there, ready-listed, ready-number}
use Rattle.rc_memtable.proofs.writing.write_range.Goals as goal

pub join_range-requires : goal.join_range-requires
join_range-requires g c =
    (omega arith, (c.requires.4, ((bound-key g.row.S c.requires.0 c.args.chains.now c.args.id c.args.number (2 * largest_entry c.requires.0) c.requires.1 c.known.ensures.sound c.known.ensures.versions c.args.from.now c.requires.2, bound-key g.row.S c.requires.0 c.args.chains.now c.args.id c.args.number (2 * largest_entry c.requires.0) c.requires.1 c.known.ensures.sound c.known.ensures.versions c.args.to.now c.requires.3), (ready-number g.row.S c.requires.0 c.args.chains.now c.args.id c.args.number (2 * largest_entry c.requires.0) c.requires.1 c.known.ensures.sound c.known.ensures.versions, ((bound-small g.row.S c.requires.0 c.args.chains.now c.args.id c.args.number (2 * largest_entry c.requires.0) c.requires.1 c.known.ensures.sound c.known.ensures.versions c.args.from.now c.requires.2, bound-small g.row.S c.requires.0 c.args.chains.now c.args.id c.args.number (2 * largest_entry c.requires.0) c.requires.1 c.known.ensures.sound c.known.ensures.versions c.args.to.now c.requires.3), (range-room g.row.S c.requires.0 c.args.chains.now c.args.id c.args.number (2 * largest_entry c.requires.0) c.requires.1 c.known.ensures.sound c.known.ensures.versions c.args.from.now c.args.to.now c.requires.2 c.requires.3 (omega arith), ready-listed g.row.S c.requires.0 c.args.chains.now c.args.id c.args.number (2 * largest_entry c.requires.0) c.requires.1 c.known.ensures.sound c.known.ensures.versions))))))

pub returns : goal.returns
returns g c = range-there g.row.S c.requires.0 c.args.chains.now c.args.id c.args.number (2 * largest_entry c.requires.0) c.requires.1 c.known.ensures.sound c.known.ensures.versions c.args.from.now c.args.to.now c.args.tomb c.join_range.new.self c.join_range.ensures.joined c.join_range.ensures.recency
