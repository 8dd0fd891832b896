use Rattle.std.proofs.Common.{arith}
use Rattle.rc_position.specs.Position.{row_pos}
use Rattle.rc_core.specs.Steps.{row_joined}
use Rattle.rc_schema.specs.Largest.{largest_entry}
use Rattle.rc_memtable.proofs.Ready.{ready-last, ready-number, row-fitting, row-key, row-limits, row-room, row-there}
use Rattle.rc_memtable.proofs.writing.write_row.Goals as goal

pub join_row-requires : goal.join_row-requires
join_row-requires g c =
    (omega arith, (row-key g.row.S c.requires.0 c.args.chains.now c.args.id c.args.number (largest_entry c.requires.0) c.requires.1 c.known.ensures.sound c.known.ensures.versions c.args.key.now c.args.row.now c.requires.2 c.requires.3, (row-limits g.row.S c.requires.0 c.args.chains.now c.args.id c.args.number (largest_entry c.requires.0) c.requires.1 c.known.ensures.sound c.known.ensures.versions c.args.key.now c.args.row.now c.requires.2 c.requires.3, (ready-number g.row.S c.requires.0 c.args.chains.now c.args.id c.args.number (largest_entry c.requires.0) c.requires.1 c.known.ensures.sound c.known.ensures.versions, (row-room g.row.S c.requires.0 c.args.chains.now c.args.id c.args.number (largest_entry c.requires.0) c.requires.1 c.known.ensures.sound c.known.ensures.versions c.args.key.now c.args.row.now c.requires.2 c.requires.3 (omega arith), (row-fitting g.row.S c.requires.0 c.args.chains.now c.args.id c.args.number (largest_entry c.requires.0) c.requires.1 c.known.ensures.sound c.known.ensures.versions c.args.key.now c.args.row.now c.requires.2 c.requires.3, ready-last g.row.S c.requires.0 c.args.chains.now c.args.id c.args.number (largest_entry c.requires.0) c.requires.1 c.known.ensures.sound c.known.ensures.versions (row_joined (row_pos c.args.key.now) c.args.row.now)))))))

pub returns : goal.returns
returns g c = row-there g.row.S c.requires.0 c.args.chains.now c.args.id c.args.number (largest_entry c.requires.0) c.requires.1 c.known.ensures.sound c.known.ensures.versions c.args.key.now c.args.row.now c.join_row.new.self c.join_row.ensures.joined c.join_row.ensures.recency
