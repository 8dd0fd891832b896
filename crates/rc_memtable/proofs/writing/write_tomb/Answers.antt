use Rattle.std.proofs.Common.{arith}
use Rattle.rc_memtable.proofs.Ready.{pt-there, ready-number}
use Rattle.rc_memtable.proofs.writing.write_tomb.Goals as goal

pub join_pt-requires : goal.join_pt-requires
join_pt-requires g c = (omega arith, ready-number g.row.S c.requires.0 c.args.chains.now c.args.id c.args.number 0 c.requires.1 c.known.ensures.sound c.known.ensures.versions)

pub returns : goal.returns
returns g c = pt-there g.row.S c.requires.0 c.args.chains.now c.args.id c.args.number 0 c.requires.1 c.known.ensures.sound c.known.ensures.versions c.args.tomb c.join_pt.new.self c.join_pt.ensures.joined c.join_pt.ensures.recency
