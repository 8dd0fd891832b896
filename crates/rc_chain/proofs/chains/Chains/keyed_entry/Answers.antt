use Rattle.std.proofs.Common.{arith}
use Rattle.rc_position.specs.Position.{row_pos}
use Rattle.rc_chain.proofs.Ending.{held-whole}
use Rattle.rc_chain.proofs.Reading.{memory-now}
use Rattle.rc_chain.proofs.Touching.{entry-told}
use Rattle.rc_chain.proofs.chains.Chains.keyed_entry.Goals as goal

pub entry_at_key-requires : goal.entry_at_key-requires
entry_at_key-requires g c =
    let s = c.self.inside in let n = memory-now g.row.S s.recency s.region s.registry s.counts s.memory c.args.self.now c.self.view_is c.self.invariant.0 c.self.invariant.1 in
    (omega arith, held-whole s.recency s.region s.registry s.counts c.args.self.now n.held c.args.id c.args.number c.version-v.result c.requires c.version-v.ensures)

pub returns : goal.returns
returns g c =
    let s = c.self.inside in let n = memory-now g.row.S s.recency s.region s.registry s.counts s.memory c.args.self.now c.self.view_is c.self.invariant.0 c.self.invariant.1 in
    entry-told s.recency s.region s.registry s.counts c.args.self.now n.held c.args.id c.args.number c.version-v.result c.requires c.version-v.ensures (row_pos c.args.key.now) c.entry_at_key.result c.entry_at_key.ensures
