use Rattle.std.proofs.Common.{arith}
use Rattle.rc_core.specs.Version.{Version}
use Rattle.rc_memory.specs.Memory.{KeptChain}
use Rattle.rc_chain.specs.Marked.{HasMarksAt}
use Rattle.rc_chain.proofs.Changing.{member-entry, of-version}
use Rattle.rc_chain.proofs.Reading.{memory-now}
use Rattle.rc_chain.proofs.chains.Chains.marks.Goals as goal

pub marks-requires : goal.marks-requires
marks-requires g c =
    let s = c.self.inside in let n = memory-now g.row.S s.recency s.region s.registry s.counts s.memory c.args.self.now c.self.view_is c.self.invariant.0 c.self.invariant.1 in
    let q = c.requires in let y = member-entry s.recency s.region s.registry s.counts c.args.self.now n.held c.args.e q.0 q.1 q.2 q.3 in (omega arith, (y.entry, y.held))

pub returns : goal.returns
returns g c = λ w x is here.
    let s = c.self.inside in let n = memory-now g.row.S s.recency s.region s.registry s.counts s.memory c.args.self.now c.self.view_is c.self.invariant.0 c.self.invariant.1 in
    let y = member-entry s.recency s.region s.registry s.counts c.args.self.now n.held c.args.e w x is here in let told = c.marks.ensures y.entry y.held in
    of-version c.args.self.now w.chain w.version (λ (k : KeptChain) (v : Version). HasMarksAt x c.marks.result.0 c.marks.result.1 v) y.chain y.version y.there y.number
    (record { entry = y.entry; among = y.among; position = y.position; mark = told.0; gap_mark = told.1 })
