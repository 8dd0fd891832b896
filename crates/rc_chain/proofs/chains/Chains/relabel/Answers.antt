use Rattle.rc_chain.proofs.Relabelled.{relabelled-all, relabelled-smaller, relabelled-start, relabelled-step, none-of}
use Rattle.rc_chain.proofs.chains.Chains.relabel.Goals as goal

pub loop-id-init : goal.loop-id-init
loop-id-init g c =
    relabelled-start g.row.S c.args.to c.args.self.now

pub loop-id-smaller : goal.loop-id-smaller
loop-id-smaller g c =
    relabelled-smaller g.row.S c.args.to c.args.self.now c.loop-id.self c.loop-id.after c.loop-id.invariant c.in-Some.id c.in-Some.ensures.next c.relabel_one.new.self c.relabel_one.ensures.relabelled c.relabel_one.ensures.spare

pub loop-id-preserved : goal.loop-id-preserved
loop-id-preserved g c =
    relabelled-step g.row.S c.args.to c.args.self.now c.loop-id.self c.loop-id.after c.loop-id.invariant c.in-Some.id c.in-Some.ensures.next c.relabel_one.new.self c.relabel_one.ensures.relabelled c.relabel_one.ensures.spare

pub returns-clause-relabelled : goal.returns-clause-relabelled
returns-clause-relabelled g c =
    relabelled-all g.row.S c.args.to c.args.self.now c.loop-id.self c.loop-id.after c.loop-id.invariant (none-of c.next_chain.result _ c.in_default.not-Some c.next_chain.ensures.none)

pub returns-clause-spare : goal.returns-clause-spare
returns-clause-spare g c =
    c.loop-id.invariant.spare
