use Rattle.std.proofs.Common.{sym, ◌∙◌, arith}
use Rattle.rc_memory.specs.Memory.{chain_at}
use Rattle.rc_chain.proofs.Ended.{newest-of, sound-of}
use Rattle.rc_chain.proofs.Relabelled.{newest-there, relabelled-attached, relabelled-detached}
use Rattle.rc_chain.proofs.Reading.{some_of}
use Rattle.rc_chain.proofs.chains.Chains.relabel_one.Goals as goal

pub set_phase-requires : goal.set_phase-requires
set_phase-requires g c =
    let k = some_of (chain_at c.args.self.now c.args.id) c.requires in (omega arith, newest-there c.args.self.now c.args.id k.0 k.1 c.versions-newest.result (c.versions-newest.ensures k.0 k.1) (sound-of c.args.self.now c.args.id k.0 k.1 c.known.ensures.sound))

pub returns-then-is_attached-clause-relabelled : goal.returns-then-is_attached-clause-relabelled
returns-then-is_attached-clause-relabelled g c =
    relabelled-attached c.args.to c.args.self.now c.set_phase.new.self c.args.id _ (λ k e. (sym (c.is_attached.ensures k e) ∙ c.if-is_attached.true, newest-of c.versions-newest.result k (c.versions-newest.ensures k e) (sound-of c.args.self.now c.args.id k e c.known.ensures.sound))) c.set_phase.ensures.set c.set_phase.ensures.recency

pub returns-else-is_attached-clause-relabelled : goal.returns-else-is_attached-clause-relabelled
returns-else-is_attached-clause-relabelled g c =
    let k = some_of (chain_at c.args.self.now c.args.id) c.requires in relabelled-detached c.args.to c.args.self.now c.args.self.now c.args.id k.0 k.1 (sym (c.is_attached.ensures k.0 k.1) ∙ c.if-is_attached.false)
