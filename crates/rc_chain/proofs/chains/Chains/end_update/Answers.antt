use Rattle.std.proofs.Common.{◌-◌, Some, sym, ◌∙◌, arith}
use Rattle.rc_core.specs.Version.{end_position}
use Rattle.rc_memory.specs.Memory.{chain_at}
use Rattle.rc_memory.specs.Changes.{member_at}
use Rattle.rc_chain.proofs.Ended.{chain-one, end-may, end-off, ended-changed, ended-listed, last-listed, newest-of, sound-of, unended, version-two}
use Rattle.rc_chain.proofs.Reading.{some_of}
use Rattle.rc_chain.proofs.chains.Chains.end_update.Goals as goal

pub settle-requires : goal.settle-requires
settle-requires g c =
    let k = some_of (chain_at c.args.self.now c.args.id) c.requires in let u = sym (c.if-is_updating.ensures k.0 k.1) in let newest = newest-of c.versions-newest.result k.0 (c.versions-newest.ensures k.0 k.1) (sound-of c.args.self.now c.args.id k.0 k.1 c.known.ensures.sound) in let sound = sound-of c.args.self.now c.args.id k.0 k.1 c.known.ensures.sound in (omega arith, (chain-one c.args.self.now c.args.id (c.versions-newest.result - 1) k.0 k.1 u newest sound c.known.ensures.versions c.list_last.new.self c.list_last.ensures.listed c.list_last.ensures.there, last-listed c.args.self.now c.args.id (c.versions-newest.result - 1) k.0 k.1 u newest sound c.known.ensures.versions c.list_last.new.self c.list_last.ensures.listed c.list_last.ensures.there))

pub end_of-end-requires : goal.end_of-end-requires
end_of-end-requires g c =
    let k = some_of (chain_at c.args.self.now c.args.id) c.requires in let u = sym (c.if-is_updating.ensures k.0 k.1) in let newest = newest-of c.versions-newest.result k.0 (c.versions-newest.ensures k.0 k.1) (sound-of c.args.self.now c.args.id k.0 k.1 c.known.ensures.sound) in let sound = sound-of c.args.self.now c.args.id k.0 k.1 c.known.ensures.sound in (omega arith, version-two c.args.self.now c.args.id (c.versions-newest.result - 1) k.0 k.1 u newest sound c.known.ensures.versions c.list_last.new.self c.list_last.ensures.listed c.list_last.ensures.there c.known-then-is_updating.ensures.rule c.settle.new.self c.settle.ensures)

pub list-requires : goal.list-requires
list-requires g c =
    let k = some_of (chain_at c.args.self.now c.args.id) c.requires in let u = sym (c.if-is_updating.ensures k.0 k.1) in let newest = newest-of c.versions-newest.result k.0 (c.versions-newest.ensures k.0 k.1) (sound-of c.args.self.now c.args.id k.0 k.1 c.known.ensures.sound) in let sound = sound-of c.args.self.now c.args.id k.0 k.1 c.known.ensures.sound in (omega arith, (member_at c.args.id (c.versions-newest.result - 1) (Some end_position), c.end_of-end.ensures, end-off c.args.self.now c.args.id (c.versions-newest.result - 1) k.0 k.1 u newest sound c.known.ensures.versions c.list_last.new.self c.list_last.ensures.listed c.list_last.ensures.there c.known-then-is_updating.ensures.rule c.settle.new.self c.settle.ensures, end-may c.args.self.now c.args.id (c.versions-newest.result - 1) k.0 k.1 u newest sound c.known.ensures.versions c.list_last.new.self c.list_last.ensures.listed c.list_last.ensures.there c.known-then-is_updating.ensures.rule c.settle.new.self c.settle.ensures))

pub returns-then-is_updating-clause-ended : goal.returns-then-is_updating-clause-ended
returns-then-is_updating-clause-ended g c =
    λ k e. let u = sym (c.if-is_updating.ensures k e) in let sound = sound-of c.args.self.now c.args.id k e c.known.ensures.sound in let newest = newest-of c.versions-newest.result k (c.versions-newest.ensures k e) sound in
    let w = member_at c.args.id (c.versions-newest.result - 1) (Some end_position) in let three = c.list.ensures.listed w c.end_of-end.ensures in
    (_, ended-listed c.args.self.now c.args.id (c.versions-newest.result - 1) k e u newest sound c.known.ensures.versions c.list_last.new.self c.list_last.ensures.listed c.list_last.ensures.there c.known-then-is_updating.ensures.rule c.settle.new.self c.settle.ensures c.list_last.ensures.objects c.list_last.ensures.still c.list.new.self three c.list.ensures.objects c.list.ensures.still, ended-changed c.args.self.now c.args.id (c.versions-newest.result - 1) k e u newest sound c.known.ensures.versions c.list_last.new.self c.list_last.ensures.listed c.list_last.ensures.there c.known-then-is_updating.ensures.rule c.settle.new.self c.settle.ensures c.list_last.ensures.objects c.list_last.ensures.still c.list.new.self three c.list.ensures.objects c.list.ensures.still)

pub returns-else-is_updating-clause-ended : goal.returns-else-is_updating-clause-ended
returns-else-is_updating-clause-ended g c =
    λ k e. unended c.args.self.now c.args.id k e (sym (c.is_updating.ensures k e) ∙ c.if-is_updating.false)
