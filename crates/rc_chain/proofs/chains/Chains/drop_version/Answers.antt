use Rattle.std.proofs.Common.{Some, sym, ap, ◌∙◌, arith}
use Rattle.rc_core.specs.Version.{end_position}
use Rattle.rc_memory.specs.Memory.{Memory, chain_at}
use Rattle.rc_memory.specs.Changes.{member_at}
use Rattle.rc_chain.proofs.Dropping.{bare-has, bare-one, dropped-whole, end-free, nothing-one}
use Rattle.rc_chain.proofs.chains.Chains.drop_version.Goals as goal

pub end_of-end-requires : goal.end_of-end-requires
end_of-end-requires g c =
    (omega arith, bare-has c.args.self.now c.args.id c.args.number c.requires.bare)

pub take-requires : goal.take-requires
take-requires g c =
    (omega arith, ((member_at c.args.id c.args.number (Some end_position)), c.end_of-end.ensures, end-free c.args.self.now c.args.id c.args.number))

pub drop_bare-requires : goal.drop_bare-requires
drop_bare-requires g c =
    let t = c.take.ensures.taken (member_at c.args.id c.args.number (Some end_position)) c.end_of-end.ensures in (omega arith, (bare-one c.args.self.now c.args.id c.args.number c.known.ensures.rule c.known.ensures.versions c.requires.bare t.0 t.1 c.take.new.self t.2 c.take.ensures.objects c.take.ensures.still, (nothing-one c.args.self.now c.args.id c.args.number c.known.ensures.rule c.known.ensures.versions c.requires.bare t.0 t.1 c.take.new.self t.2 c.take.ensures.objects c.take.ensures.still, λ k e. c.requires.free k (ap (λ (m : Memory). chain_at m c.args.id) (sym t.2) ∙ e))))

pub returns-clause-dropped : goal.returns-clause-dropped
returns-clause-dropped g c =
    let t = c.take.ensures.taken (member_at c.args.id c.args.number (Some end_position)) c.end_of-end.ensures in dropped-whole c.args.self.now c.args.id c.args.number c.known.ensures.rule c.known.ensures.versions c.requires.bare t.0 t.1 c.take.new.self t.2 c.take.ensures.objects c.take.ensures.still c.drop_bare.new.self c.drop_bare.ensures.dropped
