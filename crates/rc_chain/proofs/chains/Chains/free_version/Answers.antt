use Rattle.std.proofs.Common.{Some, inl, inr, arith}
use Rattle.rc_core.specs.Version.{end_position}
use Rattle.rc_memory.specs.Changes.{member_at}
use Rattle.rc_chain.proofs.Dropping.{bare-has, end-free, nothing-one}
use Rattle.rc_chain.proofs.Freeing.{bare-chain, free-can, free-older, last-bare, last-dropped, last-free}
use Rattle.rc_chain.proofs.chains.Chains.free_version.Goals as goal

pub versions-requires : goal.versions-requires
versions-requires g c =
    (omega arith, bare-chain c.args.self.now c.args.id c.requires.bare c.requires.free)

pub drop_version-requires : goal.drop_version-requires
drop_version-requires g c =
    (omega arith, (c.requires.bare, (free-can c.args.self.now c.args.id c.requires.bare c.requires.free c.versions.result c.versions.ensures (let more = c.if-versions-gt1.true in omega (arith, more)), free-older c.args.self.now c.args.id c.requires.bare c.requires.free c.versions.result c.versions.ensures (let more = c.if-versions-gt1.true in omega (arith, more)))))

pub end_of-end-requires : goal.end_of-end-requires
end_of-end-requires g c =
    (omega arith, bare-has c.args.self.now c.args.id 0 c.requires.bare)

pub take-requires : goal.take-requires
take-requires g c =
    (omega arith, ((member_at c.args.id 0 (Some end_position)), c.end_of-end.ensures, end-free c.args.self.now c.args.id 0))

pub close-requires : goal.close-requires
close-requires g c =
    let t = c.take.ensures.taken (member_at c.args.id 0 (Some end_position)) c.end_of-end.ensures in (omega arith, (last-bare c.args.self.now c.args.id c.requires.bare c.requires.free c.versions.result c.versions.ensures (λ more. let few = c.if-versions-gt1.false in omega (arith, few, more)) t.0 c.take.new.self t.2, (nothing-one c.args.self.now c.args.id 0 c.known.ensures.rule c.known.ensures.versions c.requires.bare t.0 t.1 c.take.new.self t.2 c.take.ensures.objects c.take.ensures.still, last-free c.args.self.now c.args.id c.requires.bare c.requires.free c.versions.result c.versions.ensures (λ more. let few = c.if-versions-gt1.false in omega (arith, few, more)) t.0 c.take.new.self t.2)))

pub returns-then-versions-gt1-clause-freed : goal.returns-then-versions-gt1-clause-freed
returns-then-versions-gt1-clause-freed g c =
    inl c.drop_version.ensures.dropped

pub returns-else-versions-gt1-clause-freed : goal.returns-else-versions-gt1-clause-freed
returns-else-versions-gt1-clause-freed g c =
    let t = c.take.ensures.taken (member_at c.args.id 0 (Some end_position)) c.end_of-end.ensures in inr (last-dropped c.args.self.now c.args.id c.requires.bare c.requires.free c.versions.result c.versions.ensures (λ more. let few = c.if-versions-gt1.false in omega (arith, few, more)) t.0 c.take.new.self t.2 t.1 c.take.ensures.objects c.take.ensures.still c.close.new.self c.close.ensures.dropped)
