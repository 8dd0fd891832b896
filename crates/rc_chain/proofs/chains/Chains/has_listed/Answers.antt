use Rattle.std.proofs.Common.{◌≡◌, ◌<◌, false, Some, length, arith}
use Rattle.rc_core.specs.declared.entries.ChainKind.TheVariants.{Cache}
use Rattle.rc_core.specs.Version.{end_position}
use Rattle.rc_memory.specs.Memory.{KeptChain, chain_at}
use Rattle.rc_memory.specs.Changes.{member_at}
use Rattle.rc_memory.specs.laws.At.{number-there}
use Rattle.rc_chain.proofs.Bare.{some-chain}
use Rattle.rc_chain.proofs.Dropping.{cached-has, more-listed, none-of-bare}
use Rattle.rc_chain.proofs.Ended.{true-false}
use Rattle.rc_chain.proofs.chains.Chains.has_listed.Goals as goal

pub has_more-requires : goal.has_more-requires
has_more-requires g c =
    (omega arith, cached-has c.args.self.now c.args.id c.args.number c.requires)

pub end_of-end-requires : goal.end_of-end-requires
end_of-end-requires g c =
    (omega arith, cached-has c.args.self.now c.args.id c.args.number c.requires)

pub returns-then-has_more-clause-some : goal.returns-then-has_more-clause-some
returns-then-has_more-clause-some g c =
    λ t. let k = some-chain (chain_at c.args.self.now c.args.id) (λ (k : KeptChain). (k.chain.kind ≡ Cache) × (k.chain.updating ≡ false) × (c.args.number < length k.chain.versions)) c.requires in let v = number-there k.0.chain.versions c.args.number k.2.2 in let x = c.has_more.ensures.more c.if-has_more.true k.0 v.0 k.1 v.1 in
    (x.0, more-listed c.args.self.now c.args.id c.args.number c.known.ensures.rule c.known.ensures.versions k.0 v.0 x.0 k.1 v.1 k.2.0 k.2.1 x.1 x.2)

pub returns-clause-none : goal.returns-clause-none
returns-clause-none g c =
    λ f. none-of-bare c.args.self.now c.args.id c.args.number c.known.ensures.rule c.known.ensures.versions (c.has_more.ensures.bare c.if-has_more.false) (λ on. true-false c.is_listed.result ((c.is_listed.ensures (member_at c.args.id c.args.number (Some end_position)) c.end_of-end.ensures).1 on) f)

pub returns-clause-bare : goal.returns-clause-bare
returns-clause-bare g c =
    λ f. c.has_more.ensures.bare c.if-has_more.false

pub returns-clause-some : goal.returns-clause-some
returns-clause-some g c =
    λ t. (Some end_position, (c.is_listed.ensures (member_at c.args.id c.args.number (Some end_position)) c.end_of-end.ensures).0 t)
