use Rattle.std.proofs.Common.{Some, arith}
use Rattle.rc_core.specs.Version.{end_position}
use Rattle.rc_memory.specs.Changes.{member_at}
use Rattle.rc_chain.proofs.Dropping.{made-may, made-off, made-version, made-whole}
use Rattle.rc_chain.proofs.chains.Chains.new_chain.Goals as goal

pub end_of-end-requires : goal.end_of-end-requires
end_of-end-requires g c =
    (omega arith, made-version c.args.self.now c.make_chain.new.self c.in_ok-id.id c.args.kind c.args.pt c.args.phase c.in_ok-id.ensures.made)

pub list-requires : goal.list-requires
list-requires g c =
    let a = c.in_ok-id.ensures.made in (omega arith, (member_at c.in_ok-id.id 0 (Some end_position), c.end_of-end.ensures, made-off c.args.self.now c.make_chain.new.self c.in_ok-id.id c.args.kind c.args.pt c.args.phase a c.known.ensures.rule, made-may c.args.self.now c.make_chain.new.self c.in_ok-id.id c.args.kind c.args.pt c.args.phase a c.in-Cache.is))

pub returns-in-Cache-clause-made : goal.returns-in-Cache-clause-made
returns-in-Cache-clause-made g c =
    made-whole c.args.self.now c.make_chain.new.self c.in_ok-id.id c.args.kind c.args.pt c.args.phase c.in_ok-id.ensures.made c.in-Cache.is c.list.new.self (c.list.ensures.listed (member_at c.in_ok-id.id 0 (Some end_position)) c.end_of-end.ensures) c.list.ensures.objects c.list.ensures.still
