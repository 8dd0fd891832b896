use Rattle.std.proofs.Common.{sym, subst, arith}
use Rattle.rc_chain_guarded.proofs.Wholes.{chain-there, known-over_less, over-fresh}
use Rattle.rc_chain_guarded.specs.calls.Inner.{IsBegun}
use Rattle.rc_chain_guarded.proofs.lives.begin_update.Goals as goal

pub add_version-requires : goal.add_version-requires
add_version-requires c =
    let room = c.has_room.ensures.room c.if-not-has_room.false in let yes = c.if-not-may_add.false in
    (omega arith, (c.may_add.ensures.there yes, (c.may_add.ensures.settled yes, (c.may_add.ensures.found yes, (omega arith, omega (arith, room))))))

pub returns-clause-known : goal.returns-clause-known
returns-clause-known c =
    let m = c.has_room.new.chains in let n = c.add_version.new.self in let k = chain-there m c.args.id (c.may_add.ensures.there c.if-not-may_add.false) in
    known-over_less m n c.args.id c.args.phase k.0 k.1 c.add_version.ensures.added.chains c.args.known.now c.forget.new.self c.has_room.ensures.known c.forget.ensures.held c.forget.ensures.full c.forget.ensures.bare

pub returns-clause-fresh : goal.returns-clause-fresh
returns-clause-fresh c =
    let m = c.has_room.new.chains in let n = c.add_version.new.self in let k = chain-there m c.args.id (c.may_add.ensures.there c.if-not-may_add.false) in
    subst (λ j. IsBegun c.args.id j c.args.phase n) (sym (c.versions-number.ensures k.0 k.1)) (over-fresh m n c.args.id c.args.phase k.0 k.1 c.add_version.ensures.added.chains (c.is_cache_chain.ensures c.if-not-is_cache_chain.false k.0 k.1))
