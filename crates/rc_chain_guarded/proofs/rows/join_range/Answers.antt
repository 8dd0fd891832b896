use Rattle.std.proofs.Common.{arith}
use Rattle.rc_chain_guarded.proofs.Steps.{known-changed}
use Rattle.rc_chain_guarded.proofs.Fitting.{limits-ranged, ranged-listed, ranged-only}
use Rattle.rc_chain_guarded.proofs.Limits.{dummy-small}
use Rattle.rc_core.specs.Steps.{range_joined}
use Rattle.rc_chain_guarded.proofs.rows.join_range.Goals as goal

pub join_range-requires : goal.join_range-requires
join_range-requires c =
    let one = dummy-small c.args.from.now c.requires.from in let two = dummy-small c.args.to.now c.requires.to in let room = c.has_room.ensures.room c.if-not-has_room.false in let yes = c.if-not-may_join.false in
    (omega arith, (c.requires.ascend, ((c.requires.from, c.requires.to), (c.may_join.ensures.there yes, ((omega (arith, one), omega (arith, two)), (omega (arith, one, two, room), c.may_join.ensures.last yes))))))

pub returns : goal.returns
returns c =
    let m = c.has_room.new.chains in let n = c.join_range.new.self in let id = c.args.at.chain in let j = c.args.at.version in let from = c.args.from.now in let to = c.args.to.now in let tomb = c.args.tomb in
    let has = c.may_join.ensures.there c.if-not-may_join.false in
    known-changed m n id j (range_joined from to tomb) c.join_range.ensures.joined.chains has c.args.known.now c.forget_bare.new.self c.has_room.ensures.known c.forget_bare.ensures.held c.forget_bare.ensures.full c.forget_bare.ensures.bare
    (λ v h. limits-ranged from to tomb v c.requires.from c.requires.to h) (ranged-listed m n id j from to tomb has c.join_range.ensures.recency) (ranged-only m n id j from to tomb has c.join_range.ensures.recency c.known.ensures.sound)
