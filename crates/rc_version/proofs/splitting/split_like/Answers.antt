use Rattle.std.proofs.Common.{arith}
use Rattle.rc_version.specs.laws.Objects.{holds-stands}
use Rattle.rc_version.proofs.Gaps.{at-once, never-last}
use Rattle.rc_version.proofs.splitting.split_like.Goals as goal

pub find_like-requires : goal.find_like-requires
find_like-requires g c = (omega arith, ((c.requires.version.0, c.requires.version.2.tree), (c.requires.room.0.position, holds-stands c.args.region.now c.args.e c.requires.room.0 c.requires.room.1)))

pub unreachable-requires : goal.unreachable-requires
unreachable-requires g c = never-last c.args.region.now c.args.v c.requires.version.0 c.requires.version.1 c.requires.room.0.position c.requires.version.2
    (c.in-Last.ensures c.requires.version.0 c.requires.room.0.position c.requires.version.2.tree (holds-stands c.args.region.now c.args.e c.requires.room.0 c.requires.room.1))

pub split_like_before-requires : goal.split_like_before-requires
split_like_before-requires g c = (omega arith, (c.requires.room, (c.requires.version, λ refs v y h held. c.in-Before.ensures refs y.position h.tree (holds-stands c.args.region.now c.args.e y held))))

pub returns-in-Here-clause-split : goal.returns-in-Here-clause-split
returns-in-Here-clause-split g c = λ y held. at-once g.row.S c.args.region.now c.args.v c.in-Here.r y.position c.known.ensures.well
    (λ refs v h. c.in-Here.ensures refs y.position h.tree (holds-stands c.args.region.now c.args.e y held)) c.requires.version.0 c.requires.version.1 c.requires.version.2
