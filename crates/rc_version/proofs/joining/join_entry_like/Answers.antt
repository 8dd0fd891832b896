use Rattle.std.proofs.Common.{arith}
use Rattle.rc_version.specs.laws.Objects.{holds-stands}
use Rattle.rc_version.proofs.Gaps.{never-last}
use Rattle.rc_version.proofs.joining.join_entry_like.Goals as goal

pub find_like-requires : goal.find_like-requires
find_like-requires g c = (omega arith, ((c.requires.2, c.requires.7.version.tree), (c.requires.0.position, holds-stands c.args.region.now c.args.e c.requires.0 c.requires.4)))

pub join_like_onto-requires : goal.join_like_onto-requires
join_like_onto-requires g c = (omega arith, (c.requires, λ refs v y h held. c.in-Here.ensures refs y.position h.tree (holds-stands c.args.region.now c.args.e y held)))

pub join_like_before-requires : goal.join_like_before-requires
join_like_before-requires g c = (omega arith, (c.requires, λ refs v y h held. c.in-Before.ensures refs y.position h.tree (holds-stands c.args.region.now c.args.e y held)))

pub unreachable-requires : goal.unreachable-requires
unreachable-requires g c = never-last c.args.region.now c.args.v c.requires.2 c.requires.3 c.requires.0.position c.requires.7.version (c.in-Last.ensures c.requires.2 c.requires.0.position c.requires.7.version.tree (holds-stands c.args.region.now c.args.e c.requires.0 c.requires.4))
