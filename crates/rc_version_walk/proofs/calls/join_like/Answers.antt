use Rattle.std.proofs.Common.{subst}
use Rattle.rc_version_walk.specs.Walking.{IsInnerOf}
use Rattle.rc_version_walk.proofs.Pairs.{pair-swapped}
use Rattle.rc_version_walk.proofs.calls.join_like.Goals as goal

pub version_in-w-requires : goal.version_in-w-requires
version_in-w-requires c = let p = c.has_room.ensures.pair in (p.1, p.0, pair-swapped c.args.this c.args.other c.has_room.new.region p.0 p.1 p.2)

pub join_entry-requires-clause-entry : goal.join_entry-requires-clause-entry
join_entry-requires-clause-entry c = subst (IsInnerOf c.has_room.new.region c.version_in-w.result) c.in-Some.is c.inner_entry_from.ensures
