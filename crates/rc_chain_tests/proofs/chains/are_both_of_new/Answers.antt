use Rattle.std.proofs.Common.{arith}
use Rattle.rc_chain_tests.proofs.Pins.{made-at, made-attached, taken-of}
use Rattle.rc_chain_tests.proofs.chains.are_both_of_new.Goals as goal

pub snapshot-requires : goal.snapshot-requires
snapshot-requires c = (omega arith, made-attached _ c.new_chain.new.self c.in_ok-id.id _ _ _ _ c.in_ok-id.ensures.made)

pub are_both-seen-requires : goal.are_both-seen-requires
are_both-seen-requires c = taken-of c.a_taken_snapshot_is_there.ensures.pin c.new_chain.new.self c.snapshot.new.self c.in_ok-id.id _ (made-at _ c.new_chain.new.self c.in_ok-id.id _ _ _ _ c.in_ok-id.ensures.made) c.in_ok-snap.snap c.in_ok-snap.ensures.taken

pub release-requires : goal.release-requires
release-requires c = (omega arith, taken-of c.a_taken_snapshot_is_there.ensures.pin c.new_chain.new.self c.snapshot.new.self c.in_ok-id.id _ (made-at _ c.new_chain.new.self c.in_ok-id.id _ _ _ _ c.in_ok-id.ensures.made) c.in_ok-snap.snap c.in_ok-snap.ensures.taken)
