use Rattle.std.proofs.Common.{refl, arith}
use Rattle.rc_populate.specs.Filling.{chain_opened, filled_statics}
use Rattle.rc_cache_tests.proofs.Snaps.{found-is, opened-at, taken-there}
use Rattle.rc_cache_tests.proofs.populate.is_opened.Goals as goal

pub snapshot-requires : goal.snapshot-requires
snapshot-requires c = (omega arith, found-is c.open_entry.new.chains c.in_ok-id.id (chain_opened c.args.head.now.pt (filled_statics c.args.head.now.statics) 7) (opened-at c.args.chains.now c.open_entry.new.chains c.in_ok-id.id 7 c.args.head.now.pt (filled_statics c.args.head.now.statics) c.in_ok-id.ensures.opened) refl)

pub shows-seen-requires : goal.shows-seen-requires
shows-seen-requires c = let t = c.in_ok-snap.ensures.taken in
    taken-there c.open_entry.new.chains c.snapshot.new.self c.in_ok-id.id c.in_ok-snap.snap.chain c.in_ok-snap.snap.pin c.in_ok-snap.snap.phase (chain_opened c.args.head.now.pt (filled_statics c.args.head.now.statics) 7) (opened-at c.args.chains.now c.open_entry.new.chains c.in_ok-id.id 7 c.args.head.now.pt (filled_statics c.args.head.now.statics) c.in_ok-id.ensures.opened) t.0 t.1

pub release-requires : goal.release-requires
release-requires c = let t = c.in_ok-snap.ensures.taken in
    (omega arith, taken-there c.open_entry.new.chains c.snapshot.new.self c.in_ok-id.id c.in_ok-snap.snap.chain c.in_ok-snap.snap.pin c.in_ok-snap.snap.phase (chain_opened c.args.head.now.pt (filled_statics c.args.head.now.statics) 7) (opened-at c.args.chains.now c.open_entry.new.chains c.in_ok-id.id 7 c.args.head.now.pt (filled_statics c.args.head.now.statics) c.in_ok-id.ensures.opened) t.0 t.1)
