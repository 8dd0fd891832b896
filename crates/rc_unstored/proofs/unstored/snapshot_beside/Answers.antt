use Rattle.rc_unstored.proofs.Taking.{any-beside, any-seen, ok-same, ok-sees}
use Rattle.rc_unstored.proofs.unstored.snapshot_beside.Goals as goal

pub returns-clause-sees : goal.returns-clause-sees
returns-clause-sees g c =
    ok-sees c.args.chains.now c.snapshot.new.chains c.args.memtable.now c.args.key.now c.snapshot.result c.snapshot.ensures.none c.snapshot.ensures.some c.a_snapshot_can_be_read.ensures.memtable c.snapshot.ensures.sees c.snapshot.ensures.stands

pub returns-clause-same : goal.returns-clause-same
returns-clause-same g c = ok-same c.args.chains.now c.snapshot.new.chains c.args.memtable.now c.args.key.now c.snapshot.result c.snapshot.ensures.none c.snapshot.ensures.some

pub returns-clause-beside : goal.returns-clause-beside
returns-clause-beside g c =
    any-beside c.args.chains.now c.snapshot.new.chains c.args.memtable.now c.args.key.now c.snapshot.result c.snapshot.ensures.none c.snapshot.ensures.some c.snapshot.ensures.err c.args.other.now

pub returns-clause-seen : goal.returns-clause-seen
returns-clause-seen g c =
    any-seen c.args.chains.now c.snapshot.new.chains c.args.memtable.now c.args.key.now c.snapshot.result c.snapshot.ensures.none c.snapshot.ensures.some c.snapshot.ensures.err
