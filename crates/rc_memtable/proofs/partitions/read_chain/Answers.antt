use Rattle.std.proofs.Common.{arith}
use Rattle.rc_memtable.proofs.Seen.{pin-there}
use Rattle.rc_memtable.proofs.Taken.{is-seen, say-changes, stands-back, taken-back}
use Rattle.rc_memtable.proofs.partitions.read_chain.Goals as goal

pub read_mutation-read-requires : goal.read_mutation-read-requires
read_mutation-read-requires g c =
    let r = c.requires in
    let snap = c.in_ok-snap.snap in
    let taken = c.in_ok-snap.ensures.taken in (
      omega arith,
      (
        r.0,
        r.2.chain.versions,
        r.1,
        is-seen c.args.chains.now c.snapshot.new.self c.args.id snap.chain snap.pin snap.phase taken.0 taken.1 c.known.ensures.sound r.0 r.1 r.2 r.3 r.4,
        say-changes c.args.chains.now c.args.id r.0 r.1 r.2 r.3 r.4 c.known.ensures.sound c.known.ensures.versions,
      ),
    )

pub release-requires : goal.release-requires
release-requires g c =
    let r = c.requires in
    let snap = c.in_ok-snap.snap in
    let taken = c.in_ok-snap.ensures.taken in
    (omega arith, pin-there c.snapshot.new.self snap.chain snap.pin r.2.chain.versions (is-seen c.args.chains.now c.snapshot.new.self c.args.id snap.chain snap.pin snap.phase taken.0 taken.1 c.known.ensures.sound r.0 r.1 r.2 r.3 r.4))

pub returns-clause-said : goal.returns-clause-said
returns-clause-said g c schema changes k e keeps =
    let snap = c.in_ok-snap.snap in
    let taken = c.in_ok-snap.ensures.taken in
    c.read_mutation-read.ensures schema k.chain.versions changes
    (is-seen c.args.chains.now c.snapshot.new.self c.args.id snap.chain snap.pin snap.phase taken.0 taken.1 c.known.ensures.sound schema changes k e keeps)
    (say-changes c.args.chains.now c.args.id schema changes k e keeps c.known.ensures.sound c.known.ensures.versions)

pub returns-clause-stands : goal.returns-clause-stands
returns-clause-stands g c schema keys writes h =
    let snap = c.in_ok-snap.snap in
    let taken = c.in_ok-snap.ensures.taken in
    stands-back c.args.chains.now c.snapshot.new.self c.args.id snap.chain snap.pin snap.phase taken.0 taken.1 c.known.ensures.sound c.release.new.self c.release.ensures schema keys writes h

pub returns-clause-left : goal.returns-clause-left
returns-clause-left g c =
    let snap = c.in_ok-snap.snap in
    let taken = c.in_ok-snap.ensures.taken in
    taken-back c.args.chains.now c.snapshot.new.self c.args.id snap.chain snap.pin snap.phase taken.0 taken.1 c.known.ensures.sound c.release.new.self c.release.ensures c.requires.2 c.requires.3
