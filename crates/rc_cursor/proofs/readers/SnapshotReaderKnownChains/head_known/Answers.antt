use Rattle.rc_cursor.proofs.Heads.{head-seen}
use Rattle.rc_cursor.proofs.readers.SnapshotReaderKnownChains.head_known.Goals as goal

pub returns-clause-head : goal.returns-clause-head
returns-clause-head g c = head-seen c.args.home.now c.args.self.now.snap c.requires.0 c.in_ok-read.read c.in_ok-read.ensures.pt c.in_ok-read.ensures.known c.in_ok-read.ensures.row c.head_at.result c.head_at.ensures.pt c.head_at.ensures.known c.head_at.ensures.statics
