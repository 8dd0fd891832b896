use Rattle.std.proofs.Common.{arith}
use Rattle.rc_memtable.specs.laws.NoMore.{no-more-then}
use Rattle.rc_unstored.proofs.Returning.{keys-then, second-there, sees-past}
use Rattle.rc_unstored.proofs.unstored.Unstored.release_both.Goals as goal

pub release_if-requires-2 : goal.release_if-requires-2
release_if-requires-2 g c = (omega arith, second-there c.args.self.now.chains c.release_if.new.self.chains c.args.snaps.sealed c.args.snaps.active c.requires.there.active c.requires.apart c.release_if.ensures.others)

pub returns-clause-stands : goal.returns-clause-stands
returns-clause-stands g c schema writes later h = c.release_if-2.ensures.stands schema writes later (c.release_if.ensures.stands schema writes later h)

pub returns-clause-others : goal.returns-clause-others
returns-clause-others g c s none = sees-past s c.args.snaps c.args.self.now.chains c.release_if.new.self.chains c.release_if-2.new.self.chains none c.release_if.ensures.others c.release_if-2.ensures.others

pub returns-clause-room : goal.returns-clause-room
returns-clause-room g c = no-more-then c.args.self.now.chains c.release_if.new.self.chains c.release_if-2.new.self.chains c.release_if.ensures.room c.release_if-2.ensures.room

pub returns-clause-released : goal.returns-clause-released
returns-clause-released g c = (c.release_if.new.self.chains, c.release_if.ensures.released, c.release_if-2.ensures.released)

pub returns-clause-keys : goal.returns-clause-keys
returns-clause-keys g c = keys-then c.args.self.now c.release_if.new.self c.release_if-2.new.self c.release_if.ensures.keys c.release_if-2.ensures.keys
