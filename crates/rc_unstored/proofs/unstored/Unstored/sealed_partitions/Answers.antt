use Rattle.std.proofs.Common.{arith}
use Rattle.rc_unstored.proofs.Before.{before-seen, both-before}
use Rattle.rc_unstored.proofs.Keeping.{same-keys}
use Rattle.rc_unstored.proofs.unstored.Unstored.sealed_partitions.Goals as goal

pub partitions-requires : goal.partitions-requires
partitions-requires g c = let r = c.requires.kept in (omega arith, (r.0, r.1, r.3.sealed))

pub returns-clause-parts : goal.returns-clause-parts
returns-clause-parts g c schema writes later h = c.partitions.ensures.parts schema writes h.sealed

pub returns-clause-stands : goal.returns-clause-stands
returns-clause-stands g c schema writes later h = both-before schema c.args.self.now c.partitions.new.chains writes later c.partitions.ensures.left h

pub returns-clause-keys : goal.returns-clause-keys
returns-clause-keys g c = same-keys c.args.self.now c.partitions.new.chains

pub returns-clause-seen : goal.returns-clause-seen
returns-clause-seen g c = before-seen c.args.self.now.chains c.partitions.new.chains c.partitions.ensures.left
