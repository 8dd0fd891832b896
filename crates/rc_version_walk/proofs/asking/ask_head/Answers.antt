use Rattle.std.proofs.Common.{arith}
use Rattle.rc_version.specs.Versions.{version_head}
use Rattle.rc_version_walk.proofs.asking.ask_head.Goals as goal

pub head_of-head-requires : goal.head_of-head-requires
head_of-head-requires c = (omega arith, (version_head c.requires.1, c.requires.2.head))
