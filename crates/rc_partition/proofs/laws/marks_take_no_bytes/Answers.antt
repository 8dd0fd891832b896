use Rattle.std.proofs.Common.{refl}
use Rattle.rc_partition.specs.laws.Bytes.{flags-bytes, tombs-bytes}
use Rattle.rc_partition.proofs.laws.marks_take_no_bytes.Goals as goal

pub returns-clause-flags : goal.returns-clause-flags
returns-clause-flags c = flags-bytes

pub returns-clause-tombs : goal.returns-clause-tombs
returns-clause-tombs c = tombs-bytes

pub returns-clause-static_flag : goal.returns-clause-static_flag
returns-clause-static_flag c = λ flag d. refl

pub returns-clause-head : goal.returns-clause-head
returns-clause-head c = λ tomb d. refl
