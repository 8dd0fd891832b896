use Rattle.rc_core.specs.laws.Surgery.{set_flags-is, set_tombs-is}
use Rattle.rc_core.proofs.laws.surgery.set_marks_leave_a_version.Goals as goal

pub returns : goal.returns
returns c = record { flags = set_flags-is; tombs = set_tombs-is }
