-- What was read before is not asked for again.
use native.Mathlib.Omega.{arith}
use Rattle.std.proofs.Common.{refl}
use Rattle.rc_tables.proofs.lazy.TableFrags.take_read.Goals as goal

pub returns-in-Some-clause-cause : goal.returns-in-Some-clause-cause
returns-in-Some-clause-cause g c = omega arith

pub returns-in-Some-clause-asks : goal.returns-in-Some-clause-asks
returns-in-Some-clause-asks g c = omega arith

pub returns-in-Some-clause-quiet : goal.returns-in-Some-clause-quiet
returns-in-Some-clause-quiet g c = λ _. refl
