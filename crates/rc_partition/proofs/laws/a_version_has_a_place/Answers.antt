use Rattle.rc_partition.specs.laws.Changed.{place-of}
use Rattle.rc_partition.proofs.laws.a_version_has_a_place.Goals as goal

pub returns-clause-version : goal.returns-clause-version
returns-clause-version c = place-of

pub returns-clause-row : goal.returns-clause-row
returns-clause-row c = λ v partitions r w. let p = place-of partitions w.0 w.1 w.2 w.3 in (p.0, w.0.root, p.1, w.1, p.2, p.3, p.4, w.4)
