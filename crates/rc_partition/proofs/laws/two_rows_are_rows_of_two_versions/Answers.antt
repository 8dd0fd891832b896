use Rattle.rc_partition.specs.laws.Apart.{one-version}
use Rattle.rc_partition.specs.laws.Same.{same-place}
use Rattle.rc_partition.specs.laws.Changed.{this-among}
use Rattle.rc_partition.specs.Partitions.{partition_of}
use Rattle.std.proofs.Common.{◌∷◌, ◌++◌}
use Rattle.rc_partition.proofs.laws.two_rows_are_rows_of_two_versions.Goals as goal

pub returns-clause-row : goal.returns-clause-row
returns-clause-row c = λ v s t r well h k a b. one-version v well s t h k r a b

pub returns-clause-place : goal.returns-clause-place
returns-clause-place c = λ slots v front us root other older olds s t newer news back vs listed xs well h k same.
    same-place v well root other older newer olds news s t (h.entries (partition_of root (older ++ (s ∷ newer))) (this-among front back root older newer s)) (k.entries (partition_of other (olds ++ (t ∷ news))) (this-among us vs other olds news t)) same
