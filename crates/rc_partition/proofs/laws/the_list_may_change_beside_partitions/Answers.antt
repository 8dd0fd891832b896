use Rattle.rc_partition.specs.laws.Listed.{stands-listed, stands-pushed, stands-removed, stands-touched}
use Rattle.rc_partition.proofs.laws.the_list_may_change_beside_partitions.Goals as goal

pub returns-clause-listed : goal.returns-clause-listed
returns-clause-listed c = λ slots old new partitions xs ys h elsewhere objects list owned unlisted. stands-listed slots old new elsewhere objects partitions xs h ys list owned unlisted

pub returns-clause-pushed : goal.returns-clause-pushed
returns-clause-pushed c = λ slots old new partitions xs r h elsewhere objects list row unset. stands-pushed slots old new elsewhere objects partitions xs h r list row unset

pub returns-clause-removed : goal.returns-clause-removed
returns-clause-removed c = λ slots old new partitions xs r ys h elsewhere objects list first second unset. stands-removed slots old new elsewhere objects partitions xs ys r h list first second unset

pub returns-clause-touched : goal.returns-clause-touched
returns-clause-touched c = λ slots old new partitions xs r ys h elsewhere objects list unset. stands-touched slots old new elsewhere objects partitions xs ys r h list unset
