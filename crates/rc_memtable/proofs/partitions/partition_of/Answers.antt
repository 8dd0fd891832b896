use Rattle.rc_memtable.proofs.partitions.partition_of.Goals as goal

pub returns-clause-said : goal.returns-clause-said
returns-clause-said g c schema changes k e keeps = (c.holds_together.ensures, c.in_ok-change.ensures.said schema changes k e keeps)
