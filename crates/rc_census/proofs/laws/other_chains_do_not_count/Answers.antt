use Rattle.std.proofs.Common.{Some}
use Rattle.rc_memory.specs.Memory.{chain_at}
use Rattle.rc_census.proofs.Lawful.{beside-census, none-adds, off-adds, off-detached, off-memtable, put-nothing}
use Rattle.rc_census.proofs.laws.other_chains_do_not_count.Goals as goal

pub returns-clause-memtable : goal.returns-clause-memtable
returns-clause-memtable c = λ id k m vacant kind. put-nothing m.chains id (Some k) (none-adds (chain_at m id) vacant) (off-adds k (off-memtable k kind))

pub returns-clause-detached : goal.returns-clause-detached
returns-clause-detached c = λ id k m vacant off. put-nothing m.chains id (Some k) (none-adds (chain_at m id) vacant) (off-adds k (off-detached k off))

pub returns-clause-beside : goal.returns-clause-beside
returns-clause-beside c = beside-census
