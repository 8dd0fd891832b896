use Rattle.rc_memtable.proofs.LettingGo.{all-no-more, freed-no-more, let-go-no-more}
use Rattle.rc_memtable.proofs.laws.what_is_let_go_takes_no_more.Goals as goal

pub returns : goal.returns
returns c = record { one = let-go-no-more; freed = freed-no-more; all = all-no-more }
