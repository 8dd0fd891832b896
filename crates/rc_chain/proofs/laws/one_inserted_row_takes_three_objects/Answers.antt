use Rattle.rc_memory.specs.Kept.{present}
use Rattle.rc_chain.proofs.OneRow.{bytes-worked, objects-three}
use Rattle.rc_chain.proofs.laws.one_inserted_row_takes_three_objects.Goals as goal

pub returns : goal.returns
returns c = λ m k x row phase only one before place code. (objects-three m k x row phase (present m.chains) only one before, bytes-worked m k x row phase (present m.chains) only one before place code)
