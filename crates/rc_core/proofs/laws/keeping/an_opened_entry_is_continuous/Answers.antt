use Rattle.rc_core.specs.laws.Opening.{opened-chain, opened-form}
use Rattle.rc_core.proofs.laws.keeping.an_opened_entry_is_continuous.Goals as goal

pub returns : goal.returns
returns c = record { chain = opened-chain; form = opened-form }
