use Rattle.lsa_store.specs.laws.Written.{live-total}
use Rattle.lsa_store.proofs.laws.what_is_live_is_what_objects_take.Goals as goal

pub returns : goal.returns
returns c = live-total
