use Rattle.rc_entries.proofs.Below.{invalidated-continuous, relabelled-continuous}
use Rattle.rc_entries.proofs.laws.what_entries_know_stays_what_lies_below_at_a_new_phase.Goals as goal

pub returns : goal.returns
returns c = let law = c.a_relabelled_chain_keeps_what_is_said.ensures in record {
  relabelled = λ below other entries phase old new a w r. relabelled-continuous law.chain law.form law.below below other entries phase old new a w r;
  invalidated = λ below other entries keys phase old new a w i. invalidated-continuous law.chain law.form law.below below other entries phase old new a w keys i;
}
