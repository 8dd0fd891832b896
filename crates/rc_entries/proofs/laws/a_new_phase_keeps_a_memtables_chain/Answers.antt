use Rattle.rc_entries.proofs.Phases.{relabelled-form, relabelled-stands}
use Rattle.rc_entries.proofs.laws.a_new_phase_keeps_a_memtables_chain.Goals as goal

pub returns : goal.returns
returns c = record { form = λ p phase k h. relabelled-form phase p k h; stands = λ writes phase k h. relabelled-stands phase writes k h }
