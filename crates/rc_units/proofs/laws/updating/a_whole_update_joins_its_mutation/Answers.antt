use Rattle.std.specs.Prelude.{[]}
use Rattle.rc_units.proofs.Whole.{whole-continuous, whole-known}
use Rattle.rc_units.proofs.laws.updating.a_whole_update_joins_its_mutation.Goals as goal

pub returns : goal.returns
returns c = record {
  kept = λ writes change older phase is k. whole-continuous writes change older phase is k;
  known = λ change older phase x is h. whole-known [] change older phase is x h;
}
