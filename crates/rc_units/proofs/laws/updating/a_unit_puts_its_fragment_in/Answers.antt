use Rattle.rc_units.proofs.Putting.{unit-before, unit-within, unit-behind, unit-end}
use Rattle.rc_units.proofs.laws.updating.a_unit_puts_its_fragment_in.Goals as goal

pub returns : goal.returns
returns c = record {
  before = λ force f next v s p i. unit-before force next v i s f p;
  within = λ force f next v s p i nothing l. unit-within force next v i s l f p nothing;
  behind = λ force f next v s p i. unit-behind force next v i s f p;
  end = λ force f next v s p i. unit-end force next v i s f p;
}
