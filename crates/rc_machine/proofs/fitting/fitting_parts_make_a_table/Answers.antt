use Rattle.rc_tfile.specs.laws.Standing.{parts_make_a_table, text_is_a_table}
use Rattle.rc_machine.proofs.fitting.fitting_parts_make_a_table.Goals as goal

pub returns-clause-items_fit : goal.returns-clause-items_fit
returns-clause-items_fit c = parts_make_a_table

pub returns-clause-text_is_one : goal.returns-clause-text_is_one
returns-clause-text_is_one c = text_is_a_table
