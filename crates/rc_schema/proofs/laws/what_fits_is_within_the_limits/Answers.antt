use Rattle.rc_schema.specs.laws.Fitting.{key_fits, cells_fit}
use Rattle.rc_schema.proofs.laws.what_fits_is_within_the_limits.Goals as goal

pub returns-clause-key : goal.returns-clause-key
returns-clause-key c = key_fits

pub returns-clause-row : goal.returns-clause-row
returns-clause-row c = λ is_static schema row is h. cells_fit is_static schema row.cells is h
