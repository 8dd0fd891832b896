use Rattle.rc_schema.specs.laws.Fitting.{joined_fits}
use Rattle.rc_schema.proofs.laws.what_fits_joins_to_what_fits.Goals as goal

pub returns : goal.returns
returns c = joined_fits
