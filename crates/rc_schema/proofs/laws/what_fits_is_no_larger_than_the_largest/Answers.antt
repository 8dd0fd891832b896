use Rattle.rc_schema.specs.laws.Fitting.{dummy_within, entry_within, static_within}
use Rattle.rc_schema.proofs.laws.what_fits_is_no_larger_than_the_largest.Goals as goal

pub returns-clause-dummy : goal.returns-clause-dummy
returns-clause-dummy c = dummy_within

pub returns-clause-entry : goal.returns-clause-entry
returns-clause-entry c = λ schema key row is up g h. entry_within schema key row is g h up

pub returns-clause-static_row : goal.returns-clause-static_row
returns-clause-static_row c = λ schema row is up m t h. static_within schema row is m t h up
