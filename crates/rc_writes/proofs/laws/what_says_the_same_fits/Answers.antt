-- The law is a lemma, over each of the changes.
use Rattle.rc_writes.specs.Allowed.{ChangeFits}
use Rattle.rc_writes.specs.laws.FittingChanges.{same_fits}
use Rattle.rc_writes.specs.laws.FittingValues.{each_of_all}
use Rattle.rc_writes.proofs.laws.what_says_the_same_fits.Goals as goal

pub returns : goal.returns
returns c = λ schema m changes is same fit. same_fits schema m changes is same (each_of_all (ChangeFits schema) changes fit)
