use Rattle.rc_spliced.proofs.Fitting.{splice-fits}
use Rattle.rc_spliced.proofs.laws.a_splice_fits.Goals as goal

pub returns : goal.returns
returns c = λ schema x first second spliced g h may is. (is.is_mutation, splice-fits x first second schema may spliced g.1 h.1 is)
