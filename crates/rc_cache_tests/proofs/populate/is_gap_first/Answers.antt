use Rattle.std.proofs.Common.{sym, ◌∙◌, arith}
use Rattle.rc_cache_tests.proofs.populate.is_gap_first.Goals as goal

pub first_part-requires : goal.first_part-requires
first_part-requires c = (omega arith, (c.requires.pin, λ e. let both = sym c.requires.ascend ∙ e in cc))
