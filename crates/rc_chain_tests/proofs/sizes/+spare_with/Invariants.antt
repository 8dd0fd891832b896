-- The entries still to be made.
use Rattle.rc_chain_tests.proofs.sizes.+spare_with.Given as goal

abbrev pub decreases-spare_with : goal.decreases-spare_with
decreases-spare_with l = l.count
