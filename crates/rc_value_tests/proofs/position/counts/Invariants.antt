-- The ledger is the new one.
use Rattle.rc_value_tests.proofs.position.counts.Given as goal

abbrev pub ghosts-counted : goal.ghosts-counted
ghosts-counted g a = record { name = a.blank.name; parts = 1 }
