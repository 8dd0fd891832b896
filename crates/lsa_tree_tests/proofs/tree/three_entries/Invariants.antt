-- The ledger is the new one.
use Rattle.lsa_tree_tests.proofs.tree.three_entries.Given as goal

abbrev pub ghosts-counted : goal.ghosts-counted
ghosts-counted g a = record { name = a.blank.name; parts = 1 }
