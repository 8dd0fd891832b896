use Rattle.rc_entries.proofs.Leaving.{leaves-entries, leaves-itself, leaves-settled, leaves-then, settled-there}
use Rattle.rc_entries.proofs.laws.what_leaves_the_caches_chains_leaves_the_entries.Goals as goal

pub returns : goal.returns
returns c = record { entries = leaves-entries; settled = leaves-settled; there = settled-there; itself = leaves-itself; both = leaves-then }
