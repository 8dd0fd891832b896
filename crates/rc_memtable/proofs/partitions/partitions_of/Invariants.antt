-- The partitions of the keys so far are made, and the chains are as before.
use Rattle.rc_memtable.proofs.Listed.{IsListing}
use Rattle.rc_memtable.proofs.partitions.partitions_of.Given as goal

abbrev pub invariant-loop-key : goal.invariant-loop-key
invariant-loop-key g l = IsListing l.numbers.entries l.key-iterator l.fn.chains l.chains l.parts.items
