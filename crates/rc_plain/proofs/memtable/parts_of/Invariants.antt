-- The partitions of the keys so far are made.
use Rattle.std.proofs.Common.{◌≡◌, ◌++◌, map, All}
use Rattle.std.specs.BTreeMap.{keys}
use Rattle.rc_mutation.specs.declared.mutations.Partition.{Partition}
use Rattle.rc_plain.specs.calls.Index.{IsPartitionOf}
use Rattle.rc_plain.proofs.memtable.parts_of.Given as goal

abbrev pub invariant-loop-key : goal.invariant-loop-key
invariant-loop-key l = record {
  keyed : map (λ (p : Partition). p.key) l.parts.items ++ l.key-iterator ≡ keys l.index;
  made : All (λ p. IsPartitionOf p l.writes) l.parts.items;
}
