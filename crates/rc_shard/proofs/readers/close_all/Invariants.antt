-- The readers that are left hold snapshots that are there, and share none.
use Rattle.std.specs.Prelude.{AllPairs, length, map}
use Rattle.std.specs.List.{AllByRecursion}
use Rattle.rc_paging.specs.Forms.{held_by}
use Rattle.rc_shard.specs.Readers.{AreHeldThere, AreTwo, holding}
use Rattle.rc_shard.proofs.readers.close_all.Given as goal

abbrev pub invariant-loop-id : goal.invariant-loop-id
invariant-loop-id l = record {
  held : AllByRecursion (λ o. AreHeldThere l.unstored.chains (held_by o.1.reader)) l.readers.items;
  two : AllPairs AreTwo (map holding l.readers.items);
}

abbrev pub decreases-loop-id : goal.decreases-loop-id
decreases-loop-id l = length l.readers.items
