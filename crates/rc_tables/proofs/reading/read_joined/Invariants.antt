-- The tables so far were joined, and those that are left are there.
use Rattle.std.proofs.Common.{◌≡◌, ◌≤◌, ◌+◌, ◌*◌, length, map as list_map}
use Rattle.rc_stream.specs.declared.streams.StreamErr.{StreamErr}
use Rattle.rc_tables.specs.Tables.{IsDamageOf, listing}
use Rattle.rc_tables.proofs.Joined.{Joining, SomeSoFar}
use Rattle.rc_tables.proofs.reading.read_joined.Given as goal

abbrev pub invariant-loop-left : goal.invariant-loop-left
invariant-loop-left g l = record {
  so_far : Joining (g.W.Store.files l.initial.store) l.fn.schema l.fn.key l.fn.set l.joined (list_map (λ t. t.value) l.left);
  some : SomeSoFar l.fn.schema l.fn.key l.fn.set l.joined (list_map (λ t. t.value) l.left);
  damage : (e : StreamErr) → IsDamageOf l.fn.schema l.fn.key (list_map (λ t. t.value) l.left) e → IsDamageOf l.fn.schema l.fn.key l.fn.set e;
  files : g.W.Store.files l.store ≡ g.W.Store.files l.initial.store;
  building : g.W.Store.building l.store ≡ g.W.Store.building l.initial.store;
  faults : g.W.Store.faults l.initial.store ≤ g.W.Store.faults l.store;
  asks : g.W.Store.asks l.store + 2 * listing l.fn.key (list_map (λ t. t.value) l.left) ≤ g.W.Store.asks l.initial.store + 2 * listing l.fn.key l.fn.set;
}

abbrev pub decreases-loop-left : goal.decreases-loop-left
decreases-loop-left g l = length l.left
