-- The files so far are tables, and this is known of them.
use Rattle.std.proofs.Common.{◌≡◌, ◌≤◌, take}
use Rattle.rc_folder.proofs.Opened.{AsksLeft, Done}
use Rattle.rc_folder.proofs.opening.check_each.Given as goal

abbrev pub invariant-loop-n : goal.invariant-loop-n
invariant-loop-n g l = record {
  done : Done (g.W.Store.files l.initial.store) l.schema (take l.n-index l.numbers) l.tables;
  files : g.W.Store.files l.store ≡ g.W.Store.files l.initial.store;
  building : g.W.Store.building l.store ≡ g.W.Store.building l.initial.store;
  asks : AsksLeft (g.W.Store.files l.initial.store) l.n-index (g.W.Store.asks l.store) (g.W.Store.asks l.initial.store);
  faults : g.W.Store.faults l.initial.store ≤ g.W.Store.faults l.store;
}
