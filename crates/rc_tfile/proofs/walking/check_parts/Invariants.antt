-- Items that fit stand before what is ahead.
use Rattle.std.proofs.Common.{◌≡◌, ◌≤◌, ◌+◌}
use Rattle.rc_tfile.specs.calls.Windows.{IsOpen, bytes_left, reads_left}
use Rattle.rc_tfile.specs.calls.Walking.{StandsAhead}
use Rattle.rc_tfile.proofs.walking.check_parts.Given as goal

abbrev pub invariant-loop-err : goal.invariant-loop-err
invariant-loop-err g l = record {
  files : g.W.Store.files l.store ≡ g.W.Store.files l.initial.store;
  building : g.W.Store.building l.store ≡ g.W.Store.building l.initial.store;
  faults : g.W.Store.faults l.initial.store ≤ g.W.Store.faults l.store;
  number : l.file.number ≡ l.initial.file.number;
  open_file : IsOpen (g.W.Store.files l.store) l.file;
  asks : g.W.Store.asks l.store + reads_left l.file ≤ g.W.Store.asks l.initial.store + reads_left l.initial.file;
  stands : StandsAhead (g.W.Store.files l.store) l.schema l.outline l.file;
}

abbrev pub decreases-loop-err : goal.decreases-loop-err
decreases-loop-err g l = bytes_left l.file
