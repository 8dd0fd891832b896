-- What was read, with what is still read, is what reading all gives; the next column is at most 32.
use Rattle.std.proofs.Common.{◌≡◌, ◌≤◌, ◌-◌}
use Rattle.rc_rowcode.specs.calls.Reading.{parse_entries}
use Rattle.rc_rowcode.proofs.Loops.{with_front}
use Rattle.rc_rowcode.proofs.rows.entries_at.Given as goal

abbrev pub invariant-loop : goal.invariant-loop
invariant-loop l = record {
  so_far : with_front l.cells.items (parse_entries (l.count - l.counter) l.least l.rest) ≡ parse_entries l.count 0 l.bytes;
  low : l.least ≤ 32;
}
