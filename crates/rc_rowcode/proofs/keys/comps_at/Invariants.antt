-- What was read, with what is still read, is what reading all gives.
use Rattle.std.proofs.Common.{◌≡◌, ◌-◌}
use Rattle.rc_rowcode.specs.calls.Reading.{parse_components}
use Rattle.rc_rowcode.proofs.Loops.{with_front}
use Rattle.rc_rowcode.proofs.keys.comps_at.Given as goal

abbrev pub invariant-loop : goal.invariant-loop
invariant-loop l = with_front l.comps.items (parse_components (l.count - l.counter) l.rest) ≡ parse_components l.count l.bytes
