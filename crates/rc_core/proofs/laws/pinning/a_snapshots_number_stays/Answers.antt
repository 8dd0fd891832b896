use Rattle.rc_core.specs.laws.Pins.{pin-was-free, pin-given, pin-others, pin-freed, pin-kept, pin-renumbered, pin-is-pinned, pinned-by-number}
use Rattle.rc_core.proofs.laws.pinning.a_snapshots_number_stays.Goals as goal

pub returns : goal.returns
returns c = record { free = pin-was-free; given = pin-given; others = pin-others; released = pin-freed; kept = pin-kept; dropped = pin-renumbered; pinned = pin-is-pinned; numbered = pinned-by-number }
