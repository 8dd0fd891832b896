-- When a write may be refused for want of room.
--     MayBeFull       all accepted writes, by weight, and 152 bytes for each open reader, pass three quarters of all segments but two
use Rattle.std.specs.Prelude.{◌+◌, ◌-◌, ◌*◌, ◌/◌, ◌<◌, length, sum_by}
use Rattle.rc_writes.specs.Weight.{weight}
use Rattle.rc_machine.specs.State.{State}

-- A write may be refused for want of room: what was accepted so far weighs more than three quarters of all segments, of 131,072 bytes each, but two, with
-- 152 bytes for each open reader: it may hold a snapshot of the row cache, of which the head of a version and its end dummy stay, whatever is evicted.
abbrev pub MayBeFull : State → Type 0
MayBeFull m = 3 * 131072 / 4 * (m.segments - 2) < sum_by (λ w. weight w.change) m.log + 152 * length m.readers
