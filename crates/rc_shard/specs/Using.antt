-- What asking the row cache leaves of everything else.
--     LeavesBeside    all but for one snapshot of the row cache, where one was taken
use Rattle.std.specs.Prelude.{Option, MatchOption}
use Rattle.rc_memory.specs.Memory.{Memory}
use Rattle.rc_chain.specs.declared.chains.Snap.{Snap}
use Rattle.rc_lookup.specs.Rest.{LeavesBut, LeavesRest}

-- all is left but for one snapshot of the row cache, where one was taken
abbrev pub LeavesBeside : Option Snap → Memory → Memory → Type 0
LeavesBeside snap old new = MatchOption snap (LeavesRest old new) (λ s. LeavesBut s old new)
