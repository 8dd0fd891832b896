use Rattle.std.proofs.Common.{◌≤◌, ◌^◌}
use Rattle.rc_outside.proofs.folder.listed_numbers.Given as goal

-- no more names than the limit were counted
abbrev pub invariant-loop-entry : goal.invariant-loop-entry
invariant-loop-entry g l = l.names ≤ 2 ^ 32
