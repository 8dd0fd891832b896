-- The entries at the key are the most recent ones in the versions that were seen.
use Rattle.std.proofs.Common.{◌≤◌}
use Rattle.rc_position.specs.Position.{row_pos}
use Rattle.rc_chain.proofs.Touching.{IsTouchingKey}
use Rattle.rc_chain.proofs.chains.Chains.touch_key.Given as goal

abbrev pub invariant-loop-number : goal.invariant-loop-number
invariant-loop-number g l = (l.number ≤ l.last) × IsTouchingKey l.s.chain (row_pos l.key) l.number l.fn.self l.self
