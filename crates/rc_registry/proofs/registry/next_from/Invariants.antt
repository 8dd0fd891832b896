-- At no number that was passed is a chain.
use Rattle.std.proofs.Common.{◌≡◌, ℕ, ◌<◌, ◌≤◌, None}
use Rattle.rc_registry.specs.Registry.{use_at}
use Rattle.rc_registry.proofs.registry.next_from.Given as goal

abbrev pub invariant-loop-id : goal.invariant-loop-id
invariant-loop-id l = (n : ℕ) → l.first ≤ n → n < l.id → use_at l.uses n ≡ None
