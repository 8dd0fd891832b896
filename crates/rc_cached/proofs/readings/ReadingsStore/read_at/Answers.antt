-- No file is there.
use Rattle.std.proofs.Common.{ℕ, ◌+◌, ◌≤◌, List, length, subst}
use Rattle.std.specs.FinMap.{get-empty}
use Rattle.std.specs.Option.{IsSomeAnd}
use Rattle.std.specs.Ordering.{nat_cmp}
use Rattle.rc_cached.proofs.readings.ReadingsStore.read_at.Goals as goal

pub unreachable-requires : goal.unreachable-requires
unreachable-requires c = subst (λ o. IsSomeAnd o (λ bytes. c.args._off + length c.args._into.now ≤ length bytes)) (get-empty {X = List ℕ} nat_cmp c.args._n) c.requires
