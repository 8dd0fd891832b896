-- No file is there.
use Rattle.std.proofs.Common.{◌≡◌, ℕ, false, true, List, Option, subst}
use Rattle.std.specs.FinMap.{get-empty}
use Rattle.std.specs.Option.{IsSome}
use Rattle.std.specs.Ordering.{nat_cmp}
use Rattle.rc_cached.proofs.readings.ReadingsStore.size.Goals as goal

pub unreachable-requires : goal.unreachable-requires
unreachable-requires c = let told : false ≡ true = subst (λ (o : Option (List ℕ)). IsSome o) (get-empty {X = List ℕ} nat_cmp c.args._n) c.requires in absurd (cc)
