-- Those before are out of the cache; what is done to the rest is then done to all.
use Rattle.std.proofs.Common.{◌≡◌, ℕ, List, length}
use Rattle.rc_memory.specs.Memory.{Memory}
use Rattle.rc_shard.specs.calls.Caching.{Forgets, HasCache}
use Rattle.rc_shard.specs.calls.Storing.{KeepsWritten}
use Rattle.rc_shard.proofs.forgetting.forget_all.Given as goal

abbrev pub invariant-loop-left : goal.invariant-loop-left
invariant-loop-left l = record {
  has : HasCache l.cache.entries l.unstored.chains;
  rest : (entries : List (List ℕ × ℕ)) (m : Memory) → Forgets l.left l.cache.entries entries l.unstored.chains m → Forgets l.parts l.fn.cache.entries entries l.fn.unstored.chains m;
  keeps : KeepsWritten l.fn.unstored l.unstored;
  counts : l.unstored.chains.counts ≡ l.fn.unstored.chains.counts;
}

abbrev pub decreases-loop-left : goal.decreases-loop-left
decreases-loop-left l = length l.left
