-- What the row cache gives up where it is told to.
--     AreFirstEvicted    the first objects of the recency list went
--     IsEvictedAsTold    so the shard does where an eviction is answered
--     IsLostAsTold       by which commands nothing is evicted, or no fill skipped
use Rattle.std.specs.Prelude.{◌≡◌, ⊤, ℕ, List, length, min}
use Rattle.rc_lines.specs.declared.commands.Command.{Command}
use Rattle.rc_lines.specs.declared.commands.Command.TheVariants.{Close, Compact, Evict, Nothing, Put, SetSchema, Stats}
use Rattle.rc_memory.specs.Memory.{Member, Memory}
use Rattle.rc_lookup.specs.Crowding.{LosesNothing}
use Rattle.rc_lookup.specs.Evictions.{AreEvicted}

-- The first objects of the recency list went, so many, or all where it had fewer, and chains that nobody pinned with their last ones. The rest stays in its order.
abbrev pub AreFirstEvicted : ℕ → Memory → Memory → Type 0
AreFirstEvicted count old new = (went : List Member) × (gone : List ℕ) × AreEvicted went gone old new × (length went ≡ min count (length old.recency))

-- An eviction takes the least recently used objects off the list, and does nothing else.
abbrev pub IsEvictedAsTold : Command → Memory → Memory → Type 0
IsEvictedAsTold (Evict count) old new = AreFirstEvicted count old new
IsEvictedAsTold command old new = ⊤

-- A schema line, a closing, a compaction, figures and an empty line lose nothing; a write and an eviction that is told skip no fill.
abbrev pub IsLostAsTold : Command → Memory → Memory → Type 0
IsLostAsTold Nothing old new = LosesNothing old new
IsLostAsTold (SetSchema schema) old new = LosesNothing old new
IsLostAsTold (Put w) old new = new.counts.skipped ≡ old.counts.skipped
IsLostAsTold (Close id) old new = LosesNothing old new
IsLostAsTold (Evict count) old new = new.counts.skipped ≡ old.counts.skipped
IsLostAsTold (Compact count) old new = LosesNothing old new
IsLostAsTold Stats old new = LosesNothing old new
IsLostAsTold command old new = ⊤
