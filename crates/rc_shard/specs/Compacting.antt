-- How segments are emptied where that is told.
--     AreEmptied           so many segments were emptied, one after another
--     AreSparseEmptied     so many as were asked for, or all that were sparse
--     IsCompactedAsTold    so the shard does where a compaction is answered
use Rattle.std.specs.Prelude.{◌≡◌, ◌<◌, ◌≤◌, ℕ, zero, suc, None, ⊤}
use Rattle.lsa_region.specs.Region.{View}
use Rattle.lsa_region.specs.Stock.{sparse_of}
use Rattle.lsa_move.specs.Room.{IsCompacted}
use Rattle.rc_lines.specs.declared.commands.Command.{Command}
use Rattle.rc_lines.specs.declared.commands.Command.TheVariants.{Compact}
use Rattle.rc_memory.specs.Memory.{IsUntouched, Memory}

-- so many segments were emptied, one after another, each the sparsest one at its time
abbrev pub AreEmptied : ℕ → View → View → Type 0
AreEmptied zero old new = new ≡ old
AreEmptied (suc n) old new = (mid : View) × (sparsest : ℕ) × AreEmptied n old mid × IsCompacted 131072 mid new sparsest

-- So many segments were emptied as were asked for, or fewer, and then no segment is sparse. Objects were moved for it, and nothing else was done.
pub record AreSparseEmptied (count : ℕ) (old new : Memory) : Type 0 where
  pub rounds : ℕ
  pub emptied : AreEmptied rounds old.region new.region
  pub most : rounds ≤ count
  pub tight : rounds < count → sparse_of 131072 new.region.usages ≡ None
  pub untouched : IsUntouched old new

-- A compaction empties the sparsest segments, so many, or until none is sparse, and does nothing else.
abbrev pub IsCompactedAsTold : Command → Memory → Memory → Type 0
IsCompactedAsTold (Compact count) old new = AreSparseEmptied count old new
IsCompactedAsTold command old new = ⊤
