-- What a call on plain chains leaves as it was.
use Rattle.std.specs.Prelude.{◌≡◌}
use Rattle.rc_plain_chains.specs.declared.memory.PlainMemory.{PlainMemory}

-- the counts are as they were
abbrev pub CountsNothing : PlainMemory → PlainMemory → Type 0
CountsNothing old new = new.counts ≡ old.counts

-- nothing more is to be told, and the counts are as they were
abbrev pub TellsNothing : PlainMemory → PlainMemory → Type 0
TellsNothing old new = (new.dropped ≡ old.dropped) × CountsNothing old new

-- the recency list is as it was
abbrev pub ListsNothing : PlainMemory → PlainMemory → Type 0
ListsNothing old new = new.recency ≡ old.recency
