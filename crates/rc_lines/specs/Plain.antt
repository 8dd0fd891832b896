-- The lines of the commands that name no partition.
use Rattle.std.specs.Prelude.{ℕ, ◌≤◌, List, [], ◌∷◌, ◌++◌, codes, Option, Some, None}
use Rattle.std.specs.Fmt.{decimal}
use Rattle.rc_lines.specs.declared.commands.Command.{Command}
use Rattle.rc_lines.specs.declared.commands.Command.TheVariants.{Nothing, Read, Close, Flush, FlushBegin, FlushStep, Evict, Compact, Clean, Stats}

-- a number from 1 to 4,294,967,295
abbrev pub IsCount : ℕ → Type 0
IsCount n = (1 ≤ n) × (n ≤ 4294967295)

-- the ids and counts of a command are numbers that a line can say
abbrev pub HasCounts : Command → Type 0
HasCounts (Read id count) = IsCount id × IsCount count
HasCounts (Close id) = IsCount id
HasCounts (FlushStep count) = IsCount count
HasCounts (Evict count) = IsCount count
HasCounts (Compact count) = IsCount count
HasCounts (Clean count) = IsCount count
HasCounts other = Unit {0}

-- the line of a command that names no partition and no schema; none of another
abbrev pub plain_line : Command → Option (List ℕ)
plain_line Nothing = Some []
plain_line (Read id count) = Some (codes "read " ++ (decimal id ++ 32 ∷ decimal count))
plain_line (Close id) = Some (codes "close " ++ decimal id)
plain_line Flush = Some (codes "flush")
plain_line FlushBegin = Some (codes "flush begin")
plain_line (FlushStep count) = Some (codes "flush step " ++ decimal count)
plain_line (Evict count) = Some (codes "evict " ++ decimal count)
plain_line (Compact count) = Some (codes "compact " ++ decimal count)
plain_line (Clean count) = Some (codes "clean " ++ decimal count)
plain_line Stats = Some (codes "stats")
plain_line other = None
