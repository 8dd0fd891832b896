-- How much memory for rows a write may take: the most that it adds to what its partition's versions take, with room to spare.
use Rattle.std.specs.Prelude.{ℕ, ◌+◌, length, sum_by, if◌then◌else◌}
use Rattle.rc_position.specs.declared.positions.Pos.{Pos}
use Rattle.rc_position.specs.Position.{row_pos}
use Rattle.rc_rowcode.specs.Spelling.{pos_code, row_code}
use Rattle.rc_mutation.specs.declared.mutations.Mutation.{Mutation}
use Rattle.rc_mutation.specs.Fragments.{is_written}

-- an entry at a position, without its row's spelling, in bytes
abbrev pub entry_weight : Pos → ℕ
entry_weight x = 88 + length (pos_code x)

-- what a write may take of the memory for rows, in bytes: a version and a dummy; each row with its entry; each range with an entry at both of its
-- bounds; and the static row
abbrev pub weight : Mutation → ℕ
weight m = 512 + sum_by (λ e. entry_weight (row_pos e.0) + length (row_code e.1)) m.rows
    + sum_by (λ p. entry_weight p.from + entry_weight p.to) m.ranges + (if is_written m.statics then 40 + length (row_code m.statics) else 0)
