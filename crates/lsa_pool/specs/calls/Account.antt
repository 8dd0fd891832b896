-- A segment that is counted among those of its kind.
use Rattle.std.specs.Prelude.{ℕ, cond}
use Rattle.lsa_pool.specs.declared.Usage.{Usage}
use Rattle.lsa_pool.specs.Room.{is_sparse}

-- 1 for a sparse segment, 0 for another one
abbrev pub is_counted : ℕ → Usage → ℕ
is_counted size u = cond (is_sparse size u) 1 0
