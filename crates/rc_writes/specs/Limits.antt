-- What the byte codes spell of a partition.
use Rattle.std.specs.Prelude.{All}
use Rattle.rc_rowcode.specs.Spelling.{KeyFits, RowFits}
use Rattle.rc_mutation.specs.declared.mutations.Mutation.{Mutation}

-- keys, rows and bounds within the limits of the byte codes
pub record IsWithinLimits (m : Mutation) : Type 0 where
  pub statics : RowFits m.statics
  pub rows : All (λ e. KeyFits e.0 × RowFits e.1) m.rows
  pub ranges : All (λ q. KeyFits q.from.prefix × KeyFits q.to.prefix) m.ranges
