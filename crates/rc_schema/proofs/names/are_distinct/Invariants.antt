use Rattle.std.proofs.Common.{◌≡◌, length}
use Rattle.rc_schema.specs.SchemaValue.{are_distinct_by}
use Rattle.rc_spelling.specs.Words.{is_word}
use Rattle.rc_schema.proofs.names.are_distinct.Given as goal

-- what is left decides for the whole
abbrev pub invariant-loop-rest : goal.invariant-loop-rest
invariant-loop-rest l = are_distinct_by (λ x y. is_word x.now y.now) l.fn.names ≡ are_distinct_by (λ x y. is_word x.now y.now) l.rest

abbrev pub decreases-loop-rest : goal.decreases-loop-rest
decreases-loop-rest l = length l.rest
