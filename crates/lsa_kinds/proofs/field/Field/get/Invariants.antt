use Rattle.std.proofs.Common.{◌≡◌, drop, take}
use Rattle.lsa_kinds.specs.Fields.{number}
use Rattle.lsa_kinds.proofs.field.Field.get.Given as goal

abbrev pub invariant-loop-index : goal.invariant-loop-index
invariant-loop-index g l = l.value ≡ number (drop l.index (take g.row.WIDTH (drop g.row.OFFSET l.bytes)))
