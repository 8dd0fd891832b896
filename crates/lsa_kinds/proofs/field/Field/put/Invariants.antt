use Rattle.std.proofs.Common.{◌≡◌, ◌++◌, ◌+◌, ◌-◌, drop, take}
use Rattle.lsa_kinds.specs.Fields.{spelled_number}
use Rattle.lsa_kinds.proofs.field.Field.put.Given as goal

abbrev pub invariant-loop-index : goal.invariant-loop-index
invariant-loop-index g l = record {
  written : take l.index (drop g.row.OFFSET l.bytes) ++ spelled_number (g.row.WIDTH - l.index) l.rest ≡ spelled_number g.row.WIDTH l.value;
  before : take g.row.OFFSET l.bytes ≡ take g.row.OFFSET l.fn.bytes;
  behind : drop (g.row.OFFSET + g.row.WIDTH) l.bytes ≡ drop (g.row.OFFSET + g.row.WIDTH) l.fn.bytes;
}
