use Rattle.std.proofs.Common.{◌≡◌, ◌+◌, ◌-◌, arith}
use Rattle.lsa_kinds.proofs.Numbers.{read_bound, field_number}
use Rattle.lsa_kinds.proofs.field.Field.get.Goals as goal

pub overflow_mul-value : goal.overflow_mul-value
overflow_mul-value g c =
    omega (arith, c.loop-index.invariant, read_bound g.row.OFFSET g.row.WIDTH c.loop-index.index c.args.bytes.now (λ k. omega (arith, c.type_inv.bytes k)) (omega arith) (omega arith))

pub overflow_add-value : goal.overflow_add-value
overflow_add-value g c =
    omega (arith, c.loop-index.invariant, c.type_inv.bytes (g.row.OFFSET + (c.loop-index.index - 1)), read_bound g.row.OFFSET g.row.WIDTH c.loop-index.index c.args.bytes.now (λ k. omega (arith, c.type_inv.bytes k)) (omega arith) (omega arith))

pub loop-index-preserved : goal.loop-index-preserved
loop-index-preserved g c =
    let e = field_number g.row.OFFSET g.row.WIDTH (c.loop-index.index - 1) c.args.bytes.now (omega arith) (omega arith) in
    let same : c.loop-index.index - 1 + 1 ≡ c.loop-index.index = omega arith in
    let e2 = rw same at e in
    omega (arith, e2, c.loop-index.invariant)
