-- A key within the limits has a code of at most 265 bytes.
use Rattle.std.proofs.Common.{arith}
use Rattle.rc_rowcode.specs.laws.Sizes.{key_small}
use Rattle.rc_rowcode.proofs.keys.key_size.Goals as goal

pub comps_size-requires-clause-small : goal.comps_size-requires-clause-small
comps_size-requires-clause-small c = rw c.as_slice.ensures (omega (arith, key_small c.args.key.now c.requires))

pub overflow_add-result : goal.overflow_add-result
overflow_add-result c = record { fits = rw (c.comps_size.ensures, c.as_slice.ensures) (omega (arith, key_small c.args.key.now c.requires)) }

pub returns-clause-small : goal.returns-clause-small
returns-clause-small c = rw (c.comps_size.ensures, c.as_slice.ensures) (omega (arith, key_small c.args.key.now c.requires))
