use Rattle.std.proofs.Common.{arith}
use Rattle.lsa_bench.proofs.works.change_slots.Goals as goal

pub loop-changed-preserved : goal.loop-changed-preserved
loop-changed-preserved c =
    let before = c.loop-changed.invariant in let added = c.in_ok-slot.ensures.added in let dropped = c.drop_root.ensures.dropped in (
      omega (arith, before.0, added.there, dropped.there),
      omega (arith, before.0, before.1, added.bound, dropped.bound),
      λ _. omega (arith, before.0, before.1, added.bound, dropped.bound),
    )
