use Rattle.std.proofs.Common.{[], ap, ◌∙◌, arith}
use Rattle.rc_chain_guarded.proofs.Steps.{from-if}
use Rattle.rc_memory.specs.Memory.{Memory}
use Rattle.rc_chain_guarded.proofs.likes.first_of.Goals as goal

pub touch-requires : goal.touch-requires
touch-requires c = let f = from-if _ c.front.result c.in-Some.r c.front.ensures.some c.in-Some.is in (omega arith, (f.0, [], f.1, f.2, f.3))

pub loop-turns-preserved : goal.loop-turns-preserved
loop-turns-preserved c =
    let f = from-if _ c.front.result c.in-Some.r c.front.ensures.some c.in-Some.is in let t = c.touch.ensures.touched f.0 [] f.1 f.2 f.3 in
    (ap (λ (x : Memory). x.chains) t ∙ c.loop-turns.invariant.0, c.touch.ensures.objects.usages ∙ c.loop-turns.invariant.1)
