use Rattle.std.proofs.Common.{◌≡◌, length, sym, subst, arith}
use Rattle.lsa_pool.specs.calls.Sparsest.{IsBest}
use Rattle.lsa_pool.specs.laws.Usages.{sparsest-best}
use Rattle.lsa_pool.proofs.least_live.Goals as goal

pub returns : goal.returns
returns c =
    let us = c.args.usages.now in
    let end : c.loop-number.number ≡ length us = omega arith in
    sym (sparsest-best us c.loop-number.best (subst (λ k. IsBest us k c.loop-number.best) end c.loop-number.invariant))
