use Rattle.std.proofs.Common.{refl, ap}
use Rattle.rc_chain_guarded.proofs.Wholes.{known-alike}
use Rattle.rc_memory.specs.Memory.{Memory, mark_passed}
use Rattle.rc_chain_guarded.proofs.lives.set_passed.Goals as goal

pub returns : goal.returns
returns c =
    let e = c.set_passed.ensures in
    known-alike c.args.chains.now c.set_passed.new.self c.args.id (mark_passed c.args.passed) (ap (λ (x : Memory). x.chains) e) (ap (λ (x : Memory). x.recency) e) (λ k. refl) (λ k. refl) (λ k pin at p. p) c.args._known.now c.requires
