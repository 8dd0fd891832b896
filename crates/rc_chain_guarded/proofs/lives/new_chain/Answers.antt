use Rattle.std.proofs.Common.{sym, ap, ◌∙◌}
use Rattle.rc_chain_guarded.proofs.Steps.{known-fewer, known-same}
use Rattle.rc_chain_guarded.proofs.Wholes.{bare-other, known-put, new-limits, no-chain_pin}
use Rattle.rc_memory.specs.Memory.{Memory}
use Rattle.rc_chain_guarded.proofs.lives.new_chain.Goals as goal

pub returns-in-Ok : goal.returns-in-Ok
returns-in-Ok c =
    let m = c.has_room.new.chains in let n = c.new_chain.new.self in let made = c.in-Ok.ensures.made in
    known-put m n c.in-Ok.id _ made.chains c.args.known.now c.forget_full.new.self c.has_room.ensures.known c.forget_full.ensures.held c.forget_full.ensures.full
    (λ b e. let old = sym c.forget_full.ensures.bare ∙ e in (old, bare-other m c.args.known.now c.in-Ok.id c.has_room.ensures.known made.vacant b old)) (new-limits c.args.kind c.args.pt c.args.phase)
    (λ pin p. no-chain_pin m c.in-Ok.id pin made.vacant p)

pub returns-in-Err : goal.returns-in-Err
returns-in-Err c =
    let m = c.has_room.new.chains in let n = c.new_chain.new.self in let same = c.in-Err.ensures.err.same in
    known-same m n (ap (λ (x : Memory). x.chains) same) c.forget_full.new.self (ap (λ (x : Memory). x.recency) same)
    (known-fewer m c.args.known.now c.forget_full.new.self c.forget_full.ensures.held c.forget_full.ensures.full (λ b e. sym c.forget_full.ensures.bare ∙ e) c.has_room.ensures.known)
