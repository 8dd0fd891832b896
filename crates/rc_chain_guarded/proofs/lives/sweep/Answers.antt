use Rattle.std.proofs.Common.{None, inl, inr, sym, ap, ◌∙◌}
use Rattle.rc_chain_guarded.proofs.Steps.{from-if, known-fewer, known-same}
use Rattle.rc_chain_guarded.proofs.Wholes.{chain-there, free-pin, known-put}
use Rattle.rc_chain_guarded.proofs.Turns.{idle-decided}
use Rattle.rc_memory.specs.Memory.{Memory}
use Rattle.rc_chain_guarded.proofs.lives.sweep.Goals as goal

pub returns : goal.returns
returns c =
    let m = c.args.chains.now in let n = c.sweep.new.self in let k = chain-there m c.args.id (sym c.is_there.ensures ∙ c.if-not-is_there.false) in
    elim (idle-decided m c.args.id k.0) [
      | inl idle ↦ known-put m n c.args.id None (c.sweep.ensures.dropped k.0 k.1 idle).chains c.args.known.now c.forget_chain.new.self c.requires c.forget_chain.ensures.held c.forget_chain.ensures.full
          (λ b e. from-if _ c.forget_chain.new.self.bare b c.forget_chain.ensures.bare e) tt (λ pin p. free-pin m c.args.id pin k.0 k.1 idle.unpinned p)
      | inr not ↦ let same = c.sweep.ensures.kept k.0 k.1 not in known-same m n (ap (λ (x : Memory). x.chains) same) c.forget_chain.new.self (ap (λ (x : Memory). x.recency) same)
          (known-fewer m c.args.known.now c.forget_chain.new.self c.forget_chain.ensures.held c.forget_chain.ensures.full (λ b e. (from-if _ c.forget_chain.new.self.bare b c.forget_chain.ensures.bare e).0) c.requires)
    ]
