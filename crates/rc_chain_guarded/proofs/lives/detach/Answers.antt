use Rattle.std.proofs.Common.{refl, sym, ◌∙◌}
use Rattle.rc_chain_guarded.proofs.Wholes.{chain-there, known-settled}
use Rattle.rc_memory.specs.Memory.{on_shown, shown_detached}
use Rattle.rc_chain_guarded.proofs.lives.detach.Goals as goal

pub returns : goal.returns
returns c =
    let m = c.args.chains.now in let n = c.detach.new.self in let k = chain-there m c.args.id (sym c.is_there.ensures ∙ c.if-not-is_there.false) in let e = c.detach.ensures.detached k.0 k.1 in
    known-settled m n c.args.id (on_shown (shown_detached)) e.2.chains (λ q. refl) (λ q. refl) c.args.known.now c.forget_full.new.self c.requires c.forget_full.ensures.held c.forget_full.ensures.full c.forget_full.ensures.bare
