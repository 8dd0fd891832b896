use Rattle.std.proofs.Common.{sym, ◌∙◌, arith}
use Rattle.rc_chain_guarded.proofs.Steps.{from-if, to-some}
use Rattle.rc_chain_guarded.proofs.Wholes.{chain-there}
use Rattle.rc_chain_guarded.proofs.Turns.{known-freed}
use Rattle.rc_memory.specs.Memory.{chain_at}
use Rattle.rc_chain_guarded.proofs.lives.free_one.Goals as goal

pub free_one-requires : goal.free_one-requires
free_one-requires c =
    let m = c.args.chains.now in let k = chain-there m c.args.id (sym c.is_there.ensures ∙ c.if-not-is_there.false) in
    (omega arith, to-some _ (chain_at m c.args.id) k.0 k.1 (sym (c.is_attached.ensures k.0 k.1) ∙ c.if-is_attached.false, c.is_free.ensures c.if-not-is_free.false k.0 k.1))

pub returns : goal.returns
returns c =
    let m = c.args.chains.now in let k = chain-there m c.args.id (sym c.is_there.ensures ∙ c.if-not-is_there.false) in
    known-freed m c.free_one.new.self c.args.id k.0 k.1 (c.is_free.ensures c.if-not-is_free.false k.0 k.1) (to-some _ (chain_at m c.args.id) k.0 k.1 (from-if _ (chain_at m c.args.id) k.0 (c.known.ensures.sound c.args.id) k.1).some)
    c.free_one.ensures.freed c.args.known.now c.forget_chain.new.self c.requires c.forget_chain.ensures.held c.forget_chain.ensures.full c.forget_chain.ensures.bare
