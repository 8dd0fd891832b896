use Rattle.std.proofs.Common.{sym, ◌∙◌, subst}
use Rattle.rc_chain_guarded.proofs.Wholes.{chain-there, known-pinned, taken-there}
use Rattle.rc_memory.specs.Memory.{HasPin}
use Rattle.rc_chain_guarded.specs.declared.known.Held.{Held}
use Rattle.rc_chain_guarded.proofs.snaps.snapshot.Goals as goal

pub hold-requires-clause-known : goal.hold-requires-clause-known
hold-requires-clause-known c = let t = c.in-Ok.ensures.taken in known-pinned c.args.chains.now c.snapshot.new.self c.args.id c.in-Ok.snap.pin c.in-Ok.snap.phase t.1 c.args.known.now c.requires

pub hold-requires-clause-there : goal.hold-requires-clause-there
hold-requires-clause-there c =
    let t = c.in-Ok.ensures.taken in let n = c.snapshot.new.self in let k = chain-there c.args.chains.now c.args.id (sym c.is_there.ensures ∙ c.if-not-is_there.false) in
    subst (λ (h : Held). HasPin n h.chain h.pin) (sym c.held_of.ensures) (subst (λ i. HasPin n i c.in-Ok.snap.pin) (sym t.0) (taken-there c.args.chains.now n c.args.id c.in-Ok.snap.pin c.in-Ok.snap.phase t.1 k.0 k.1))
