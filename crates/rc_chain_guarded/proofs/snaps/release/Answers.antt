use Rattle.std.specs.List.{AllByRecursion}
use Rattle.rc_chain_guarded.specs.calls.Inner.{IsOther}
use Rattle.std.proofs.Common.{refl, sym, ap, ◌∙◌, subst, arith}
use Rattle.rc_chain_guarded.proofs.Wholes.{known-released, released-still}
use Rattle.rc_chain_guarded.proofs.Turns.{others}
use Rattle.rc_memory.specs.Memory.{HasPin, Memory, without_snapshot}
use Rattle.rc_chain_guarded.proofs.snaps.release.Goals as goal

pub release-requires : goal.release-requires
release-requires c =
    let m = c.args.chains.now in let held = c.take-held.result in let p = c.requires.held held c.take-held.ensures.one in
    (omega arith, subst (λ i. HasPin m i c.snap_of.result.pin) (sym c.snap_of.ensures.chain) (subst (λ i. HasPin m held.chain i) (sym c.snap_of.ensures.pin) p))

pub returns : goal.returns
returns c =
    let m = c.args.chains.now in let n = c.release.new.self in let snap = c.snap_of.result in let e = c.release.ensures in
    known-released m n snap.chain (without_snapshot snap.pin) (ap (λ (x : Memory). x.chains) e) (ap (λ (x : Memory). x.recency) e) (λ k. refl) (λ k. refl) snap.pin (released-still snap.pin) c.args.known.now c.take-held.new.self c.requires
    (λ s on. (c.take-held.ensures.others s on, λ chain pin. others c.take-held.result c.take-held.new.self.held.items (subst (AllByRecursion (IsOther c.take-held.result)) c.as_slice.ensures.value (c.is_among.ensures c.if-is_among.false)) s on (chain ∙ c.snap_of.ensures.chain) (pin ∙ c.snap_of.ensures.pin)))
    c.take-held.ensures.full c.take-held.ensures.bare
