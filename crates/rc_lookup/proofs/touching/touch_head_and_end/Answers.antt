-- Version by version, from the oldest.
use Rattle.std.proofs.Common.{◌≡◌, ◌⊎◌, None, Some, ap, ◌∙◌, arith}
use Rattle.rc_core.specs.Version.{end_position}
use Rattle.rc_memory.specs.Memory.{Memory, listed_as}
use Rattle.rc_lookup.proofs.Given.{below-all, below-start, below-step, version-two}
use Rattle.rc_lookup.proofs.Placed.{has-number}
use Rattle.rc_lookup.proofs.touching.touch_head_and_end.Goals as goal

pub loop-number-init : goal.loop-number-init
loop-number-init g c = below-start c.args.id (λ p. (p ≡ None) ⊎ (p ≡ Some end_position)) c.args.chains.now

pub touch_static-requires : goal.touch_static-requires
touch_static-requires g c =
    (omega arith, has-number c.args.chains.now c.loop-number.chains c.args.id c.loop-number.number c.versions-number-end.result c.loop-number.invariant.same c.requires c.versions-number-end.ensures c.loop-number-test.true)

pub touch_end-requires : goal.touch_end-requires
touch_end-requires g c =
    let new = c.touch_static.new.chains in
    (omega arith, has-number c.args.chains.now new c.args.id c.loop-number.number c.versions-number-end.result (c.touch_static.ensures.same ∙ ap (λ (m : Memory). listed_as new.recency new.region m) c.loop-number.invariant.same) c.requires c.versions-number-end.ensures c.loop-number-test.true)

pub loop-number-preserved : goal.loop-number-preserved
loop-number-preserved g c =
    below-step c.args.id c.loop-number.number (λ p. (p ≡ None) ⊎ (p ≡ Some end_position)) c.args.chains.now c.loop-number.chains c.touch_end.new.chains c.loop-number.invariant
    (version-two c.args.id c.loop-number.number None (Some end_position) c.loop-number.chains c.touch_static.new.chains c.touch_end.new.chains c.touch_static.ensures c.touch_end.ensures)

pub returns : goal.returns
returns g c =
    below-all c.args.id c.loop-number.number (λ p. (p ≡ None) ⊎ (p ≡ Some end_position)) c.args.chains.now c.loop-number.chains c.known.ensures.rule c.requires
    (λ k there. (let all = c.versions-number-end.ensures k there in let end = c.loop-number-test.false in omega (arith, all, end))) c.loop-number.invariant
