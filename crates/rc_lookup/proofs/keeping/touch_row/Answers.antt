-- Version by version, from the oldest.
use Rattle.std.proofs.Common.{◌≡◌, Some, arith}
use Rattle.rc_position.specs.Position.{row_pos}
use Rattle.rc_lookup.proofs.Given.{below-all, below-start, below-step, version-one}
use Rattle.rc_lookup.proofs.Placed.{has-number}
use Rattle.rc_lookup.proofs.keeping.touch_row.Goals as goal

pub loop-number-init : goal.loop-number-init
loop-number-init g c = below-start c.args.id (λ p. p ≡ Some (row_pos c.args.key.now)) c.args.chains.now

pub touch_entry-requires : goal.touch_entry-requires
touch_entry-requires g c =
    (omega arith, has-number c.args.chains.now c.loop-number.chains c.args.id c.loop-number.number c.versions-number-end.result c.loop-number.invariant.same c.requires c.versions-number-end.ensures c.loop-number-test.true)

pub loop-number-preserved : goal.loop-number-preserved
loop-number-preserved g c =
    below-step c.args.id c.loop-number.number (λ p. p ≡ Some (row_pos c.args.key.now)) c.args.chains.now c.loop-number.chains c.touch_entry.new.chains c.loop-number.invariant
    (version-one c.args.id c.loop-number.number (Some (row_pos c.args.key.now)) c.loop-number.chains c.touch_entry.new.chains c.touch_entry.ensures)

pub returns : goal.returns
returns g c =
    below-all c.args.id c.loop-number.number (λ p. p ≡ Some (row_pos c.args.key.now)) c.args.chains.now c.loop-number.chains c.known.ensures.rule c.requires
    (λ k there. (let all = c.versions-number-end.ensures k there in let end = c.loop-number-test.false in omega (arith, all, end))) c.loop-number.invariant
