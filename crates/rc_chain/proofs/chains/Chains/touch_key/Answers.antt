use Rattle.std.proofs.Common.{subst, arith}
use Rattle.rc_position.specs.Position.{row_pos}
use Rattle.rc_chain.proofs.Touching.{IsTouchingKey, touched-all, touching-has, touching-start, touching-step}
use Rattle.rc_chain.proofs.chains.Chains.touch_key.Goals as goal

pub loop-number-init : goal.loop-number-init
loop-number-init g c =
    (omega arith, touching-start c.args.s.now.chain (row_pos c.args.key.now) c.args.self.now c.known.ensures.rule.once)

pub touch_one-requires : goal.touch_one-requires
touch_one-requires g c =
    (omega arith, touching-has c.args.s.now.chain c.args.s.now.pin c.pinned_at-last.result (row_pos c.args.key.now) c.args.self.now c.requires c.pinned_at-last.ensures c.known.ensures.sound c.loop-number.number c.loop-number.self c.loop-number.invariant.1 c.loop-number.number (let low = c.loop-number-test.true in omega (arith, low)))

pub loop-number-preserved : goal.loop-number-preserved
loop-number-preserved g c =
    ((let low = c.loop-number-test.true in omega (arith, low)), touching-step c.args.s.now.chain (row_pos c.args.key.now) c.loop-number.number c.args.self.now c.loop-number.self c.touch_one.new.self c.loop-number.invariant.1 c.touch_one.ensures.touched c.touch_one.ensures.unlisted c.touch_one.ensures.objects c.touch_one.ensures.still)

pub touch_one-requires-2 : goal.touch_one-requires-2
touch_one-requires-2 g c =
    (omega arith, touching-has c.args.s.now.chain c.args.s.now.pin c.pinned_at-last.result (row_pos c.args.key.now) c.args.self.now c.requires c.pinned_at-last.ensures c.known.ensures.sound c.loop-number.number c.loop-number.self c.loop-number.invariant.1 c.pinned_at-last.result (omega arith))

pub returns-clause-touched : goal.returns-clause-touched
returns-clause-touched g c =
    touched-all c.args.s.now.chain c.args.s.now.pin c.pinned_at-last.result (row_pos c.args.key.now) c.args.self.now c.requires c.pinned_at-last.ensures c.known.ensures.sound c.touch_one-2.new.self (touching-step c.args.s.now.chain (row_pos c.args.key.now) c.pinned_at-last.result c.args.self.now c.loop-number.self c.touch_one-2.new.self (subst (λ n. IsTouchingKey c.args.s.now.chain (row_pos c.args.key.now) n c.args.self.now c.loop-number.self) (let up = c.loop-number.invariant.0 in let end = c.loop-number-test.false in omega (arith, up, end)) c.loop-number.invariant.1) c.touch_one-2.ensures.touched c.touch_one-2.ensures.unlisted c.touch_one-2.ensures.objects c.touch_one-2.ensures.still)

pub returns-clause-objects : goal.returns-clause-objects
returns-clause-objects g c =
    (touching-step c.args.s.now.chain (row_pos c.args.key.now) c.pinned_at-last.result c.args.self.now c.loop-number.self c.touch_one-2.new.self (subst (λ n. IsTouchingKey c.args.s.now.chain (row_pos c.args.key.now) n c.args.self.now c.loop-number.self) (let up = c.loop-number.invariant.0 in let end = c.loop-number-test.false in omega (arith, up, end)) c.loop-number.invariant.1) c.touch_one-2.ensures.touched c.touch_one-2.ensures.unlisted c.touch_one-2.ensures.objects c.touch_one-2.ensures.still).objects

pub returns-clause-still : goal.returns-clause-still
returns-clause-still g c =
    (touching-step c.args.s.now.chain (row_pos c.args.key.now) c.pinned_at-last.result c.args.self.now c.loop-number.self c.touch_one-2.new.self (subst (λ n. IsTouchingKey c.args.s.now.chain (row_pos c.args.key.now) n c.args.self.now c.loop-number.self) (let up = c.loop-number.invariant.0 in let end = c.loop-number-test.false in omega (arith, up, end)) c.loop-number.invariant.1) c.touch_one-2.ensures.touched c.touch_one-2.ensures.unlisted c.touch_one-2.ensures.objects c.touch_one-2.ensures.still).still
