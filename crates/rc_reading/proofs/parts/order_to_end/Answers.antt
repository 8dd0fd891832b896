use Rattle.std.proofs.Common.{arith, sym, ap, ◌∙◌, subst}
use Rattle.rc_position.specs.Position.{pos_cmp}
use Rattle.rc_reading.specs.calls.Gaps.{IsGapEnd}
use Rattle.rc_reading.proofs.Nearest.{place-coded}
use Rattle.rc_reading.proofs.parts.order_to_end.Goals as goal

pub position_code-requires : goal.position_code-requires
position_code-requires g c = let k = subst (λ o. IsGapEnd c.args.region.now c.args.upto.now o c.requires.end.0) c.in-Some.is c.requires.end.1 in (omega arith, (k.0, k.1))

pub returns-in-Some : goal.returns-in-Some
returns-in-Some g c = λ e to h k.
    let w = subst (λ o. IsGapEnd c.args.region.now c.args.upto.now o to) c.in-Some.is k in
    c.compare_codes.ensures e.position w.0.position (place-coded c.args.region.now c.args.next e h) (place-coded c.args.region.now c.in-Some.r w.0 w.1) (c.position_code-code.ensures e h) (c.position_code.ensures w.0 w.1) ∙ ap (pos_cmp e.position) w.2

pub returns-in-None : goal.returns-in-None
returns-in-None g c = λ e to h k.
    c.compare_code_with_pos.ensures e.position (place-coded c.args.region.now c.args.next e h) (c.position_code-code.ensures e h) ∙ ap (pos_cmp e.position) (sym (subst (λ o. IsGapEnd c.args.region.now c.args.upto.now o to) c.in-None.is k))
