use Rattle.std.proofs.Common.{◌≡◌, Some, None, sym, ap, ◌∙◌}
use Rattle.std.specs.Option.{option_copied}
use Rattle.rc_position.specs.laws.Bounds.{first_pos-least}
use Rattle.rc_ranges.specs.calls.Sweep.{earlier, next_bound}
use Rattle.rc_ranges.specs.laws.Order.{gt-lt}
use Rattle.rc_ranges.proofs.Sweeping.{IsSwept-none, IsSwept-more, IsSwept-all, bounds-fall}
use Rattle.rc_ranges.proofs.sweep.joined.Goals as goal

pub loop-next-init : goal.loop-next-init
loop-next-init c =
    rw (c.new-made.ensures.items, c.empty.ensures)
    (IsSwept-none c.args.ours.now c.args.theirs.now _ c.requires.ours_canonical c.requires.theirs_canonical (λ x. sym (gt-lt _ x) ∙ first_pos-least x))

pub loop-next-smaller : goal.loop-next-smaller
loop-next-smaller c =
    let next : earlier (next_bound c.loop-next.xs.now c.loop-next.mark.now) (next_bound c.loop-next.ys.now c.loop-next.mark.now) ≡ Some c.in-Some.next.now =
    sym (c.in-Some.ensures ∙ (λ i. earlier (c.bound_behind.ensures i) (c.bound_behind-in-loop-next.ensures i))) in
    rw (c.pieces_from-xs.ensures, c.pieces_from-ys.ensures) (bounds-fall _ _ _ _ _ _ _ c.loop-next.invariant next)

pub loop-next-preserved : goal.loop-next-preserved
loop-next-preserved c =
    let next : earlier (next_bound c.loop-next.xs.now c.loop-next.mark.now) (next_bound c.loop-next.ys.now c.loop-next.mark.now) ≡ Some c.in-Some.next.now =
    sym (c.in-Some.ensures ∙ (λ i. earlier (c.bound_behind.ensures i) (c.bound_behind-in-loop-next.ensures i))) in
    rw (c.in_ok-extend_by.ensures, c.greater_of-tomb.ensures, c.tomb_in_force.ensures, c.tomb_in_force-in-Some.ensures, c.pieces_from-xs.ensures, c.pieces_from-ys.ensures)
    (IsSwept-more _ _ _ _ _ _ _ c.loop-next.invariant next)

pub returns-clause-join : goal.returns-clause-join
returns-clause-join c =
    let none : earlier (next_bound c.loop-next.xs.now c.loop-next.mark.now) (next_bound c.loop-next.ys.now c.loop-next.mark.now) ≡ None =
    sym (λ i. earlier (c.bound_behind.ensures i) (c.bound_behind-in-loop-next.ensures i)) ∙ sym c.earlier_of.ensures ∙ ap option_copied c.in_default.is in
    IsSwept-all _ _ _ _ _ _ c.loop-next.invariant none
