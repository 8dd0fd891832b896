use Rattle.std.proofs.Common.{◌≡◌, refl, sym, ◌∙◌, subst}
use Rattle.std.specs.Prelude.{◌⊎◌}
use Rattle.std.specs.declared.cmp.Ordering.TheVariants.{Equal, Greater}
use Rattle.rc_reading.specs.calls.Gaps.{IsNextBehind}
use Rattle.rc_reading.proofs.Nearest.{is-nearer, none-nearer, not-nearer}
use Rattle.rc_reading.proofs.parts.nearer.Goals as goal

pub returns-in_default : goal.returns-in_default
returns-in_default g c = λ refs d to h k l. (to, k, none-nearer c.args.x.now to d.entries l (subst (IsNextBehind c.args.region.now c.args.x.now d.entries) c.in_default.is (c.next_behind.ensures refs d h)))

pub returns-in-Less : goal.returns-in-Less
returns-in-Less g c = λ refs d to h k l.
    let w = subst (IsNextBehind c.args.region.now c.args.x.now d.entries) c.in-Some.is (c.next_behind.ensures refs d h) in
    (w.0.position, (w.0, w.1, refl), is-nearer c.args.x.now to w.0.position d.entries w.2 w.3 w.4 (sym (c.order_to_end.ensures w.0 to w.1 k) ∙ c.in-Less.is))

pub returns-in-Equal : goal.returns-in-Equal
returns-in-Equal g c = λ refs d to h k l.
    let w = subst (IsNextBehind c.args.region.now c.args.x.now d.entries) c.in-Some.is (c.next_behind.ensures refs d h) in
    (to, k, not-nearer c.args.x.now to w.0.position d.entries l w.4 (subst (λ o. (o ≡ Equal) ⊎ (o ≡ Greater)) (c.order_to_end.ensures w.0 to w.1 k) c.in-Equal.is))
