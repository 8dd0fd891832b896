-- What was read is the only change that may come; it fits where it changes the tombstone in force, at a bound, behind the fragment before.
use Rattle.std.proofs.Common.{◌≡◌, drop, refl, sym, ap, subst, ◌∙◌}
use Rattle.std.specs.Prelude.{IfSome}
use Rattle.std.specs.declared.cmp.Ordering.TheVariants.{Less}
use Rattle.rc_position.specs.Position.{pos_cmp}
use Rattle.rc_items.specs.Items.{item_code, ChangeItem, IsItem}
use Rattle.rc_items.specs.Outlined.{outline_place}
use Rattle.rc_items.specs.Reading.{Starts}
use Rattle.rc_items.specs.laws.Unfit.{only_change, change_unfit, refuted}
use Rattle.rc_items.proofs.stepping.next_change.Goals as goal

pub returns-in_default : goal.returns-in_default
returns-in_default c = λ before is ins.
    let none = subst (λ f. Starts (λ e. item_code (ChangeItem e.0 e.1)) (λ e. IsItem (ChangeItem e.0 e.1)) c.args.bytes.now f) c.in_default.is c.in_ok-change.ensures.value in
    only_change c.args.schema.now before c.args.bytes.now (is.inside ∙ ap outline_place ins) c.requires.bytes (λ x tomb more f e. none (x, tomb) more f.0 e)

pub returns-then-is_same_tomb : goal.returns-then-is_same_tomb
returns-then-is_same_tomb c = λ before is ins.
    let found = subst (λ f. Starts (λ e. item_code (ChangeItem e.0 e.1)) (λ e. IsItem (ChangeItem e.0 e.1)) c.args.bytes.now f) c.in-Some.is c.in_ok-change.ensures.value in
    only_change c.args.schema.now before c.args.bytes.now (is.inside ∙ ap outline_place ins) c.requires.bytes (change_unfit c.args.schema.now before c.args.bytes.now _ c.in-Some.change.0 c.in-Some.change.1 found.0 found.1 (λ f. f.1.3 (c.is_same_tomb.ensures.0 c.if-is_same_tomb.true ∙ is.tomb)))

pub returns-then-not-is_bound_of : goal.returns-then-not-is_bound_of
returns-then-not-is_bound_of c = λ before is ins.
    let found = subst (λ f. Starts (λ e. item_code (ChangeItem e.0 e.1)) (λ e. IsItem (ChangeItem e.0 e.1)) c.args.bytes.now f) c.in-Some.is c.in_ok-change.ensures.value in
    only_change c.args.schema.now before c.args.bytes.now (is.inside ∙ ap outline_place ins) c.requires.bytes (change_unfit c.args.schema.now before c.args.bytes.now _ c.in-Some.change.0 c.in-Some.change.1 found.0 found.1
    (λ f. refuted c.is_bound_of.result c.if-not-is_bound_of.true (c.is_bound_of.ensures.1 f.1.2)))

pub returns-then-not-is_next_pos : goal.returns-then-not-is_next_pos
returns-then-not-is_next_pos c = λ before is ins.
    let found = subst (λ f. Starts (λ e. item_code (ChangeItem e.0 e.1)) (λ e. IsItem (ChangeItem e.0 e.1)) c.args.bytes.now f) c.in-Some.is c.in_ok-change.ensures.value in
    only_change c.args.schema.now before c.args.bytes.now (is.inside ∙ ap outline_place ins) c.requires.bytes (change_unfit c.args.schema.now before c.args.bytes.now _ c.in-Some.change.0 c.in-Some.change.1 found.0 found.1
    (λ f. refuted c.is_next_pos.result c.if-not-is_next_pos.true (c.is_next_pos.ensures.1 (subst (λ k. IfSome k (λ y. pos_cmp y c.in-Some.change.0 ≡ Less)) (sym is.last) f.1.1))))

pub returns : goal.returns
returns c = λ before is ins.
    let found = subst (λ f. Starts (λ e. item_code (ChangeItem e.0 e.1)) (λ e. IsItem (ChangeItem e.0 e.1)) c.args.bytes.now f) c.in-Some.is c.in_ok-change.ensures.value in
    let next = subst (λ k. IfSome k (λ y. pos_cmp y c.in-Some.change.0 ≡ Less)) is.last (c.is_next_pos.ensures.0 c.if-not-is_next_pos.false) in
    let bound = c.is_bound_of.ensures.0 c.if-not-is_bound_of.false in
    (ChangeItem c.in-Some.change.0 c.in-Some.change.1, drop c.in-Some.size c.args.bytes.now, (found.0, (is.inside ∙ ap outline_place ins, next, bound, λ e. refuted c.is_same_tomb.result c.if-is_same_tomb.false (c.is_same_tomb.ensures.1 (e ∙ sym is.tomb)))), found.1, found.2, c.in_ok-fragment.ensures.outline before (ChangeItem c.in-Some.change.0 c.in-Some.change.1) is (refl, refl) found.2)
