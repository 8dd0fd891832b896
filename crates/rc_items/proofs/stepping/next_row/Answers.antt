-- What was read is the only row that may come; it fits where it is not empty, of the schema, and behind the fragment before.
use Rattle.std.proofs.Common.{◌≡◌, drop, sym, ap, subst, ◌∙◌}
use Rattle.std.specs.Prelude.{IfSome}
use Rattle.std.specs.declared.cmp.Ordering.TheVariants.{Less}
use Rattle.rc_position.specs.Position.{pos_cmp, row_pos}
use Rattle.rc_items.specs.Items.{item_code, RowItem, IsItem}
use Rattle.rc_items.specs.Outlined.{outline_place}
use Rattle.rc_items.specs.Reading.{Starts}
use Rattle.rc_items.specs.laws.Unfit.{only_row, row_unfit, refuted}
use Rattle.rc_items.proofs.stepping.next_row.Goals as goal

pub returns-in_default : goal.returns-in_default
returns-in_default c = λ before is ins.
    let none = subst (λ f. Starts (λ e. item_code (RowItem e.0 e.1)) (λ e. IsItem (RowItem e.0 e.1)) c.args.bytes.now f) c.in_default.is c.in_ok-keyed.ensures.value in
    only_row c.args.schema.now before c.args.bytes.now (is.inside ∙ ap outline_place ins) c.requires.bytes (λ key row more f e. none (key, row) more f.0 e)

pub returns-then-not-is_written_of : goal.returns-then-not-is_written_of
returns-then-not-is_written_of c = λ before is ins.
    let found = subst (λ f. Starts (λ e. item_code (RowItem e.0 e.1)) (λ e. IsItem (RowItem e.0 e.1)) c.args.bytes.now f) c.in-Some.is c.in_ok-keyed.ensures.value in
    only_row c.args.schema.now before c.args.bytes.now (is.inside ∙ ap outline_place ins) c.requires.bytes (row_unfit c.args.schema.now before c.args.bytes.now _ c.in-Some.keyed.0 c.in-Some.keyed.1 found.0 found.1
    (λ f. refuted c.is_written_of.result c.if-not-is_written_of.true (c.is_written_of.ensures.1 (f.1.2, f.1.3))))

pub returns-then-not-is_next_pos : goal.returns-then-not-is_next_pos
returns-then-not-is_next_pos c = λ before is ins.
    let found = subst (λ f. Starts (λ e. item_code (RowItem e.0 e.1)) (λ e. IsItem (RowItem e.0 e.1)) c.args.bytes.now f) c.in-Some.is c.in_ok-keyed.ensures.value in
    only_row c.args.schema.now before c.args.bytes.now (is.inside ∙ ap outline_place ins) c.requires.bytes (row_unfit c.args.schema.now before c.args.bytes.now _ c.in-Some.keyed.0 c.in-Some.keyed.1 found.0 found.1
    (λ f. refuted c.is_next_pos.result c.if-not-is_next_pos.true (c.is_next_pos.ensures.1 (subst (λ z. IfSome c.args.outline.now.last (λ y. pos_cmp y z ≡ Less)) (sym c.in_ok-x.ensures) (subst (λ k. IfSome k (λ y. pos_cmp y (row_pos c.in-Some.keyed.0) ≡ Less)) (sym is.last) f.1.1)))))

pub returns : goal.returns
returns c = λ before is ins.
    let found = subst (λ f. Starts (λ e. item_code (RowItem e.0 e.1)) (λ e. IsItem (RowItem e.0 e.1)) c.args.bytes.now f) c.in-Some.is c.in_ok-keyed.ensures.value in
    let next = subst (λ k. IfSome k (λ y. pos_cmp y (row_pos c.in-Some.keyed.0) ≡ Less)) is.last (subst (λ z. IfSome c.args.outline.now.last (λ y. pos_cmp y z ≡ Less)) c.in_ok-x.ensures (c.is_next_pos.ensures.0 c.if-not-is_next_pos.false)) in
    let written = c.is_written_of.ensures.0 c.if-not-is_written_of.false in
    (RowItem c.in-Some.keyed.0 c.in-Some.keyed.1, drop c.in-Some.size c.args.bytes.now, (found.0, (is.inside ∙ ap outline_place ins, next, written.0, written.1)), found.1, found.2, c.in_ok-fragment.ensures.outline before (RowItem c.in-Some.keyed.0 c.in-Some.keyed.1) is (c.in_ok-x.ensures, is.tomb) found.2)
