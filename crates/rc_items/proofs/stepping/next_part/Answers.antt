-- What was read is the only part that may come; it fits where its key and its static row do.
use Rattle.std.proofs.Common.{◌≡◌, drop, sym, ap, subst, ◌∙◌}
use Rattle.std.specs.Prelude.{IfSome}
use Rattle.std.specs.declared.cmp.Ordering.TheVariants.{Less}
use Rattle.rc_position.specs.Position.{bytes_cmp}
use Rattle.rc_items.specs.Items.{item_code, PartItem, IsItem}
use Rattle.rc_items.specs.Outlined.{outline_place}
use Rattle.rc_items.specs.Reading.{Starts, part_item}
use Rattle.rc_items.specs.Before.{last_part}
use Rattle.rc_items.proofs.Outlines.{above_key, above_part}
use Rattle.rc_items.specs.laws.Unfit.{nothing_between, part_unfit, refuted}
use Rattle.rc_items.proofs.stepping.next_part.Goals as goal

pub returns-in_default : goal.returns-in_default
returns-in_default c = λ before is ins.
    let none = subst (λ f. Starts (λ p. item_code (part_item p)) (λ p. IsItem (part_item p)) c.args.bytes.now f) c.in_default.is c.in_ok-part.ensures.value in
    nothing_between c.args.schema.now before c.args.bytes.now (is.inside ∙ ap outline_place ins) (λ key pt statics more f e. none (record { key = key; head = record { pt = pt; statics = statics } }) more f.0 e) c.requires

pub returns-then-not-is_next_key : goal.returns-then-not-is_next_key
returns-then-not-is_next_key c = λ before is ins.
    let found = subst (λ f. Starts (λ p. item_code (part_item p)) (λ p. IsItem (part_item p)) c.args.bytes.now f) c.in-Some.is c.in_ok-part.ensures.value in
    nothing_between c.args.schema.now before c.args.bytes.now (is.inside ∙ ap outline_place ins)
    (part_unfit c.args.schema.now before c.args.bytes.now _ c.in-Some.part.key c.in-Some.part.head.pt c.in-Some.part.head.statics found.0 found.1
    (λ f. refuted c.is_next_key.result c.if-not-is_next_key.true (c.is_next_key.ensures.1 (subst (λ k. IfSome k (λ x. bytes_cmp x c.in-Some.part.key ≡ Less)) (sym is.key) (above_key c.in-Some.part.key (last_part before) f.1.1))))) c.requires

pub returns-then-not-is_static_of : goal.returns-then-not-is_static_of
returns-then-not-is_static_of c = λ before is ins.
    let found = subst (λ f. Starts (λ p. item_code (part_item p)) (λ p. IsItem (part_item p)) c.args.bytes.now f) c.in-Some.is c.in_ok-part.ensures.value in
    nothing_between c.args.schema.now before c.args.bytes.now (is.inside ∙ ap outline_place ins)
    (part_unfit c.args.schema.now before c.args.bytes.now _ c.in-Some.part.key c.in-Some.part.head.pt c.in-Some.part.head.statics found.0 found.1
    (λ f. refuted c.is_static_of.result c.if-not-is_static_of.true (c.is_static_of.ensures.1 f.1.2))) c.requires

pub returns : goal.returns
returns c = λ before is ins.
    let found = subst (λ f. Starts (λ p. item_code (part_item p)) (λ p. IsItem (part_item p)) c.args.bytes.now f) c.in-Some.is c.in_ok-part.ensures.value in
    let key = above_part c.in-Some.part.key (last_part before) (subst (λ k. IfSome k (λ x. bytes_cmp x c.in-Some.part.key ≡ Less)) is.key (c.is_next_key.ensures.0 c.if-not-is_next_key.false)) in
    let row = c.is_static_of.ensures.0 c.if-not-is_static_of.false in
    (PartItem c.in-Some.part.key c.in-Some.part.head.pt c.in-Some.part.head.statics, drop c.in-Some.size c.args.bytes.now, (found.0, (is.inside ∙ ap outline_place ins, key, row)), found.1, found.2, c.in_ok-part-2.ensures.outline before c.in-Some.part.head.pt c.in-Some.part.head.statics is found.2)
