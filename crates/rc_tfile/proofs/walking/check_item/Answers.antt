-- One item more, the stop, or none that fits.
use Rattle.std.proofs.Common.{List, ℕ, subst}
use Rattle.rc_items.specs.Before.{text}
use Rattle.rc_items.specs.laws.Unfit.{Nothing}
use Rattle.rc_tfile.proofs.Turns.{item_more, stop_next, item_damage}
use Rattle.rc_tfile.proofs.walking.check_item.Goals as goal

pub returns-in-Ok-Fits-clause-next : goal.returns-in-Ok-Fits-clause-next
returns-in-Ok-Fits-clause-next g c =
    let so_far = c.requires.stands in
    let step = rw c.in-Ok-Fits.field-0-is at (c.in-Ok-Fits.ensures so_far.before so_far.outline) in
    item_more (g.W.Store.files c.refill.new.store) c.args.schema.now so_far.before so_far.fit c.ahead.result.now c.next_item.new.outline c.refill.new.self c.advance.new.self c.in-Ok-Fits.size (c.in_ok-refill.ensures.told (text so_far.before) so_far.told)
    c.ahead.ensures.value step c.advance.ensures.value

pub returns-in-Ok-Stops-clause-next : goal.returns-in-Ok-Stops-clause-next
returns-in-Ok-Stops-clause-next g c =
    let so_far = c.requires.stands in
    let step = rw c.in-Ok-Stops.field-0-is at (c.in-Ok-Stops.ensures so_far.before so_far.outline) in
    stop_next (g.W.Store.files c.refill.new.store) c.args.schema.now so_far.before so_far.fit c.ahead.result.now c.next_item.new.outline c.refill.new.self c.advance-in-Ok-Stops.new.self (c.in_ok-refill.ensures.told (text so_far.before) so_far.told)
    c.ahead.ensures.value step c.advance-in-Ok-Stops.ensures.value

pub returns-in-Ok-Unfit-clause-refused : goal.returns-in-Ok-Unfit-clause-refused
returns-in-Ok-Unfit-clause-refused g c =
    let so_far = c.requires.stands in
    let none = rw c.in-Ok-Unfit.field-0-is at (c.in-Ok-Unfit.ensures so_far.before so_far.outline) in
    item_damage (g.W.Store.files c.refill.new.store) c.args.schema.now so_far.before so_far.fit c.args.outline.now c.refill.new.self c.offset.result so_far.outline (c.in_ok-refill.ensures.told (text so_far.before) so_far.told)
    c.in_ok-refill.ensures.full c.offset.ensures (subst (λ (b : List ℕ). Nothing c.args.schema.now so_far.before b) c.ahead.ensures.value none)
