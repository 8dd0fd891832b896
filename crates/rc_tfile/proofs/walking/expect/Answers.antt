-- The bytes are ahead, or the file goes on with others.
use Rattle.std.proofs.Common.{length, refl, sym, ◌∙◌}
use Rattle.rc_items.specs.laws.Unfit.{refuted}
use Rattle.rc_tfile.proofs.Turns.{told_past}
use Rattle.rc_tfile.proofs.Awaiting.{miss}
use Rattle.rc_tfile.proofs.walking.expect.Goals as goal

pub returns-then-not-begins-clause-next : goal.returns-then-not-begins-clause-next
returns-then-not-begins-clause-next g c = λ front told.
    miss (g.W.Store.files c.refill.new.store) front c.args.code.now c.refill.new.self c.offset.result c.requires.short (c.in_ok-refill.ensures.told front told) c.in_ok-refill.ensures.full c.offset.ensures
    (λ rest e. refuted c.begins.result c.if-not-begins.true (c.begins.ensures.1 (rest, c.ahead.ensures.value ∙ e)))

pub returns-clause-next : goal.returns-clause-next
returns-clause-next g c = λ front told.
    let there = c.begins.ensures.0 c.if-not-begins.false in
    told_past (g.W.Store.files c.refill.new.store) front c.args.code.now there.0 c.refill.new.self c.advance.new.self (length c.args.code.now) (c.in_ok-refill.ensures.told front told) (sym c.ahead.ensures.value ∙ there.1) refl c.advance.ensures.value
