-- The row stands at the place or behind it, and is not empty.
use Rattle.std.proofs.Common.{refl, sym, ap, ◌∙◌, inl, inr}
use Rattle.std.specs.Ordering.{is_lt}
use Rattle.rc_position.specs.Position.{row_pos}
use Rattle.rc_cacheread.specs.calls.Below.{Filling}
use Rattle.rc_cacheread.proofs.Chains.{many-many, one, none}
use Rattle.rc_cacheread.proofs.Lists.{untrue}
use Rattle.rc_cacheread.proofs.Orders.{not-lt}
use Rattle.rc_cacheread.specs.Spots.{past_row, stand}
use Rattle.rc_cacheread.proofs.Passed.{taken-gap, taken-nothing, taken-row}
use Rattle.rc_cacheread.proofs.filling.take_row.Goals as goal

pub fill_gap-requires-clause-source : goal.fill_gap-requires-clause-source
fill_gap-requires-clause-source g c = (c.requires.source.0, c.requires.source.1, c.requires.source.2)

pub row-requires-clause-source : goal.row-requires-clause-source
row-requires-clause-source g c = (c.requires.source.0, c.fill_gap.ensures.stands c.requires.source.0 c.requires.source.1 c.requires.source.2, c.requires.source.3 (not-lt (row_pos c.args.key) c.args.spot.now.place (ap is_lt (sym c.compare_with_pos.ensures) ∙ sym c.is_lt.ensures ∙ c.if-is_lt.false)))

pub returns-then-is_empty-clause-took : goal.returns-then-is_empty-clause-took
returns-then-is_empty-clause-took g c = inr (not-lt (row_pos c.args.key) c.args.spot.now.place (ap is_lt (sym c.compare_with_pos.ensures) ∙ sym c.is_lt.ensures ∙ c.if-is_lt.false), refl, (refl, refl, refl), inl (c.is_empty.ensures.0 c.if-is_empty.true, refl))

pub returns-clause-took : goal.returns-clause-took
returns-clause-took g c = inr (not-lt (row_pos c.args.key) c.args.spot.now.place (ap is_lt (sym c.compare_with_pos.ensures) ∙ sym c.is_lt.ensures ∙ c.if-is_lt.false), refl, (refl, refl, refl), inr (λ e. untrue (sym (c.is_empty.ensures.1 e) ∙ c.if-is_empty.false), refl))

pub returns-clause-did : goal.returns-clause-did
returns-clause-did g c = many-many (λ ok. Filling g.P.Filler.fills) (c.args.filler.now, c.args.home.now) (c.fill_gap.new.filler, c.fill_gap.new.home) (c.row.new.self, c.row.new.home) c.fill_gap.ensures.did (one (λ ok. Filling g.P.Filler.fills) (c.fill_gap.new.filler, c.fill_gap.new.home) (c.row.new.self, c.row.new.home) c.row.ensures.did)

pub returns-then-is_lt-clause-taken : goal.returns-then-is_lt-clause-taken
returns-then-is_lt-clause-taken g c =
    taken-nothing g.P.Filler.may g.P.Filler.lost g.P.Filler.knows c.args.filler.now c.args.home.now c.args.spot.now.place (stand c.args.spot.now) (ap (λ z. past_row z c.args.spot.now.place) c.requires.unread)

pub returns-then-is_empty-clause-taken : goal.returns-then-is_empty-clause-taken
returns-then-is_empty-clause-taken g c =
    taken-gap g.P.Filler.may g.P.Filler.lost g.P.Filler.knows c.args.filler.now c.fill_gap.new.filler c.args.home.now c.fill_gap.new.home c.args.spot.now.place (row_pos c.args.key) (past_row c.args.spot.now.row (row_pos c.args.key)) c.args.spot.now.tomb (ap (λ z. past_row z (row_pos c.args.key)) c.requires.unread) c.fill_gap.ensures.taken

pub returns-clause-taken : goal.returns-clause-taken
returns-clause-taken g c =
    let p = c.args.filler.now in
    let h = c.args.home.now in
    let s = c.args.spot.now in
    taken-row g.P.Filler.may g.P.Filler.lost g.P.Filler.knows p c.fill_gap.new.filler c.row.new.self h c.fill_gap.new.home c.row.new.home s.place c.args.key c.args.row s.tomb s.tomb
    (c.requires.lost p h c.fill_gap.new.filler c.fill_gap.new.home (none (λ ok. Filling g.P.Filler.fills) (p, h)) c.fill_gap.ensures.did)
    (c.requires.lost c.fill_gap.new.filler c.fill_gap.new.home c.row.new.self c.row.new.home c.fill_gap.ensures.did (one (λ ok. Filling g.P.Filler.fills) (c.fill_gap.new.filler, c.fill_gap.new.home) (c.row.new.self, c.row.new.home) c.row.ensures.did))
    (not-lt (row_pos c.args.key) c.args.spot.now.place (ap is_lt (sym c.compare_with_pos.ensures) ∙ sym c.is_lt.ensures ∙ c.if-is_lt.false))
    (λ e. untrue (sym (c.is_empty.ensures.1 e) ∙ c.if-is_empty.false))
    c.fill_gap.ensures.taken
    (record { still = c.row.ensures.may; each = c.row.ensures.keeps; now = c.row.ensures.known })

pub returns-then-is_lt-clause-stands : goal.returns-then-is_lt-clause-stands
returns-then-is_lt-clause-stands g c = λ writes d t u. d

pub returns-then-is_empty-clause-stands : goal.returns-then-is_empty-clause-stands
returns-then-is_empty-clause-stands g c = λ writes d t u. c.fill_gap.ensures.stands writes d t

pub returns-clause-stands : goal.returns-clause-stands
returns-clause-stands g c = λ writes d t u. c.row.ensures.stands writes (c.fill_gap.ensures.stands writes d t) (u (not-lt (row_pos c.args.key) c.args.spot.now.place (ap is_lt (sym c.compare_with_pos.ensures) ∙ sym c.is_lt.ensures ∙ c.if-is_lt.false)))
