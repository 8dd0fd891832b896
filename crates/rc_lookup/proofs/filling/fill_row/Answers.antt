-- The gap before it, and then the row.
use Rattle.std.proofs.Common.{List, sym, subst, arith}
use Rattle.rc_position.specs.declared.comps.Comp.{Comp}
use Rattle.rc_position.specs.Position.{row_pos}
use Rattle.rc_rowcode.specs.Spelling.{KeyFits}
use Rattle.rc_row_cache.specs.Crowds.{loses-after}
use Rattle.rc_lookup.specs.calls.Filling.{SaysNone}
use Rattle.rc_cached.specs.calls.Parts.{of_its_filler}
use Rattle.rc_lookup.proofs.Fills.{filled-then, known-row}
use Rattle.rc_lookup.proofs.filling.fill_row.Goals as goal

pub returns-clause-filled : goal.returns-clause-filled
returns-clause-filled g c =
    filled-then (of_its_filler g.row.S) c.args.filler.now c.args.home.now c.args.filler.now c.fill_gap.new.home c.args.filler.now c.take_row.new.home c.fill_gap.ensures.filled c.take_row.ensures.filled

pub returns-clause-known : goal.returns-clause-known
returns-clause-known g c =
    known-row (of_its_filler g.row.S) c.args.filler.now c.args.home.now c.args.filler.now c.fill_gap.new.home c.args.filler.now c.take_row.new.home c.args.reached.now.at c.in_ok-copy.field-0 c.args.key.now c.args.row.now c.args.reached.now.tomb c.in_ok-copy.ensures c.fill_gap.ensures.filled c.take_row.ensures.filled c.fill_gap.ensures.known c.take_row.ensures.known

pub returns-clause-loses : goal.returns-clause-loses
returns-clause-loses g c = λ at key written. loses-after g.row.S 0 c.args.home.now c.fill_gap.new.home c.take_row.new.home (c.fill_gap.ensures.loses at (subst KeyFits (sym c.in_ok-copy.ensures) key)) (c.take_row.ensures.loses written)

pub take_row-requires : goal.take_row-requires
take_row-requires g c =
    let source = c.requires.source in
    let none = subst (λ (k : List Comp). SaysNone source.0 c.args.reached.now.at (row_pos k) c.args.reached.now.tomb) (sym c.in_ok-copy.ensures) source.2 in
    (omega arith, (c.fill_gap.ensures.filled.ready, (source.0, c.fill_gap.ensures.stands source.0 source.1 none, source.3)))

pub returns-clause-stands : goal.returns-clause-stands
returns-clause-stands g c = λ writes stood says.
    let none = subst (λ (k : List Comp). SaysNone writes c.args.reached.now.at (row_pos k) c.args.reached.now.tomb) (sym c.in_ok-copy.ensures) says.0 in
    c.take_row.ensures.stands writes (c.fill_gap.ensures.stands writes stood none) says.1
