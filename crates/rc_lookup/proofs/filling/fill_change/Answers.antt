-- The gap before it.
use Rattle.std.proofs.Common.{sym, subst}
use Rattle.rc_position.specs.declared.positions.Pos.{Pos}
use Rattle.rc_rowcode.specs.Spelling.{KeyFits}
use Rattle.rc_lookup.specs.calls.Filling.{SaysNone}
use Rattle.rc_cached.specs.calls.Parts.{of_its_filler}
use Rattle.rc_lookup.proofs.Fills.{known-gap}
use Rattle.rc_lookup.proofs.filling.fill_change.Goals as goal

pub returns-clause-known : goal.returns-clause-known
returns-clause-known g c =
    known-gap (of_its_filler g.row.S) c.args.filler.now c.args.home.now c.args.filler.now c.fill_gap.new.home c.args.reached.now.at c.in_ok-at.at c.args.from.now c.args.reached.now.tomb c.in_ok-at.ensures c.fill_gap.ensures.filled c.fill_gap.ensures.known

pub returns-clause-loses : goal.returns-clause-loses
returns-clause-loses g c = λ at from. c.fill_gap.ensures.loses at (subst (λ (x : Pos). KeyFits x.prefix) (sym c.in_ok-at.ensures) from)

pub returns-clause-stands : goal.returns-clause-stands
returns-clause-stands g c = λ writes stood says. c.fill_gap.ensures.stands writes stood (subst (λ (x : Pos). SaysNone writes c.args.reached.now.at x c.args.reached.now.tomb) (sym c.in_ok-at.ensures) says)
