-- One fill, if the stretch is not empty.
use Rattle.std.proofs.Common.{ap, sym, ◌∙◌}
use Rattle.std.specs.Ordering.{is_lt}
use Rattle.rc_row_cache.specs.Crowds.{loses-nothing}
use Rattle.rc_cached.specs.calls.Parts.{of_its_filler}
use Rattle.rc_lookup.proofs.Fills.{filled-none}
use Rattle.rc_lookup.proofs.Orders.{never-before, not-lt, reach-through}
use Rattle.rc_lookup.proofs.filling.fill_gap.Goals as goal

pub returns-else-is_lt-clause-filled : goal.returns-else-is_lt-clause-filled
returns-else-is_lt-clause-filled g c = filled-none (of_its_filler g.row.S) c.args.filler.now c.args.home.now c.requires.ready

pub returns-else-is_lt-clause-known : goal.returns-else-is_lt-clause-known
returns-else-is_lt-clause-known g c = λ m e x h b.
    absurd (never-before x c.args.to.now (reach-through c.args.to.now c.args.from.now x (not-lt c.args.from.now c.args.to.now (ap is_lt (sym c.cmp.ensures) ∙ sym c.is_lt.ensures ∙ c.if-is_lt.false)) h) b)

pub returns-else-is_lt-clause-loses : goal.returns-else-is_lt-clause-loses
returns-else-is_lt-clause-loses g c = λ from to. loses-nothing g.row.S c.args.home.now
