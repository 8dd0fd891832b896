-- One fill, if the stretch is not empty.
use Rattle.std.proofs.Common.{refl, ap, sym, ◌∙◌}
use Rattle.rc_cacheread.specs.laws.Orders.{never-before, reach-through}
use Rattle.rc_cacheread.proofs.Orders.{not-lt}
use Rattle.std.specs.Ordering.{is_lt}
use Rattle.rc_cacheread.proofs.filling.fill_gap.Goals as goal

pub returns-then-is_lt-clause-did : goal.returns-then-is_lt-clause-did
returns-then-is_lt-clause-did g c = (1, ((c.gap.new.self, c.gap.new.home), c.gap.ensures.did, refl))

pub returns-then-is_lt-clause-taken : goal.returns-then-is_lt-clause-taken
returns-then-is_lt-clause-taken g c =
    record { still = c.gap.ensures.may; each = c.gap.ensures.keeps; now = c.gap.ensures.known }

pub returns-else-is_lt-clause-taken : goal.returns-else-is_lt-clause-taken
returns-else-is_lt-clause-taken g c =
    record { still = λ m. m; each = λ m e x v d. d; now = λ m e x h b. absurd (never-before x c.args.to.now (reach-through c.args.to.now c.args.from.now x (not-lt c.args.from.now c.args.to.now (ap is_lt (sym c.cmp.ensures) ∙ sym c.is_lt.ensures ∙ c.if-is_lt.false)) h) b) }

pub gap-requires-clause-source : goal.gap-requires-clause-source
gap-requires-clause-source g c = c.requires.source

pub returns-then-is_lt-clause-stands : goal.returns-then-is_lt-clause-stands
returns-then-is_lt-clause-stands g c = c.gap.ensures.stands

pub returns-else-is_lt-clause-stands : goal.returns-else-is_lt-clause-stands
returns-else-is_lt-clause-stands g c = λ writes d t. d
