use Rattle.std.proofs.Common.{subst, sym}
use Rattle.rc_core.specs.AtPlace.{EachEntry, HasEntryAt}
use Rattle.rc_core.specs.calls.AtPlace.{FitsPlace}
use Rattle.rc_core.specs.Slow.{plain}
use Rattle.rc_core.specs.laws.Placed.{entries-of-placed, placed-by-entries}
use Rattle.rc_core.proofs.place.is_at_place.Goals as goal

pub returns-then-has_entry_at-clause-only : goal.returns-then-has_entry_at-clause-only
returns-then-has_entry_at-clause-only c = λ t.
    placed-by-entries c.args.place.now (plain c.args.version.now)
    (subst (HasEntryAt c.args.place.now) c.as_slice.ensures.value (c.has_entry_at.ensures.0 c.if-has_entry_at.true))
    (subst (EachEntry (FitsPlace c.args.place.now)) c.as_slice-then-has_entry_at.ensures.value (c.each_fits.ensures.0 t))

pub returns-then-has_entry_at-clause-everywhere : goal.returns-then-has_entry_at-clause-everywhere
returns-then-has_entry_at-clause-everywhere c = λ a h.
    c.each_fits.ensures.1
    (subst (EachEntry (FitsPlace c.args.place.now)) (sym c.as_slice-then-has_entry_at.ensures.value) (entries-of-placed c.args.place.now (plain c.args.version.now) a h).1)
