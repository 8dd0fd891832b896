use Rattle.std.proofs.Common.{ap, ◌∙◌, arith, map}
use Rattle.rc_core.specs.Change.{entry_changed, gap_split, raised_mark}
use Rattle.rc_units.proofs.Writing.{all-made}
use Rattle.rc_units.proofs.update.raise_entries.Goals as goal

pub returns : goal.returns
returns c =
    all-made (entry_changed (raised_mark c.args.tomb) c.args.from.now c.args.to.now) c.loop-entry.made.items c.deref-entry-items.result.now c.loop-entry.entry-index (omega (arith, c.loop-entry-test.false)) c.loop-entry.invariant
    ∙ ap (map (entry_changed (raised_mark c.args.tomb) c.args.from.now c.args.to.now))
    (c.deref-entry-items.ensures.value ∙ c.in_ok-split_twice.ensures ∙ ap (gap_split c.args.to.now) (c.deref.ensures.value ∙ c.in_ok-split.ensures))
