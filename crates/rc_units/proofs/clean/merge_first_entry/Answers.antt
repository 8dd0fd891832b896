use Rattle.std.proofs.Common.{ap, ◌∙◌, arith, map}
use Rattle.rc_core.specs.Change.{gap_split}
use Rattle.rc_units.specs.Clean.{entry_onto}
use Rattle.rc_units.proofs.Writing.{all-made}
use Rattle.rc_units.proofs.clean.merge_first_entry.Goals as goal

pub returns : goal.returns
returns c =
    all-made (entry_onto c.args.merged.now c.args.next.now) c.loop-entry.made.items c.deref-entry-items.result.now c.loop-entry.entry-index (omega (arith, c.loop-entry-test.false)) c.loop-entry.invariant
    ∙ ap (map (entry_onto c.args.merged.now c.args.next.now))
    (c.deref-entry-items.ensures.value ∙ c.in_ok-split_twice.ensures ∙ ap (gap_split c.args.next.now.position) (c.deref.ensures.value ∙ c.in_ok-split.ensures))
