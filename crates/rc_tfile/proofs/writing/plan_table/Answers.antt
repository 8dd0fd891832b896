-- The outline's references are those of the table.
use Rattle.std.proofs.Common.{ap, subst, arith, ◌∙◌}
use Rattle.std.specs.List.{flat_map}
use Rattle.rc_items.specs.Blocks.{entry_items}
use Rattle.rc_tfile.specs.Info.{refs_from}
use Rattle.rc_writes.specs.laws.Within.{change-within}
use Rattle.rc_tfile.specs.laws.Drafts.{refs_are, parts_of}
use Rattle.rc_tfile.proofs.Widths.{AreItems, ending_items, table_items}
use Rattle.rc_tfile.proofs.writing.plan_table.Goals as goal

pub outline_of-requires : goal.outline_of-requires
outline_of-requires c = λ k d lt. change-within c.args.schema.now _ c.ck-limits.ensures.limits (c.requires.each k d lt)

pub returns-clause-info : goal.returns-clause-info
returns-clause-info c =
    let listed = refs_are c.args.schema.now c.args.parts.now c.stop.new.self (c.in_ok-stop.ensures (parts_of c.args.schema.now c.args.parts.now) c.in_ok-outline.ensures.outline) in
    let parts = c.in_ok-parts.ensures.refs ∙ ap (refs_from c.stop.new.self.off) c.as_slice.ensures.value ∙ listed in
    λ i. record { number = c.args.n; parts = parts i }

pub returns-clause-items : goal.returns-clause-items
returns-clause-items c =
    let listed = c.in_ok-stop.ensures (parts_of c.args.schema.now c.args.parts.now) c.in_ok-outline.ensures.outline in
    table_items c.args.schema.now c.args.parts.now c.in_ok-outline.ensures.items.0 c.in_ok-outline.ensures.items.1
    (ending_items _ c.stop.new.self listed (subst (λ es. AreItems (flat_map entry_items es)) c.as_slice.ensures.value c.in_ok-parts.ensures.items) (c.in_ok-_tail.ensures.fits.0, omega (arith, c.in_ok-_tail.ensures.fits.1, c.len.ensures, c.stop.new.self.listed.ok.0)))
