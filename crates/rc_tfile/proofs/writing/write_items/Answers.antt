-- The pieces in order are the text of the table.
use Rattle.std.proofs.lemmas.Result.{on_ok_weaker}
use Rattle.rc_writes.specs.laws.Within.{change-within}
use Rattle.rc_tfile.specs.laws.Drafts.{table_built, parts_of}
use Rattle.rc_tfile.proofs.Widths.{table_items}
use Rattle.rc_tfile.proofs.writing.write_items.Goals as goal

pub write_parts-requires-clause-limits : goal.write_parts-requires-clause-limits
write_parts-requires-clause-limits g c = λ k d lt. change-within c.args.schema.now _ c.ck-limits.ensures.limits (c.requires.fit.each k d lt)

pub returns-clause-building : goal.returns-clause-building
returns-clause-building g c =
    on_ok_weaker c.write_ending.result (λ built. table_built _ _ _ _ c.args.schema.now c.args.parts.now c.in_ok-outline.ensures.building c.in_ok-write_parts.ensures.building built)
    (c.write_ending.ensures.building (parts_of c.args.schema.now c.args.parts.now) (c.in_ok-write_parts.ensures.outline _ c.in_ok-outline.ensures.outline))

pub returns-clause-items : goal.returns-clause-items
returns-clause-items g c =
    on_ok_weaker c.write_ending.result (λ ending. table_items c.args.schema.now c.args.parts.now c.in_ok-outline.ensures.item c.in_ok-write_parts.ensures.items ending)
    (c.write_ending.ensures.items (parts_of c.args.schema.now c.args.parts.now) (c.in_ok-write_parts.ensures.outline _ c.in_ok-outline.ensures.outline))
