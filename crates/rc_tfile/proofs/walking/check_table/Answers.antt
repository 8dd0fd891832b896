-- Items that fit and are whole are the table of partitions.
use Rattle.std.proofs.Common.{◌∙◌, ap, arith}
use Rattle.rc_tfile.specs.Info.{refs_from}
use Rattle.rc_tfile.proofs.Ahead.{same_content}
use Rattle.rc_tfile.proofs.Turns.{few_reads}
use Rattle.rc_tfile.proofs.Partitions.{table_found}
use Rattle.rc_tfile.proofs.walking.check_table.Goals as goal

pub returns-in_err-outline-clause-asks : goal.returns-in_err-outline-clause-asks
returns-in_err-outline-clause-asks g c = λ bytes is.
    let at = c.in_ok-file.ensures.told bytes (same_content (g.W.Store.files c.args.store.now) _ c.args.n _ bytes c.in_ok-file.ensures.store.0 c.in_ok-file.ensures.start.0 is) in
    few_reads c.in_ok-file.file bytes (g.W.Store.asks c.args.store.now) (g.W.Store.asks c.check_items.new.store) c.in_ok-file.ensures.start.1 at.size (omega (arith, c.in_ok-file.ensures.asks, c.in_err-outline.ensures.asks))

pub returns-in-Ok-clause-table : goal.returns-in-Ok-clause-table
returns-in-Ok-clause-table g c = λ bytes is.
    let r = c.in_ok-outline.ensures.whole in
    table_found (g.W.Store.files c.check_items.new.store) c.check_items.new.file.number c.args.n c.args.schema.now r.before c.in_ok-outline.outline c.in-Ok.parts bytes r.fit r.listed r.whole
    (c.in-Ok.ensures.refs ∙ ap (refs_from c.in_ok-outline.outline.off) c.as_slice.ensures.value)
    (same_content (g.W.Store.files c.args.store.now) _ c.args.n _ bytes (c.in_ok-outline.ensures.store.0 ∙ c.in_ok-file.ensures.store.0) (c.in_ok-outline.ensures.number ∙ c.in_ok-file.ensures.start.0) is)

pub returns-in-Ok-clause-asks : goal.returns-in-Ok-clause-asks
returns-in-Ok-clause-asks g c = λ bytes is.
    let at = c.in_ok-file.ensures.told bytes (same_content (g.W.Store.files c.args.store.now) _ c.args.n _ bytes c.in_ok-file.ensures.store.0 c.in_ok-file.ensures.start.0 is) in
    few_reads c.in_ok-file.file bytes (g.W.Store.asks c.args.store.now) (g.W.Store.asks c.check_items.new.store) c.in_ok-file.ensures.start.1 at.size (omega (arith, c.in_ok-file.ensures.asks, c.in_ok-outline.ensures.asks))

pub returns-clause-asks : goal.returns-clause-asks
returns-clause-asks g c = λ bytes is.
    let at = c.in_ok-file.ensures.told bytes (same_content (g.W.Store.files c.args.store.now) _ c.args.n _ bytes c.in_ok-file.ensures.store.0 c.in_ok-file.ensures.start.0 is) in
    few_reads c.in_ok-file.file bytes (g.W.Store.asks c.args.store.now) (g.W.Store.asks c.check_items.new.store) c.in_ok-file.ensures.start.1 at.size (omega (arith, c.in_ok-file.ensures.asks, c.in_ok-outline.ensures.asks))
