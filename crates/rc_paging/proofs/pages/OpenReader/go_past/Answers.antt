-- What is read past the cache is a mutation, and the line that is kept is the reader's own.
use Rattle.std.proofs.Common.{[], ◌∷◌, ◌++◌, arith}
use Rattle.rc_opened.specs.Behind.{lines_behind}
use Rattle.rc_paging.specs.Past.{lines_past, read_past}
use Rattle.rc_paging.proofs.GoingOn.{on_past, over_past, past_lines}
use Rattle.rc_paging.proofs.pages.OpenReader.go_past.Goals as goal

pub with_written-past-requires : goal.with_written-past-requires
with_written-past-requires g c =
    let below = c.requires.0 in
    let l = c.requires.2 in (
      omega arith,
      (
        l.schema,
        read_past below c.in-Ok.told c.args.read ∷ [],
        l.writes,
        l.later,
        over_past g.row.S c.args.chains.now c.args.self.now c.take_out-held.result l.schema below l.writes l.later c.in-Ok.told c.args.read c.in-Ok-tables_past.tables c.holds_together.ensures l.of_sealed l.of_active l.stand c.take_out-held.ensures.taken
            (c.in-Ok-tables_past.ensures below l.stand.cached),
      ),
    )

pub returns-clause-lines : goal.returns-clause-lines
returns-clause-lines g c = λ schema below writes later of_sealed of_active stand.
    let over = over_past g.row.S c.args.chains.now c.args.self.now c.take_out-held.result schema below writes later c.in-Ok.told c.args.read c.in-Ok-tables_past.tables c.holds_together.ensures of_sealed of_active stand c.take_out-held.ensures.taken (c.in-Ok-tables_past.ensures below stand.cached) in
    on_past _ c.with_written-past.new.chains c.with_written-past.result.1
    (lines_behind c.in-Ok.told (read_past below c.in-Ok.told c.args.read ∷ (writes ++ later)) c.in-Ok-slice_behind.slice)
    (lines_past below c.args.read (writes ++ later) c.args.self.now.behind c.args.self.now.remainder.slice)
    (past_lines below c.args.read (writes ++ later) c.in-Ok.told c.args.self.now.behind c.args.self.now.remainder.slice c.in-Ok-slice_behind.slice c.in-Ok.ensures c.in-Ok-slice_behind.ensures)
    (c.with_written-past.ensures.gives schema (read_past below c.in-Ok.told c.args.read ∷ []) writes later over)
