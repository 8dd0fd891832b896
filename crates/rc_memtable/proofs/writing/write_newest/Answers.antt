use Rattle.std.proofs.Common.{IsTrue, sym, ap, ◌∙◌, subst}
use Rattle.rc_cell.specs.Columns.{ascending}
use Rattle.rc_cell.specs.Winner.{IsRow}
use Rattle.rc_mutation.specs.declared.mutations.Mutation.{Mutation}
use Rattle.rc_mutation.specs.Fragments.{is_written}
use Rattle.rc_writes.specs.Allowed.{IsRangeBound, IsRowOf, IsStaticOf}
use Rattle.rc_core.specs.StandsFor.{written_statics}
use Rattle.rc_memtable.specs.calls.Steps.{IsChangeWritten}
use Rattle.rc_memtable.proofs.OnePlace.{single-pt, single-range, single-row, single-statics, static-written}
use Rattle.rc_memtable.proofs.Ready.{all-first, first-of-slice, none-of, nothing-of-slice, one-of, other-of}
use Rattle.rc_memtable.proofs.writing.write_newest.Goals as goal

pub returns-in-Some : goal.returns-in-Some
returns-in-Some g c schema fits =
    subst (λ (m : Mutation). IsChangeWritten g.row.S schema c.args.id m 512 c.args.chains.now c.write_tomb.new.chains) (sym (single-pt c.args.change.now c.in-Some.tomb c.requires.2 c.in-Some.is)) (c.write_tomb.ensures schema)

pub returns-in-len1-up : goal.returns-in-len1-up
returns-in-len1-up g c schema fits =
    let row = c.entry-item.result in
    let rest = first-of-slice c.as_slice.result.now c.args.change.now.rows row c.as_slice.ensures.value c.entry-item.is c.in-len1-up.len_at_least in
    subst (λ (m : Mutation). IsChangeWritten g.row.S schema c.args.id m 512 c.args.chains.now c.write_row.new.chains) (sym (single-row c.args.change.now row rest.0 c.requires.2 rest.1))
    (c.write_row.ensures schema (all-first (λ e. IsRowOf schema e.0 e.1) row rest.0 c.args.change.now.rows rest.1 fits.rows) (all-first (λ e. IsTrue (ascending e.1.cells)) row rest.0 c.args.change.now.rows rest.1 c.holds_together.ensures.rows.by_column))

pub returns-in-len1-up-as_slice : goal.returns-in-len1-up-as_slice
returns-in-len1-up-as_slice g c schema fits =
    let p = c.range-item.result in
    let rest = first-of-slice c.as_slice-2.result.now c.args.change.now.ranges p c.as_slice-2.ensures.value c.range-item.is c.in-len1-up-as_slice.len_at_least in
    let bounds = all-first (λ q. IsRangeBound schema q.from × IsRangeBound schema q.to) p rest.0 c.args.change.now.ranges rest.1 fits.ranges in
    subst (λ (m : Mutation). IsChangeWritten g.row.S schema c.args.id m 512 c.args.chains.now c.write_range.new.chains) (sym (single-range c.args.change.now p rest.0 c.requires.2 rest.1)) (c.write_range.ensures schema (one-of bounds) (other-of bounds))

pub returns : goal.returns
returns g c schema fits =
    let m = c.args.change.now in
    let no_tomb = none-of m.pt c.in_default.not-Some in
    let no_rows = nothing-of-slice c.as_slice.result.now m.rows c.as_slice.ensures.value c.in_default-as_slice.len_below in
    let no_ranges = nothing-of-slice c.as_slice-2.result.now m.ranges c.as_slice-2.ensures.value c.in_default-as_slice-2.len_below in
    let same = single-statics m c.requires.2 no_tomb no_rows no_ranges in
    let row = c.as_row.ensures.value in
    subst (λ (n : Mutation). IsChangeWritten g.row.S schema c.args.id n 512 c.args.chains.now c.write_static.new.chains) (ap written_statics row ∙ sym same)
    (c.write_static.ensures schema (subst (IsStaticOf schema) (sym row) fits.statics) (subst IsRow (sym row) c.holds_together.ensures.statics) (ap is_written row ∙ static-written m c.requires.2 no_tomb no_rows no_ranges))
