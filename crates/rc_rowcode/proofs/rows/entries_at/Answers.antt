-- Each cell is the next of those that are read.
use Rattle.std.proofs.Common.{sym, arith}
use Rattle.rc_rowcode.specs.calls.Views.{seen_cell}
use Rattle.rc_rowcode.specs.laws.RowCodec.{entries_ascend}
use Rattle.rc_rowcode.proofs.Loops.{entries_go_on, entries_end, entries_done}
use Rattle.rc_rowcode.proofs.rows.entries_at.Goals as goal

pub returns-in_default-clause-value : goal.returns-in_default-clause-value
returns-in_default-clause-value c = sym (entries_end c.loop.cells.items c.args.count c.loop.counter c.loop.least c.loop.rest.now _ c.loop-test.true (sym c.in_default.ensures.value) c.loop.invariant.so_far)

pub loop-preserved : goal.loop-preserved
loop-preserved c = record {
  so_far =
      rw (c.in_ok-push.ensures.items, c.in_ok-cell.ensures)
      (entries_go_on c.loop.cells.items c.args.count c.loop.counter c.loop.least c.loop.rest.now (c.in-Some.column, seen_cell c.in-Some.cell) c.in-Some.after.now _ c.loop-test.true (sym c.in-Some.ensures.value) c.loop.invariant.so_far);
  low = omega (arith, c.in-Some.ensures.low);
}

pub returns-clause-value : goal.returns-clause-value
returns-clause-value c = sym (entries_done c.loop.cells.items c.args.count c.loop.counter c.loop.least c.loop.rest.now _ c.loop-test.false c.loop.invariant.so_far)

pub returns-clause-ascending : goal.returns-clause-ascending
returns-clause-ascending c =
    entries_ascend c.args.count c.args.bytes.now (c.loop.cells.items, c.loop.rest.now) (record { byte = λ i. omega (arith, c.type_inv.bytes i) })
    (entries_done c.loop.cells.items c.args.count c.loop.counter c.loop.least c.loop.rest.now _ c.loop-test.false c.loop.invariant.so_far)
