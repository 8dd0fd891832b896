-- What is read first is the first of what is listed.
use Rattle.std.proofs.Common.{sym, arith}
use Rattle.rc_rowcode.specs.calls.Views.{seen_cell}
use Rattle.rc_rowcode.proofs.Merging.{listed_end, listed_stuck, listed_step}
use Rattle.rc_rowcode.proofs.join.first.Goals as goal

pub returns-then-entries-eq0-clause-value : goal.returns-then-entries-eq0-clause-value
returns-then-entries-eq0-clause-value c = listed_end c.args.entries.count c.args.entries.bytes.now (omega arith)

pub returns-in_default-clause-value : goal.returns-in_default-clause-value
returns-in_default-clause-value c = listed_stuck c.args.entries.count c.args.entries.bytes.now (sym c.in_default.ensures.value)

pub returns-clause-value : goal.returns-clause-value
returns-clause-value c = listed_step c.args.entries.count c.args.entries.bytes.now (c.in-Some.column, seen_cell c.in-Some.cell) c.in-Some.bytes.now (omega arith) (sym c.in-Some.ensures.value)
