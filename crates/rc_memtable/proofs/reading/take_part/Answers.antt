use Rattle.std.proofs.Common.{sym, subst}
use Rattle.rc_core.specs.declared.parts.Part.{Part}
use Rattle.rc_memtable.specs.calls.Reading.{IsPartTaken}
use Rattle.rc_memtable.proofs.Told.{row-taken}
use Rattle.rc_memtable.proofs.reading.take_part.Goals as goal

pub returns-in_ok-add_tomb-in-Row-clause-taken : goal.returns-in_ok-add_tomb-in-Row-clause-taken
returns-in_ok-add_tomb-in-Row-clause-taken c =
    subst (λ (p : Part). IsPartTaken p c.args.place.now c.args.rows.now c.args.ranges.now c.join_row.new.self c.add_tomb.new.ranges) (sym c.in-Row.is)
    (row-taken c.in-Row.key c.in-Row.row c.in-Row.tomb c.args.place.now c.args.rows.now c.join_row.new.self c.args.ranges.now c.add_tomb.new.ranges c.in_ok-join_row-in-Row.ensures.ok c.in_ok-add_tomb-in-Row.ensures)
