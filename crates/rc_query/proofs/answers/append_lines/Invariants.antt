-- The lines of the rows before the index.
use Rattle.std.proofs.Common.{◌≡◌, ◌++◌, take}
use Rattle.std.specs.List.{filter_map}
use Rattle.rc_query.specs.laws.Answers.{own_line}
use Rattle.rc_query.proofs.answers.append_lines.Given as goal

abbrev pub invariant-loop-item : goal.invariant-loop-item
invariant-loop-item l = l.lines.items ≡ l.initial.lines.items ++ filter_map (own_line l.fn.change l.fn.slice) (take l.item-index l.fn.change.rows)
