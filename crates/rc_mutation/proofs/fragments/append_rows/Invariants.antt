-- The rows before the index have been appended.
use Rattle.std.proofs.Common.{◌≡◌, ◌++◌, take, map}
use Rattle.rc_mutation.specs.declared.fragments.Frag.TheVariants as frag
use Rattle.rc_mutation.proofs.fragments.append_rows.Given as goal

abbrev pub invariant-loop-row : goal.invariant-loop-row
invariant-loop-row l = l.made.items ≡ l.initial.made.items ++ map (λ e. frag.Row e.0 e.1) (take l.row-index l.rows)
