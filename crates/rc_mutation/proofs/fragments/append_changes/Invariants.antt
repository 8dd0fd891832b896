-- The changes before the index have been appended.
use Rattle.std.proofs.Common.{◌≡◌, ◌++◌, take, map}
use Rattle.rc_mutation.specs.declared.fragments.Frag.TheVariants as frag
use Rattle.rc_mutation.proofs.fragments.append_changes.Given as goal

abbrev pub invariant-loop-change : goal.invariant-loop-change
invariant-loop-change l = l.made.items ≡ l.initial.made.items ++ map (λ c. frag.Change c.0 c.1) (take l.change-index l.changes)
