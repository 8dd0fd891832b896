-- The partition has the key, and what its writes join to.
use Rattle.std.proofs.Common.{List, ℕ, sym, subst}
use Rattle.rc_mutation.specs.Source.{IsJoinOf, changes_to}
use Rattle.rc_plain.proofs.memtable.part_of.Goals as goal

pub returns-clause-change : goal.returns-clause-change
returns-clause-change c =
    (c.holds_together.ensures, subst (λ (key : List ℕ). IsJoinOf c.in_ok-change.change (changes_to key c.args.writes.now)) (sym c.in_ok-key.ensures) c.in_ok-change.ensures)
