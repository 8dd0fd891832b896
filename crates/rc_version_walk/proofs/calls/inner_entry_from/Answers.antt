use Rattle.std.proofs.Common.{◌++◌, ◌∷◌, arith, sym, ◌∙◌, subst}
use Rattle.lsa_tree.specs.Tree.{IsTree}
use Rattle.rc_version_walk.specs.Walking.{IsEntryOf}
use Rattle.rc_version_walk.proofs.Entries.{inner-before}
use Rattle.rc_version_walk.proofs.calls.inner_entry_from.Goals as goal

pub next-requires : goal.next-requires
next-requires c =
    let found = subst (IsEntryOf c.args.region.now c.args.v) c.in-Some.is c.entry_from.ensures in
    (omega arith, (found.0, found.1, subst (λ t. IsTree t c.args.region.now (found.0 ++ (c.in-Some.e ∷ found.1))) (sym c.tree_of-tree.ensures) found.3.tree))

pub returns-in-Some-next : goal.returns-in-Some-next
returns-in-Some-next c =
    let found = subst (IsEntryOf c.args.region.now c.args.v) c.in-Some.is c.entry_from.ensures in
    let tree = subst (λ t. IsTree t c.args.region.now (found.0 ++ (c.in-Some.e ∷ found.1))) (sym c.tree_of-tree.ensures) found.3.tree in
    (found.0, found.1, found.2, found.3, inner-before c.args.region.now c.args.v found.0 found.1 c.in-Some.e c.in-Some-next._next found.2 found.3 (sym (c.next.ensures found.0 found.1 tree) ∙ c.in-Some-next.is))
