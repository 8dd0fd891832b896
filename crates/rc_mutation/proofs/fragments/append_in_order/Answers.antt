-- At the end one side is empty.
use Rattle.std.proofs.Common.{◌++◌, ◌⊎◌, ◌<◌, length, inl, inr, arith, map, ap, ◌∙◌}
use Rattle.rc_mutation.specs.declared.fragments.Frag.TheVariants as frag
use Rattle.rc_mutation.specs.laws.FragMerge.{made-in_order}
use Rattle.rc_mutation.proofs.Places.{on_ok}
use Rattle.rc_mutation.proofs.fragments.append_in_order.Goals as goal
use Rattle.rc_mutation.proofs.fragments.append_in_order.Goals.{in_default, in_default-2}

pub returns : goal.returns
returns c =
    let ended : (length c.loop-rows.rows.now < 1) ⊎ (length c.loop-rows.changes.now < 1) =
    elim c.if-rows-lt1.branch [ in_default w ↦ inl (omega arith) | in_default-2 w ↦ inr (grind arith) ] in
    on_ok c.append_changes.result
    (λ made.
    made
    ∙ ap (λ fs. fs ++ map (λ c. frag.Change c.0 c.1) c.loop-rows.changes.now) c.in_ok-append_rows.ensures
    ∙ made-in_order c.loop-rows.made.items c.args.made.now.items c.args.rows.now c.loop-rows.rows.now c.args.changes.now c.loop-rows.changes.now c.requires.rows c.requires.changes c.loop-rows.invariant ended)
    c.append_changes.ensures
