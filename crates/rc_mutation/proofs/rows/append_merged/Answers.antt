-- At the end one side is empty, and what was appended is the joined rows.
use Rattle.std.proofs.Common.{ap, ◌∙◌, ◌++◌, ◌⊎◌, ◌<◌, length, inl, inr, arith}
use Rattle.rc_mutation.proofs.Places.{on_ok}
use Rattle.rc_mutation.proofs.RowsMerge.{made-joined}
use Rattle.rc_mutation.proofs.rows.append_merged.Goals as goal
use Rattle.rc_mutation.proofs.rows.append_merged.Goals.{in_default, in_default-2}

pub returns : goal.returns
returns c =
    let ended : (length c.loop-ours.ours.now < 1) ⊎ (length c.loop-ours.theirs.now < 1) =
    elim c.if-ours-lt1.branch [ in_default w ↦ inl (omega arith) | in_default-2 w ↦ inr (grind arith) ] in
    on_ok c.append_copies-2.result
    (λ made.
    made
    ∙ ap (λ ms. ms ++ c.loop-ours.theirs.now) c.in_ok-append_copies.ensures
    ∙ made-joined c.args.made.now.items _ c.args.ours.now c.args.theirs.now _ _ c.requires.ours c.requires.theirs c.loop-ours.invariant ended)
    c.append_copies-2.ensures
