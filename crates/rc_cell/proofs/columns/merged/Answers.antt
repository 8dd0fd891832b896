use Rattle.std.proofs.Common.{ap, ◌∙◌, ◌≡◌, ◌++◌, ◌⊎◌, ◌<◌, length, inl, inr, arith}
use Rattle.std.proofs.lemmas.Grind.{common_steps}
use Rattle.rc_cell.specs.laws.Merge.{pick, picked, made-winners}
use Rattle.rc_cell.proofs.columns.merged.Goals as goal
use Rattle.rc_cell.proofs.columns.merged.Goals.{in_default, in_default-2}

-- the cell pushed at a column of both is the one that a merge picks
pub loop-ours-preserved-in_ok-push-in-Equal : goal.loop-ours-preserved-in_ok-push-in-Equal
loop-ours-preserved-in_ok-push-in-Equal c =
    let won : c.winning-cell.result.now ≡ pick c.our_first-item.result.1 c.their_first-item.result.1 = picked _ _ _ c.winning-cell.ensures in
    grind (arith, common_steps)

-- at the end one side is empty
pub returns : goal.returns
returns c =
    let ended : (length c.loop-ours.ours.now < 1) ⊎ (length c.loop-ours.theirs.now < 1) =
    elim c.if-ours-lt1.branch [ in_default w ↦ inl (omega arith) | in_default-2 w ↦ inr (grind arith) ] in
    c.in_ok-append_copies-2.ensures
    ∙ ap (λ ms. ms ++ c.loop-ours.theirs.now) c.in_ok-append_copies.ensures
    ∙ made-winners _ c.args.ours.now c.args.theirs.now _ _ c.requires.ours_ascend c.requires.theirs_ascend c.loop-ours.invariant ended
