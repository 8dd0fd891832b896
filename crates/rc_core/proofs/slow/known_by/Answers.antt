use Rattle.rc_core.specs.Chain.{states_at}
use Rattle.rc_core.specs.Version.{On}
use Rattle.rc_core.proofs.Slowly.{is_flagged, not_known, known_with_row, known_with_gap, not_bare, bare_there, beyond_end}
use Rattle.rc_core.proofs.slow.known_by.Goals as goal

pub returns-then-not-is_known_in : goal.returns-then-not-is_known_in
returns-then-not-is_known_in c = λ versions flag content. not_known c.args.kind versions c.args.x.now c.is_known_in.result
    (is_flagged c.args.kind (states_at (On c.args.x.now) versions) c.args.seen.now.flag c.is_known_in.result c.is_known_in.ensures flag) c.if-not-is_known_in.true

pub returns-then-not-is_empty : goal.returns-then-not-is_empty
returns-then-not-is_empty c = λ versions flag content. known_with_row c.args.kind versions c.args.x.now c.is_known_in.result
    (is_flagged c.args.kind (states_at (On c.args.x.now) versions) c.args.seen.now.flag c.is_known_in.result c.is_known_in.ensures flag) c.if-not-is_known_in.false
    (not_bare versions c.args.x.now c.args.seen.now.row c.args.seen.now.tomb c.is_empty.result content c.is_empty.ensures.1 c.if-not-is_empty.true)

pub returns-then-not-is_before_end : goal.returns-then-not-is_before_end
returns-then-not-is_before_end c = λ versions flag content. known_with_row c.args.kind versions c.args.x.now c.is_known_in.result
    (is_flagged c.args.kind (states_at (On c.args.x.now) versions) c.args.seen.now.flag c.is_known_in.result c.is_known_in.ensures flag) c.if-not-is_known_in.false
    (beyond_end versions c.args.x.now c.is_before_end.result c.is_before_end.ensures.1 c.if-not-is_before_end.true)

pub returns : goal.returns
returns c = λ versions flag content b d. known_with_gap c.args.kind versions c.args.x.now c.is_known_in.result b
    (is_flagged c.args.kind (states_at (On c.args.x.now) versions) c.args.seen.now.flag c.is_known_in.result c.is_known_in.ensures flag) c.if-not-is_known_in.false
    (bare_there versions c.args.x.now c.args.seen.now.row c.args.seen.now.tomb content (c.is_empty.ensures.0 c.if-not-is_empty.false) (c.is_before_end.ensures.0 c.if-not-is_before_end.false)) d
