use Rattle.std.proofs.Common.{◌≡◌, true, false, sym, ap, ◌∙◌}
use Rattle.rc_core.specs.Chain.{flag_over}
use Rattle.rc_cursor.specs.Snapshots.{kind_seen, versions_seen}
use Rattle.rc_agreement.proofs.Orders.{reaches-itself}
use Rattle.rc_agreement.proofs.Walked.{both-said, said-nearer, said-rest}
use Rattle.rc_agreement.proofs.agreement.next_place.Goals as goal

pub returns-then-not-branch-clause-said : goal.returns-then-not-branch-clause-said
returns-then-not-branch-clause-said g c = λ read onward h.
    let u : false ≡ true = sym c.if-not-branch.true ∙ (c.in_ok-place_agrees.ensures read onward).1 (h c.args.x.now (reaches-itself c.args.x.now) c.requires.inside).0 in absurd (cc)

pub returns-then-not-is_gap_said-clause-said : goal.returns-then-not-is_gap_said-clause-said
returns-then-not-is_gap_said-clause-said g c = λ read onward h.
    let m = c.args.chains.now in
    let s = c.args.snap.now in
    let gap = c.in_ok-gap.gap in
    let laws = c.a_snapshot_sees_up_to_its_version.ensures in
    let w = laws.there m s c.requires.pin in
    let known : c.is_known_in-known.result ≡ flag_over (kind_seen m s) gap.flag = c.is_known_in-known.ensures ∙ ap (λ kind. flag_over kind gap.flag) (c.kind.ensures w.0 w.2 ∙ sym (laws.kind m s w.0 w.2)) in
    let near = said-nearer (kind_seen m s) (versions_seen m s) c.args.x.now read c.args.rows.now c.args.pieces.now onward gap c.in_ok-gap.ensures c.is_known_in-known.result known h in
    let u : false ≡ true = sym c.if-not-is_gap_said.true ∙ c.is_gap_said.ensures.1 (said-rest (kind_seen m s) (versions_seen m s) c.args.x.now read c.args.rows.now c.args.pieces.now onward gap c.in_ok-gap.ensures c.is_known_in-known.result known near) in absurd (cc)

pub returns-clause-said : goal.returns-clause-said
returns-clause-said g c = λ read onward.
    let m = c.args.chains.now in
    let s = c.args.snap.now in
    let gap = c.in_ok-gap.gap in
    let laws = c.a_snapshot_sees_up_to_its_version.ensures in
    let w = laws.there m s c.requires.pin in
    let known : c.is_known_in-known.result ≡ flag_over (kind_seen m s) gap.flag = c.is_known_in-known.ensures ∙ ap (λ kind. flag_over kind gap.flag) (c.kind.ensures w.0 w.2 ∙ sym (laws.kind m s w.0 w.2)) in
    both-said (kind_seen m s) (versions_seen m s) c.args.x.now read c.args.rows.now c.args.pieces.now onward gap c.in_ok-gap.ensures c.is_known_in-known.result known
    ((c.in_ok-place_agrees.ensures read onward).0 c.if-not-branch.false)
    (c.is_gap_said.ensures.0 c.if-not-is_gap_said.false)
