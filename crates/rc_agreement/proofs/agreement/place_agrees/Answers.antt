use Rattle.std.specs.Prelude.{◌≡◌, ◌↔◌, IsTrue}
use Rattle.rc_core.specs.Chain.{IsKnown, content, states_at}
use Rattle.rc_core.specs.Version.{On}
use Rattle.rc_reading.specs.Reading.{IsRowGiven}
use Rattle.rc_cursor.specs.Snapshots.{kind_seen, versions_seen}
use Rattle.rc_agreement.proofs.Seen.{IsSight, seen-as}
use Rattle.rc_agreement.proofs.Walked.{first-said, said-first}
use Rattle.rc_agreement.proofs.agreement.place_agrees.Goals as goal

pub returns : goal.returns
returns g c = λ read onward.
    let m = c.args.chains.now in
    let s = c.args.snap.now in
    let x = c.args.x.now in
    let laws = c.a_snapshot_sees_up_to_its_version.ensures in
    let w = laws.there m s c.requires in
    let sight : IsSight m s = record { chain = w.0; number = w.1; there = w.2; pinned = w.3; versions = laws.versions m s w.0 w.1 w.2 w.3; kind = laws.kind m s w.0 w.2 } in
    let seen = c.in_ok-seen.seen in
    let known = seen-as (λ kind versions. IsTrue seen.known ↔ IsKnown kind versions x) m s sight c.in_ok-seen.ensures.known in
    let row = seen-as (λ kind versions. IsRowGiven seen.row (content (states_at (On x) versions)).0) m s sight c.in_ok-seen.ensures.row in
    let tomb = seen-as (λ kind versions. seen.tomb ≡ (content (states_at (On x) versions)).1) m s sight c.in_ok-seen.ensures.tomb in
    let test = c.is_place_said.ensures (content (states_at (On x) (versions_seen m s))).0 row in (
      λ t. first-said (kind_seen m s) (versions_seen m s) x read c.args.rows.now c.args.pieces.now onward seen.known known seen.tomb tomb (test.0 t),
      λ h. test.1 (said-first (kind_seen m s) (versions_seen m s) x read c.args.rows.now c.args.pieces.now onward seen.known known seen.tomb tomb h),
    )
