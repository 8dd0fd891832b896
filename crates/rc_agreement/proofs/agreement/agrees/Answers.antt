use Rattle.std.proofs.Common.{◌≡◌, Bool, [], ◌∷◌, true, false, sym, ◌∙◌}
use Rattle.std.proofs.lemmas.Result.{IfOk-weaker}
use Rattle.std.specs.Prelude.{◌↔◌, IsTrue}
use Rattle.rc_cell.specs.Orders.{tomb_cmp}
use Rattle.rc_cell.specs.Winner.{greatest}
use Rattle.rc_core.specs.Chain.{content, has_flag}
use Rattle.rc_core.specs.Continuity.{static_states, version_tombs}
use Rattle.rc_reading.specs.Reading.{IsRowGiven}
use Rattle.rc_cursor.specs.Snapshots.{kind_seen, versions_seen}
use Rattle.rc_agreement.specs.calls.Walking.{AllSaid}
use Rattle.rc_agreement.proofs.Heads.{IsGivenOf, IsSame, head-same, same-agrees}
use Rattle.rc_agreement.proofs.Seen.{IsSight, seen-as}
use Rattle.rc_agreement.proofs.agreement.agrees.Goals as goal

pub returns-then-not-is_head_of : goal.returns-then-not-is_head_of
returns-then-not-is_head_of g c =
    let m = c.args.chains.now in
    let s = c.args.snap.now in
    let laws = c.a_snapshot_sees_up_to_its_version.ensures in
    let w = laws.there m s c.requires in
    let sight : IsSight m s = record { chain = w.0; number = w.1; there = w.2; pinned = w.3; versions = laws.versions m s w.0 w.1 w.2 w.3; kind = laws.kind m s w.0 w.2 } in
    let h = c.in_ok-head.head in
    let given : IsGivenOf (kind_seen m s) (versions_seen m s) h = record {
      pt = seen-as (λ kind versions. h.pt ≡ greatest tomb_cmp (version_tombs versions)) m s sight c.in_ok-head.ensures.pt;
      known = seen-as (λ kind versions. h.known ≡ has_flag kind (static_states versions)) m s sight c.in_ok-head.ensures.known;
    } in
    let row = seen-as (λ kind versions. IsRowGiven h.row (content (static_states versions)).0) m s sight c.in_ok-head.ensures.row in
    let test = c.is_head_of.ensures (content (static_states (versions_seen m s))).0 row in (
      λ t. (let u : false ≡ true = t in absurd (cc)),
      λ a. absurd (let u : false ≡ true = sym c.if-not-is_head_of.true ∙ test.1 (head-same (kind_seen m s) (versions_seen m s) h given c.args.read.now c.holds_together.ensures a.known.head a.known.static_row) in cc),
    )

pub returns : goal.returns
returns g c =
    let m = c.args.chains.now in
    let s = c.args.snap.now in
    let laws = c.a_snapshot_sees_up_to_its_version.ensures in
    let w = laws.there m s c.requires in
    let sight : IsSight m s = record { chain = w.0; number = w.1; there = w.2; pinned = w.3; versions = laws.versions m s w.0 w.1 w.2 w.3; kind = laws.kind m s w.0 w.2 } in
    let h = c.in_ok-head.head in
    let given : IsGivenOf (kind_seen m s) (versions_seen m s) h = record {
      pt = seen-as (λ kind versions. h.pt ≡ greatest tomb_cmp (version_tombs versions)) m s sight c.in_ok-head.ensures.pt;
      known = seen-as (λ kind versions. h.known ≡ has_flag kind (static_states versions)) m s sight c.in_ok-head.ensures.known;
    } in
    let row = seen-as (λ kind versions. IsRowGiven h.row (content (static_states versions)).0) m s sight c.in_ok-head.ensures.row in
    let same : IsSame (kind_seen m s) (versions_seen m s) h given c.args.read.now c.holds_together.ensures = (c.is_head_of.ensures (content (static_states (versions_seen m s))).0 row).0 c.if-not-is_head_of.false in
    IfOk-weaker c.places_agree.result (λ b. IsTrue b ↔ AllSaid (kind_seen m s) (versions_seen m s) (c.args.read.now ∷ [])) _
    (λ (b : Bool) k. (λ t. same-agrees (kind_seen m s) (versions_seen m s) h given c.args.read.now c.holds_together.ensures same (k.0 t), λ a. k.1 (record { places = a.known.there; gaps = a.gaps })))
    c.places_agree.ensures
