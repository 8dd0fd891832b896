use Rattle.std.proofs.Common.{◌≡◌, [], ◌∷◌, false, true, Bool, ap, subst}
use Rattle.std.proofs.lemmas.Result.{IfOk-weaker}
use Rattle.std.specs.Prelude.{◌↔◌, IsTrue, ⊤}
use Rattle.std.specs.Option.{MatchOption}
use Rattle.rc_position.specs.declared.comps.Comp.{Comp}
use Rattle.rc_position.specs.declared.positions.Weight.TheVariants.{Before}
use Rattle.std.proofs.Common.{List}
use Rattle.rc_core.specs.Parts.{IsReach}
use Rattle.rc_core.specs.Version.{end_position}
use Rattle.rc_cursor.specs.Snapshots.{kind_seen, versions_seen}
use Rattle.rc_agreement.specs.calls.Agreement.{IsPlaceSaid}
use Rattle.rc_agreement.specs.calls.Walking.{AreSaid}
use Rattle.rc_agreement.proofs.Ahead.{all-left, left-further, left-onward}
use Rattle.rc_agreement.proofs.Ending.{reach-less}
use Rattle.rc_agreement.proofs.Orders.{before-reaches}
use Rattle.rc_agreement.proofs.Seen.{before-bound, over-bound}
use Rattle.rc_agreement.proofs.Walked.{all-from, all-said, at-end, none-said, said-on}
use Rattle.rc_agreement.proofs.agreement.places_agree.Goals as goal

pub loop-alloc-init : goal.loop-alloc-init
loop-alloc-init g c = (
  all-left _ c.args.read.now c.as_slice-rows.result.now c.as_slice-pieces.result.now c.as_slice-rows.ensures.rows c.as_slice-pieces.ensures.canonical c.as_slice-rows.ensures.value c.as_slice-pieces.ensures.value,
  none-said (kind_seen c.args.chains.now c.args.snap.now) (versions_seen c.args.chains.now c.args.snap.now) (c.args.read.now ∷ []) _ (ap (λ (q : List Comp). record { prefix = q; weight = Before }) c.empty-2.ensures),
)

pub returns-in_default : goal.returns-in_default
returns-in_default g c =
    let m = c.args.chains.now in
    let s = c.args.snap.now in
    let x = c.loop-alloc.place in
    let onward = left-onward x c.args.read.now c.loop-alloc.rows.now c.loop-alloc.pieces.now c.loop-alloc.invariant.0 c.onward_rows-rows.result.now c.onward_pieces-pieces.result.now c.onward_rows-rows.ensures c.onward_pieces-pieces.ensures in
    let none = subst (λ o. MatchOption o (AreSaid (kind_seen m s) (versions_seen m s) (c.args.read.now ∷ []) x end_position → ⊥) (λ to. AreSaid (kind_seen m s) (versions_seen m s) (c.args.read.now ∷ []) x to)) c.in_default.is (c.in_ok-next.ensures.said c.args.read.now onward) in (
      λ t. (let u : false ≡ true = t in absurd (cc)),
      λ a. absurd (none (all-from (kind_seen m s) (versions_seen m s) (c.args.read.now ∷ []) a x)),
    )

pub loop-alloc-smaller : goal.loop-alloc-smaller
loop-alloc-smaller g c =
    let m = c.args.chains.now in
    let s = c.args.snap.now in
    let x = c.loop-alloc.place in
    let reach = subst (λ o. MatchOption o ⊤ (λ to. IsReach (versions_seen m s) x end_position to)) c.in-Some.is c.in_ok-next.ensures.reach in
    reach-less (versions_seen m s) x c.in-Some.next (before-bound x c.empty.result c.empty.ensures c.loop-alloc-test.ensures) reach

pub loop-alloc-preserved : goal.loop-alloc-preserved
loop-alloc-preserved g c =
    let m = c.args.chains.now in
    let s = c.args.snap.now in
    let x = c.loop-alloc.place in
    let onward = left-onward x c.args.read.now c.loop-alloc.rows.now c.loop-alloc.pieces.now c.loop-alloc.invariant.0 c.onward_rows-rows.result.now c.onward_pieces-pieces.result.now c.onward_rows-rows.ensures c.onward_pieces-pieces.ensures in
    let reach = subst (λ o. MatchOption o ⊤ (λ to. IsReach (versions_seen m s) x end_position to)) c.in-Some.is c.in_ok-next.ensures.reach in
    let said = subst (λ o. MatchOption o (AreSaid (kind_seen m s) (versions_seen m s) (c.args.read.now ∷ []) x end_position → ⊥) (λ to. AreSaid (kind_seen m s) (versions_seen m s) (c.args.read.now ∷ []) x to)) c.in-Some.is (c.in_ok-next.ensures.said c.args.read.now onward) in (
      left-further x c.in-Some.next c.args.read.now c.onward_rows-rows.result.now c.onward_pieces-pieces.result.now (before-reaches x c.in-Some.next reach.ahead) onward.left,
      said-on (kind_seen m s) (versions_seen m s) (c.args.read.now ∷ []) x c.in-Some.next c.loop-alloc.invariant.1 said,
    )

pub returns : goal.returns
returns g c =
    let m = c.args.chains.now in
    let s = c.args.snap.now in
    let x = c.loop-alloc.place in
    let onward = left-onward x c.args.read.now c.loop-alloc.rows.now c.loop-alloc.pieces.now c.loop-alloc.invariant.0 c.onward_rows-rows-2.result.now c.onward_pieces-pieces-2.result.now c.onward_rows-rows-2.ensures c.onward_pieces-pieces-2.ensures in
    let end = at-end x (over-bound x c.empty.result c.empty.ensures c.loop-alloc-test.ensures) in
    IfOk-weaker c.place_agrees.result (λ b. IsTrue b ↔ IsPlaceSaid (kind_seen m s) (versions_seen m s) (c.args.read.now ∷ []) x) _
    (λ (b : Bool) h. (λ t. all-said (kind_seen m s) (versions_seen m s) (c.args.read.now ∷ []) x end c.loop-alloc.invariant.1 (h.0 t), λ a. h.1 (a.places x)))
    (c.place_agrees.ensures c.args.read.now onward)
