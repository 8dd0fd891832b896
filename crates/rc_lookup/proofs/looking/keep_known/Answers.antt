-- Where the static row is known to the snapshot it stays, and it and the end of its partition are made recent.
use Rattle.std.proofs.Common.{◌≡◌, false, true, Option, IsSome, inl, refl, sym, ◌∙◌, subst, arith}
use Rattle.std.specs.Prelude.{IfOk}
use Rattle.rc_core.specs.Chain.{has_flag}
use Rattle.rc_core.specs.Continuity.{static_states}
use Rattle.rc_cursor.specs.Snapshots.{kind_seen, versions_seen}
use Rattle.rc_memory.specs.Memory.{KeptChain}
use Rattle.rc_lookup.specs.Touched.{IsHeadOrEnd}
use Rattle.rc_lookup.proofs.Given.{touched-reordered}
use Rattle.rc_lookup.proofs.Kept.{has-pin}
use Rattle.rc_lookup.proofs.looking.keep_known.Goals as goal

pub is_static_row_known-requires : goal.is_static_row_known-requires
is_static_row_known-requires g c = (omega arith, has-pin c.args.chains.now c.args.snap.chain c.args.snap.pin c.requires)

pub touch_head_and_end-requires : goal.touch_head_and_end-requires
touch_head_and_end-requires g c = (omega arith, subst (λ (o : Option KeptChain). IsSome o) (sym c.requires.there) refl)

pub returns-in-Ok-true-clause-kept : goal.returns-in-Ok-true-clause-kept
returns-in-Ok-true-clause-kept g c =
    let m = c.args.chains.now in
    let s = c.args.snap in
    let known = subst (λ r. IfOk r (λ b. b ≡ has_flag (kind_seen m s) (static_states (versions_seen m s)))) c.in-Ok-true.is c.is_static_row_known.ensures in
    (refl, sym known ∙ c.in-Ok-true.field-0-test, c.touch_head_and_end.ensures)

pub returns-in-Ok-true-clause-left : goal.returns-in-Ok-true-clause-left
returns-in-Ok-true-clause-left g c = inl (touched-reordered (IsHeadOrEnd c.args.snap.chain) c.args.chains.now c.touch_head_and_end.new.chains c.touch_head_and_end.ensures)

pub returns-in-Ok-false-clause-none : goal.returns-in-Ok-false-clause-none
returns-in-Ok-false-clause-none g c = λ on.
    let m = c.args.chains.now in
    let s = c.args.snap in
    let known = subst (λ r. IfOk r (λ b. b ≡ has_flag (kind_seen m s) (static_states (versions_seen m s)))) c.in-Ok-false.is c.is_static_row_known.ensures in
    let clash : false ≡ true = sym c.in-Ok-false.field-0-test ∙ known ∙ on in absurd (cc)
