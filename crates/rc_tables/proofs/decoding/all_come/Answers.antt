-- One fragment more, or one that may not come, or the end.
use Rattle.std.proofs.Common.{◌≡◌, ◌<◌, ◌-◌, take, List, [], ◌∷◌, Option, Some, None, drop, length, sym, subst, ◌∙◌, refl, true, false, arith}
use Rattle.std.specs.Prelude.{◌↔◌, Bool, IsTrue, not}
use Rattle.std.specs.Option.{is_some}
use Rattle.std.proofs.lemmas.List.{take_rest}
use Rattle.rc_cell.specs.declared.writes.Tomb.{Tomb}
use Rattle.rc_position.specs.declared.positions.Pos.{Pos}
use Rattle.rc_mutation.specs.declared.fragments.Frag.{Frag}
use Rattle.rc_schema.specs.SchemaValue.{SchemaValue}
use Rattle.rc_stream.specs.Merging.{place_of}
use Rattle.rc_mutation.specs.Fragments.{tomb_after}
use Rattle.rc_tables.specs.calls.Rebuilt.{AllCome}
use Rattle.rc_tables.proofs.Coming.{coming_on, coming_stops}
use Rattle.rc_tables.proofs.decoding.all_come.Goals as goal

clash : {P : Type 0} → false ≡ true → P
clash e = absurd cc

-- at the end no tombstone is in force exactly where all come
ended : (all : Type 0) (schema : SchemaValue) (tomb : Option Tomb) (last : Option Pos) (left : List Frag) (b : Bool) → (all ↔ AllCome schema tomb last left) → length left < 1 → is_some tomb ≡ not b → (IsTrue b ↔ all)
ended all schema tomb last (f ∷ fs) b h short is = absurd (omega (arith, short))
ended all schema None last [] true h short is = (λ _. h.1 refl, λ _. refl)
ended all schema None last [] false h short is = clash is
ended all schema (Some t) last [] true h short is = clash (sym is)
ended all schema (Some t) last [] false h short is = (λ e. clash e, λ a. absurd (let e = h.0 a in cc))

pub returns-then-not-may_come : goal.returns-then-not-may_come
returns-then-not-may_come c = (
  λ e. clash e,
  λ a. absurd (coming_stops (AllCome c.args.schema.now None None c.args.frags.now) c.args.schema.now c.loop-left.tomb c.loop-left.last c.loop-left.left.now c.first-item.result c.loop-left.invariant c.in-len1-up.len_at_least c.first-item.is
      (λ may. clash (sym c.if-not-may_come.true ∙ c.may_come.ensures.1 may)) a),
)

pub loop-left-preserved : goal.loop-left-preserved
loop-left-preserved c =
    let all = AllCome c.args.schema.now None None c.args.frags.now in
    let left = c.loop-left.left.now in
    let on = coming_on all c.args.schema.now c.loop-left.tomb c.loop-left.last left c.first-item.result c.loop-left.invariant c.in-len1-up.len_at_least c.first-item.is (c.may_come.ensures.0 c.if-not-may_come.false) in
    subst (λ (t : Option Tomb). all ↔ AllCome c.args.schema.now t (Some c.in_ok-at.at) (take (length left - 1) (drop 1 left))) (sym c.tomb_after-tomb.ensures)
    (subst (λ (x : Pos). all ↔ AllCome c.args.schema.now (tomb_after c.loop-left.tomb c.first-item.result) (Some x) (take (length left - 1) (drop 1 left))) (sym c.in_ok-at.ensures)
    (subst (λ (l : List Frag). all ↔ AllCome c.args.schema.now (tomb_after c.loop-left.tomb c.first-item.result) (Some (place_of c.first-item.result).0) l) (sym (take_rest left 1)) on))

pub returns : goal.returns
returns c = ended (AllCome c.args.schema.now None None c.args.frags.now) c.args.schema.now c.loop-left.tomb c.loop-left.last c.loop-left.left.now c.is_none.result c.loop-left.invariant c.in_default.len_below c.is_none.ensures
