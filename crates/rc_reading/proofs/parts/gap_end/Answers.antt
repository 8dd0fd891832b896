use Rattle.std.proofs.Common.{arith, sym, subst}
use Rattle.std.proofs.lemmas.Result.{IfOk-weaker}
use Rattle.rc_position.specs.declared.positions.Pos.{Pos}
use Rattle.rc_core.specs.Parts.{IsReach}
use Rattle.rc_reading.specs.Reading.{read_versions}
use Rattle.rc_reading.proofs.parts.gap_end.Goals as goal

pub end_of-requires : goal.end_of-requires
end_of-requires g c = let q = c.requires.versions in let w = c.reach.ensures q.0 q.1 in (omega arith, (w.0, w.1))

pub returns : goal.returns
returns g c = λ read u.
    let w = c.reach.ensures read u in
    IfOk-weaker c.end_of.result _ _ (λ (to : Pos) e. subst (IsReach (read_versions read) c.args.x.now c.args.upto.now) (sym e) w.2) (c.end_of.ensures w.0 w.1)
