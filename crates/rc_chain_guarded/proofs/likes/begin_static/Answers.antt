use Rattle.std.proofs.Common.{refl, arith}
use Rattle.rc_chain_guarded.proofs.Steps.{bare-none, from-if, known-lost}
use Rattle.rc_chain_guarded.proofs.Fitting.{fits-changed, static-spare}
use Rattle.rc_chain_guarded.proofs.Limits.{limits-flagged, static-small}
use Rattle.rc_chain_guarded.proofs.Fresh.{fresh-has, fresh-static}
use Rattle.rc_core.specs.Steps.{join_flagged_statics}
use Rattle.rc_memory.specs.laws.At.{found-version}
use Rattle.rc_chain_guarded.proofs.likes.begin_static.Goals as goal

pub join_static-requires : goal.join_static-requires
join_static-requires c =
    let m = c.begin_update.new.chains in let number = c.in-Some.number in let fresh = from-if _ c.begin_update.result number c.begin_update.ensures.fresh c.in-Some.is in let room = from-if _ c.begin_update.result number c.begin_update.ensures.room c.in-Some.is in
    let row = c.args.row.now in let is = c.row_in_range.ensures.ascending in let fits = c.requires.row in let small = static-small row fits is in let limits = c.begin_update.ensures.known.limits in (
      omega arith,
      (
        (fits, omega (arith, small)),
        (
          fresh-has m c.args.id number c.args.phase fresh,
          (
            static-spare m c.args.id number limits row _ fits is (omega (arith, room)),
            fits-changed m c.args.id number limits (join_flagged_statics row c.args.flag) (λ v h. limits-flagged row c.args.flag v fits h),
          ),
        ),
      ),
    )

pub returns-in-Some-clause-known : goal.returns-in-Some-clause-known
returns-in-Some-clause-known c =
    let m = c.begin_update.new.chains in let n = c.join_static.new.self in let number = c.in-Some.number in let fresh = from-if _ c.begin_update.result number c.begin_update.ensures.fresh c.in-Some.is in
    let full = from-if _ c.begin_update.result number c.begin_update.ensures.full c.in-Some.is in let bare = from-if _ c.begin_update.result number c.begin_update.ensures.bare c.in-Some.is in let known = c.begin_update.new.known in
    known-lost m n c.args.id number (join_flagged_statics c.args.row.now c.args.flag) c.join_static.ensures.joined.chains (fresh-has m c.args.id number c.args.phase fresh) known known c.begin_update.ensures.known refl full
    (bare-none known known _ bare) (λ v h. limits-flagged c.args.row.now c.args.flag v c.requires.row h)

pub returns-in-Some-clause-room : goal.returns-in-Some-clause-room
returns-in-Some-clause-room c =
    let m = c.begin_update.new.chains in let number = c.in-Some.number in let fresh = from-if _ c.begin_update.result number c.begin_update.ensures.fresh c.in-Some.is in let room = from-if _ c.begin_update.result number c.begin_update.ensures.room c.in-Some.is in
    let a = found-version m c.args.id number (fresh-has m c.args.id number c.args.phase fresh) in let is = c.row_in_range.ensures.ascending in
    let small = static-spare m c.args.id number c.begin_update.ensures.known.limits c.args.row.now 8638 c.requires.row is (omega arith) a.0 a.1 a.2 a.3 in let less = c.join_static.ensures.spare a.0 a.1 a.2 a.3 in omega (arith, room, small, less)

pub returns-in-Some-clause-lone : goal.returns-in-Some-clause-lone
returns-in-Some-clause-lone c =
    let number = c.in-Some.number in fresh-static c.begin_update.new.chains c.args.id number c.args.phase (from-if _ c.begin_update.result number c.begin_update.ensures.fresh c.in-Some.is) c.join_static.new.self c.args.row.now c.args.flag c.join_static.ensures.joined.chains
