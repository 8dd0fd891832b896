use Rattle.std.proofs.Common.{None, refl, arith}
use Rattle.rc_chain_guarded.proofs.Fitting.{fits-changed, known-entries, static-spare}
use Rattle.rc_chain_guarded.proofs.Listed.{renewed-listed}
use Rattle.rc_chain_guarded.proofs.Limits.{limits-flagged, static-small}
use Rattle.rc_core.specs.Steps.{join_flagged_statics}
use Rattle.rc_chain_guarded.proofs.rows.join_static.Goals as goal

pub join_static-requires : goal.join_static-requires
join_static-requires c =
    let m = c.has_room.new.chains in let id = c.args.at.chain in let j = c.args.at.version in let row = c.args.row.now in let is = c.row_in_range.ensures.ascending in let k = c.has_room.ensures.known in let room = c.has_room.ensures.room c.if-not-has_room.false in
    let fits = c.requires.row in let small = static-small row fits is in (
      omega arith,
      (
        (fits, omega (arith, small)),
        (
          c.has_version.ensures c.if-not-has_version.false,
          (
            static-spare m id j k.limits row _ fits is (omega (arith, room)),
            fits-changed m id j k.limits (join_flagged_statics row c.args.flag) (λ v h. limits-flagged row c.args.flag v fits h),
          ),
        ),
      ),
    )

pub returns : goal.returns
returns c =
    let m = c.has_room.new.chains in let id = c.args.at.chain in let j = c.args.at.version in let row = c.args.row.now in let is = c.row_in_range.ensures.ascending in let k = c.has_room.ensures.known in let room = c.has_room.ensures.room c.if-not-has_room.false in
    let n = c.join_static.new.self in let has = c.has_version.ensures c.if-not-has_version.false in
    known-entries m n id j (join_flagged_statics row c.args.flag) c.join_static.ensures.joined.chains has c.args.known.now c.forget_bare.new.self k c.forget_bare.ensures.held c.forget_bare.ensures.full c.forget_bare.ensures.bare
    (λ v h. limits-flagged row c.args.flag v c.requires.row h) (λ v. refl) (renewed-listed m n id j has None c.join_static.ensures.recency)
