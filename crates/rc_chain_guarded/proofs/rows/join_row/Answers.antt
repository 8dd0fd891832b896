use Rattle.std.proofs.Common.{Some, arith}
use Rattle.rc_chain_guarded.proofs.Steps.{known-changed}
use Rattle.rc_chain_guarded.proofs.Fitting.{fits-changed, joined-there, row-spare}
use Rattle.rc_chain_guarded.proofs.Listed.{joined-only, last-keeps, renewed-listed}
use Rattle.rc_chain_guarded.proofs.Limits.{limits-joined, row-small}
use Rattle.rc_position.specs.Position.{row_pos}
use Rattle.rc_core.specs.Steps.{row_joined}
use Rattle.rc_memory.specs.laws.At.{found-version}
use Rattle.rc_chain_guarded.proofs.rows.join_row.Goals as goal

pub join_row-requires : goal.join_row-requires
join_row-requires c =
    let m = c.has_room.new.chains in let id = c.args.at.chain in let j = c.args.at.version in let row = c.args.row.now in let is = c.row_in_range.ensures.ascending in let k = c.has_room.ensures.known in let room = c.has_room.ensures.room c.if-not-has_room.false in
    let x = row_pos c.args.key.now in let fits = c.requires.row in let small = row-small x row c.requires.key fits is in (
      omega arith,
      (
        c.requires.key,
        (
          (fits, omega (arith, small)),
          (
            c.may_make.ensures.there c.if-not-may_make.false,
            (
              row-spare m id j k.limits x row _ c.requires.key fits is (omega (arith, room)),
              (fits-changed m id j k.limits (row_joined x row) (λ v h. limits-joined x row v c.requires.key fits h), last-keeps m id j (row_joined x row) (c.may_make.ensures.last c.if-not-may_make.false)),
            ),
          ),
        ),
      ),
    )

pub returns-clause-known : goal.returns-clause-known
returns-clause-known c =
    let m = c.has_room.new.chains in let id = c.args.at.chain in let j = c.args.at.version in let row = c.args.row.now in let is = c.row_in_range.ensures.ascending in let k = c.has_room.ensures.known in let room = c.has_room.ensures.room c.if-not-has_room.false in
    let x = row_pos c.args.key.now in let n = c.join_row.new.self in let has = c.may_make.ensures.there c.if-not-may_make.false in
    known-changed m n id j (row_joined x row) c.join_row.ensures.joined.chains has c.args.known.now c.forget_bare.new.self k c.forget_bare.ensures.held c.forget_bare.ensures.full c.forget_bare.ensures.bare
    (λ v h. limits-joined x row v c.requires.key c.requires.row h) (renewed-listed m n id j has (Some x) c.join_row.ensures.recency) (joined-only m n id j has c.known.ensures.sound x row c.join_row.ensures.recency)

pub returns-clause-row : goal.returns-clause-row
returns-clause-row c =
    let m = c.has_room.new.chains in let id = c.args.at.chain in let j = c.args.at.version in let row = c.args.row.now in let is = c.row_in_range.ensures.ascending in let k = c.has_room.ensures.known in let room = c.has_room.ensures.room c.if-not-has_room.false in
    joined-there m c.join_row.new.self id j (row_pos c.args.key.now) row c.join_row.ensures.joined.chains (c.may_make.ensures.there c.if-not-may_make.false) c.known.ensures.versions k.limits c.requires.row is

pub returns-clause-room : goal.returns-clause-room
returns-clause-room c =
    let m = c.has_room.new.chains in let id = c.args.at.chain in let j = c.args.at.version in let row = c.args.row.now in let is = c.row_in_range.ensures.ascending in let k = c.has_room.ensures.known in let room = c.has_room.ensures.room c.if-not-has_room.false in
    let x = row_pos c.args.key.now in let a = found-version m id j (c.may_make.ensures.there c.if-not-may_make.false) in let small = row-spare m id j k.limits x row 8952 c.requires.key c.requires.row is (omega arith) a.0 a.1 a.2 a.3 in
    let less = c.join_row.ensures.spare a.0 a.1 a.2 a.3 in omega (arith, room, small, less)
