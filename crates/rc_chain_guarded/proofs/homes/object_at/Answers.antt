use Rattle.std.proofs.Common.{arith}
use Rattle.rc_core.specs.Change.{gap_split}
use Rattle.rc_core.specs.Continuity.{with_entries}
use Rattle.rc_core.specs.Version.{Version}
use Rattle.rc_chain_guarded.proofs.Limits.{dummy-small, limits-split}
use Rattle.rc_chain_guarded.proofs.Listed.{last-keeps, split-listed, split-only}
use Rattle.rc_chain_guarded.proofs.Steps.{has-still, known-changed}
use Rattle.rc_chain_guarded.proofs.homes.object_at.Goals as goal

pub split-requires : goal.split-requires
split-requires c =
    let small = dummy-small c.args.x.now c.requires.limits in let room = c.has_room.ensures.room c.if-not-has_room.false in (
      omega arith,
      (
        c.requires.limits,
        (
          c.may_make.ensures.there c.if-not-may_make.false,
          (
            omega (arith, small, room),
            (
              omega (arith, small),
              last-keeps c.has_room.new.chains c.args.at.chain c.args.at.version (λ (v : Version). with_entries (gap_split c.args.x.now v.entries) v) (c.may_make.ensures.last c.if-not-may_make.false),
            ),
          ),
        ),
      ),
    )

pub returns-clause-known : goal.returns-clause-known
returns-clause-known c =
    let m = c.has_room.new.chains in let n = c.split.new.self in let id = c.args.at.chain in let j = c.args.at.version in let x = c.args.x.now in let has = c.may_make.ensures.there c.if-not-may_make.false in
    known-changed m n id j (λ (v : Version). with_entries (gap_split x v.entries) v) c.split.ensures.changed.chains has c.args.known.now c.forget_bare.new.self c.has_room.ensures.known
    c.forget_bare.ensures.held c.forget_bare.ensures.full c.forget_bare.ensures.bare (λ v h. limits-split x v c.requires.limits h)
    (split-listed m n id j has c.known.ensures.sound x c.split.ensures.recency) (split-only m n id j has c.known.ensures.sound x c.split.ensures.recency)

pub returns-clause-there : goal.returns-clause-there
returns-clause-there c = let id = c.args.at.chain in let j = c.args.at.version in
    has-still c.has_room.new.chains c.split.new.self id j (λ (v : Version). with_entries (gap_split c.args.x.now v.entries) v) c.split.ensures.changed.chains id j (c.may_make.ensures.there c.if-not-may_make.false)

pub returns-clause-room : goal.returns-clause-room
returns-clause-room c =
    let small = dummy-small c.args.x.now c.requires.limits in let room = c.has_room.ensures.room c.if-not-has_room.false in let less = c.split.ensures.spare in omega (arith, small, room, less)
