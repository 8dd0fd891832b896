use Rattle.std.proofs.Common.{Some, refl, arith}
use Rattle.rc_chain_guarded.proofs.Steps.{from-if, known-changed}
use Rattle.rc_chain_guarded.proofs.Listed.{last-keeps, split-listed, split-only}
use Rattle.rc_chain_guarded.proofs.Limits.{dummy-small, limits-split}
use Rattle.rc_core.specs.Change.{gap_split}
use Rattle.rc_core.specs.Continuity.{with_entries}
use Rattle.rc_core.specs.Version.{Version}
use Rattle.rc_memory.specs.Changes.{member_at}
use Rattle.rc_chain_guarded.proofs.likes.split_like.Goals as goal

pub split_like-made-requires : goal.split_like-made-requires
split_like-made-requires c =
    let m = c.object_at.new.chains in let e = c.in-Some.e in let x = c.args.x.now in let here = from-if _ c.object_at.result e c.object_at.ensures.here c.in-Some.is in let room = from-if _ c.object_at.result e c.object_at.ensures.room c.in-Some.is in
    let small = dummy-small x c.requires.limits in let yes = c.if-not-may_make-2.false in
    (omega arith, (c.may_make-in-Some.ensures.there yes, (member_at c.args.from.chain c.args.from.version (Some x), x, refl, here, omega (arith, small, room), last-keeps m c.args.to.chain c.args.to.version (λ (v : Version). with_entries (gap_split x v.entries) v) (c.may_make-in-Some.ensures.last yes))))

pub returns-else-not-may_make-2 : goal.returns-else-not-may_make-2
returns-else-not-may_make-2 c =
    let m = c.object_at.new.chains in let n = c.split_like-made.new.self in let e = c.in-Some.e in let x = c.args.x.now in let here = from-if _ c.object_at.result e c.object_at.ensures.here c.in-Some.is in
    let id = c.args.to.chain in let j = c.args.to.version in let has = c.may_make-in-Some.ensures.there c.if-not-may_make-2.false in let w = member_at c.args.from.chain c.args.from.version (Some x) in
    known-changed m n id j (λ (v : Version). with_entries (gap_split x v.entries) v) (c.split_like-made.ensures.changed w x refl here).chains has c.object_at.new.known c.forget_bare.new.self c.object_at.ensures.known
    c.forget_bare.ensures.held c.forget_bare.ensures.full c.forget_bare.ensures.bare (λ v h. limits-split x v c.requires.limits h)
    (split-listed m n id j has c.known.ensures.sound x (c.split_like-made.ensures.recency w x refl here)) (split-only m n id j has c.known.ensures.sound x (c.split_like-made.ensures.recency w x refl here))
