-- One more is emptied; or none is sparse.
use Rattle.std.proofs.Common.{sym, ◌∙◌, subst, arith}
use Rattle.rc_lookup.specs.Unstored.{Unstored}
use Rattle.rc_shard.specs.Compacting.{AreSparseEmptied}
use Rattle.rc_shard.specs.calls.Storing.{KeepsUnstored}
use Rattle.rc_shard.proofs.Compacted.{all-done, compacting-none, none-left, one-emptied}
use Rattle.rc_shard.proofs.Standing.{kept-itself, kept-then, room-kept}
use Rattle.rc_shard.proofs.compacting.compact.Goals as goal

pub loop-left-init : goal.loop-left-init
loop-left-init c = (λ schema. kept-itself schema c.args.unstored.now, compacting-none c.args.count c.args.unstored.now.chains)

pub loop-left-preserved : goal.loop-left-preserved
loop-left-preserved c =
    let old = c.loop-left.unstored in
    let new = c.compact_one.new.self in (
      λ schema. kept-then schema c.args.unstored.now old new (c.loop-left.invariant.0 schema)
          (room-kept schema old new (λ writes later h. c.compact_one.ensures.stands schema writes later h) c.compact_one.ensures.seen (c.what_a_call_leaves_of_the_room.ensures.moved _ _ c.compact_one.ensures.room) (c.what_calls_leave_of_the_cache.ensures.moved _ _ c.compact_one.ensures.room)),
      one-emptied c.args.count c.loop-left.left c.args.unstored.now.chains old.chains c.loop-left.invariant.1 new.chains (omega arith)
          (λ none. (let t = c.if-not-compact_one.false in absurd (cc (t, c.compact_one.ensures.tells ∙ none)))) c.compact_one.ensures.compacted c.compact_one.ensures.room.untouched,
    )

pub returns-then-not-compact_one-clause-kept : goal.returns-then-not-compact_one-clause-kept
returns-then-not-compact_one-clause-kept c = λ schema. subst (KeepsUnstored schema c.args.unstored.now) (sym (c.compact_one.ensures.same c.if-not-compact_one.true)) (c.loop-left.invariant.0 schema)

pub returns-then-not-compact_one-clause-emptied : goal.returns-then-not-compact_one-clause-emptied
returns-then-not-compact_one-clause-emptied c =
    let none = c.if-not-compact_one.true in
    subst (λ (u : Unstored 131072). AreSparseEmptied c.args.count c.args.unstored.now.chains u.chains) (sym (c.compact_one.ensures.same none))
    (none-left c.args.count c.loop-left.left c.args.unstored.now.chains c.loop-left.unstored.chains c.loop-left.invariant.1 (sym c.compact_one.ensures.tells ∙ none))

pub returns-clause-emptied : goal.returns-clause-emptied
returns-clause-emptied c = all-done c.args.count c.loop-left.left c.args.unstored.now.chains c.loop-left.unstored.chains c.loop-left.invariant.1 (omega arith)
