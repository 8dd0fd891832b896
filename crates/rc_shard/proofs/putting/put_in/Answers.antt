-- The write is put once room was made; else memory is full of what memtables take.
use Rattle.std.proofs.Common.{◌≡◌, cond, ◌++◌, ◌∷◌, [], ap, ◌∙◌, subst}
use Rattle.rc_memory.specs.declared.counts.Counts.{Counts}
use Rattle.rc_lookup.specs.Memtables.{HaveWrites}
use Rattle.rc_lookup.specs.Footprint.{LosesBeforeWrite}
use Rattle.rc_shard.specs.calls.Storing.{KeepsUnstored}
use Rattle.rc_shard.proofs.Losing.{write-crowds}
use Rattle.rc_shard.proofs.Caching.{keeps-then}
use Rattle.rc_shard.proofs.Numbered.{either}
use Rattle.rc_shard.proofs.Standing.{on-err}
use Rattle.rc_shard.proofs.putting.put_in.Goals as goal

pub returns-clause-put : goal.returns-clause-put
returns-clause-put c = λ e.
    let schema = c.args.schema.now in
    let u = c.args.unstored.now in
    let v = c.put.new.self in
    let p = c.in_ok-done.ensures.applied e in
    let room = c.what_a_call_leaves_of_the_room.ensures.put 131072 schema c.args.w.now u v p in
    let had = c.requires.kept in
    let cache = c.what_calls_leave_of_the_cache.ensures.put schema c.args.w.now u v had.0 had.1 p c.known.ensures.rule c.known.ensures.told c.known-2.ensures.live had.2 in
    record {
      stands = λ writes later h. subst (λ b. HaveWrites schema v writes (cond b (later ++ c.args.w.now ∷ []) later)) e (c.in_ok-done.ensures.stands writes later h);
      seen = c.put.ensures.seen;
      budget = room.0;
      counts = room.2;
      cache = cache.0;
      bytes = cache.1;
    }

pub returns-clause-kept : goal.returns-clause-kept
returns-clause-kept c = λ e.
    let schema = c.args.schema.now in
    let u = c.args.unstored.now in
    let v = c.put.new.self in
    let left = c.in_ok-done.ensures.left e in
    record {
      stands = λ writes later h. subst (λ b. HaveWrites schema v writes (cond b (later ++ c.args.w.now ∷ []) later)) e (c.in_ok-done.ensures.stands writes later h);
      seen = c.put.ensures.seen;
      room = c.what_a_call_leaves_of_the_room.ensures.not_put 131072 u v left;
      cache = c.what_calls_leave_of_the_cache.ensures.made 131072 u.chains v.chains c.known.ensures.told left.room;
    }

pub returns-clause-full : goal.returns-clause-full
returns-clause-full c = λ e.
    let known = c.known-2.ensures in
    record {
      crowded = c.in_ok-done.ensures.crowded e;
      live = c.what_is_live_is_of_memtables.ensures.live c.put.new.self.chains known.rule known.versions known.sound known.live (c.in_ok-done.ensures.full e).none;
    }

pub returns-in_err-done-clause-err : goal.returns-in_err-done-clause-err
returns-in_err-done-clause-err c =
    let u = c.args.unstored.now in
    let v = c.put.new.self in
    let r = c.in_err-done.ensures.refused in
    let kept : KeepsUnstored c.args.schema.now u v = record {
      stands = λ writes later h. c.in_err-done.ensures.err writes later h;
      seen = c.put.ensures.seen;
      room = c.what_a_call_leaves_of_the_room.ensures.refused 131072 u v r;
      cache = keeps-then u.chains r.mid v.chains (c.what_calls_leave_of_the_cache.ensures.made 131072 u.chains r.mid c.known.ensures.told r.room) (c.what_calls_leave_of_the_cache.ensures.slots r.mid v.chains r.slots);
    } in
    on-err c.from_residual.result _ kept

pub returns-clause-skips : goal.returns-clause-skips
returns-clause-skips c =
    let u = c.args.unstored.now in
    let v = c.put.new.self in
    either (v.chains.counts.skipped ≡ u.chains.counts.skipped) c.in_ok-done.done
    (λ done. let p = c.in_ok-done.ensures.applied done in ap (λ (n : Counts). n.skipped) p.applied.others.counts ∙ p.room.skipped)
    (λ full. (c.in_ok-done.ensures.left full).room.skipped)

pub returns-clause-crowds : goal.returns-clause-crowds
returns-clause-crowds c =
    let u = c.args.unstored.now in
    let v = c.put.new.self in
    let had = c.requires.kept in
    let law = c.a_write_evicts_where_memory_is_crowded.ensures in
    write-crowds u.chains v.chains c.in_ok-done.ensures.spared
    (either (LosesBeforeWrite 131072 u.chains v.chains) c.in_ok-done.done
    (λ done. law.put 131072 c.args.schema.now c.args.w.now u v had.0 had.1 (c.in_ok-done.ensures.applied done) c.known.ensures.rule had.2)
    (λ full. law.not_put 131072 u v (c.in_ok-done.ensures.left full) c.known.ensures.rule))
