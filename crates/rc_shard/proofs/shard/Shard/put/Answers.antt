-- A write is put, or there is no room for it.
use Rattle.std.proofs.Common.{refl, sym, subst, ◌∙◌}
use Rattle.rc_schema.specs.SchemaValue.{SchemaValue}
use Rattle.rc_lookup.specs.Memtables.{IsFullFor}
use Rattle.rc_shard.specs.declared.shard.Shard.{Shard}
use Rattle.rc_shard.specs.calls.Storing.{KeepsUnstored, TakesWrite}
use Rattle.rc_shard.proofs.Standing.{on-err}
use Rattle.rc_shard.proofs.Taking.{keeps-kept, takes-full, takes-put}
use Rattle.rc_shard.proofs.shard.Shard.put.Goals as goal

pub returns-in_err-put_in-clause-err : goal.returns-in_err-put_in-clause-err
returns-in_err-put_in-clause-err c =
    let new : Shard = record c.args.self.now { unstored = c.put_in.new.unstored } in
    on-err _ _ (keeps-kept _ c.a_reader_stays.ensures c.args.self.now new refl refl refl refl
    (λ schema e. subst (λ (s : SchemaValue). KeepsUnstored s c.args.self.now.unstored c.put_in.new.unstored) (c.schema-schema.ensures ∙ sym e) c.in_err-put_in.ensures.err))

pub returns-then-branch-clause-step : goal.returns-then-branch-clause-step
returns-then-branch-clause-step c = λ files.
    let new : Shard = record c.args.self.now { unstored = c.put_in.new.unstored } in
    takes-put _ c.a_reader_stays.ensures files c.args.self.now new c.args.write.now c.requires.fits c.holds_together.ensures refl refl refl refl
    (subst (λ (s : SchemaValue). TakesWrite s c.args.write.now c.args.self.now.unstored c.put_in.new.unstored) c.schema-schema.ensures (c.in_ok-put_in.ensures.put c.if-branch.true))

pub returns-else-branch-clause-step : goal.returns-else-branch-clause-step
returns-else-branch-clause-step c = λ files.
    let new : Shard = record c.args.self.now { unstored = c.put_in.new.unstored } in
    takes-full _ c.a_reader_stays.ensures files c.args.self.now new c.args.write.now refl refl refl refl
    (subst (λ (s : SchemaValue). KeepsUnstored s c.args.self.now.unstored c.put_in.new.unstored) c.schema-schema.ensures (c.in_ok-put_in.ensures.kept c.if-branch.false))
    (c.in_ok-put_in.ensures.full c.if-branch.false)

pub returns-else-branch-clause-full : goal.returns-else-branch-clause-full
returns-else-branch-clause-full c = subst (λ (s : SchemaValue). IsFullFor 131072 s c.args.write.now c.put_in.new.unstored) c.schema-schema.ensures (c.in_ok-put_in.ensures.none c.if-branch.false)

pub returns-in_err-put_in-clause-counts : goal.returns-in_err-put_in-clause-counts
returns-in_err-put_in-clause-counts c = record { answered = refl; segments = refl; asked = refl; none_fell = c.in_err-put_in.ensures.err.room.counts }

pub returns-then-branch-clause-counts : goal.returns-then-branch-clause-counts
returns-then-branch-clause-counts c = record { answered = refl; segments = refl; asked = refl; none_fell = (c.in_ok-put_in.ensures.put c.if-branch.true).counts }

pub returns-else-branch-clause-counts : goal.returns-else-branch-clause-counts
returns-else-branch-clause-counts c = record { answered = refl; segments = refl; asked = refl; none_fell = (c.in_ok-put_in.ensures.kept c.if-branch.false).room.counts }

pub returns-in_err-put_in-clause-left : goal.returns-in_err-put_in-clause-left
returns-in_err-put_in-clause-left c = record { cache = refl; left = c.in_err-put_in.ensures.err.cache.left }

pub returns-then-branch-clause-left : goal.returns-then-branch-clause-left
returns-then-branch-clause-left c = record { cache = refl; left = (c.in_ok-put_in.ensures.put c.if-branch.true).cache }

pub returns-else-branch-clause-left : goal.returns-else-branch-clause-left
returns-else-branch-clause-left c = record { cache = refl; left = (c.in_ok-put_in.ensures.kept c.if-branch.false).cache.left }

pub returns-then-branch-clause-skips : goal.returns-then-branch-clause-skips
returns-then-branch-clause-skips c = c.in_ok-put_in.ensures.skips

pub returns-else-branch-clause-skips : goal.returns-else-branch-clause-skips
returns-else-branch-clause-skips c = c.in_ok-put_in.ensures.skips

pub returns-then-branch-clause-crowds : goal.returns-then-branch-clause-crowds
returns-then-branch-clause-crowds c = c.in_ok-put_in.ensures.crowds

pub returns-else-branch-clause-crowds : goal.returns-else-branch-clause-crowds
returns-else-branch-clause-crowds c = c.in_ok-put_in.ensures.crowds
