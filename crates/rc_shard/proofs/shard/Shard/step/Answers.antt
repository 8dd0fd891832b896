-- Each step is that of its command.
use Rattle.std.proofs.Common.{◌+◌, ◌*◌, ◌≤◌, ◌∙◌, List, ap, inl, refl, subst, sym}
use Rattle.rc_tfile.specs.declared.info.TableInfo.{TableInfo}
use Rattle.rc_tables.specs.Tables.{listing}
use Rattle.rc_shard.proofs.Standing.{on-err-weaker}
use Rattle.rc_shard.specs.declared.shard.Shard.{Shard}
use Rattle.rc_shard.proofs.Taking.{keeps-files, keeps-kept}
use Rattle.rc_shard.proofs.shard.Shard.step.Goals as goal
use Rattle.rc_lines.specs.declared.commands.Figures.{Figures}
use Rattle.rc_memory.specs.declared.counts.Counts.{Counts}
use Rattle.rc_shard.proofs.Evicted.{none-skipped}
use Rattle.rc_shard.proofs.Counted.{counts-itself, if-ok-all, make-budget}
use Rattle.rc_shard.proofs.Known.{known-itself, left-known}
use Rattle.rc_shard.proofs.Looking.{on-ok, on-ok-weaker}

pub returns-in-SetSchema-clause-step : goal.returns-in-SetSchema-clause-step
returns-in-SetSchema-clause-step g c = rw (c.in-SetSchema.is) (c.set_schema.ensures.step (g.W.Store.files c.args.store.now))

pub returns-in-Put-clause-step : goal.returns-in-Put-clause-step
returns-in-Put-clause-step g c = rw (c.in-Put.is) (c.put.ensures.step (g.W.Store.files c.args.store.now))

pub returns-in-Put-clause-err : goal.returns-in-Put-clause-err
returns-in-Put-clause-err g c = rw (c.in-Put.is) (on-err-weaker c.put.result _ _ (λ keeps m s. (m, refl, keeps (g.W.Store.files c.args.store.now) m s)) c.put.ensures.err)

pub returns-in-OpenRead-clause-step : goal.returns-in-OpenRead-clause-step
returns-in-OpenRead-clause-step g c = rw (c.in-OpenRead.is) c.open_read.ensures.step

pub returns-in-OpenRead-clause-err : goal.returns-in-OpenRead-clause-err
returns-in-OpenRead-clause-err g c = rw (c.in-OpenRead.is) (on-err-weaker c.open_read.result _ _ (λ keeps m s. (m, refl, keeps-files _ _ _ c.open_read.new.self m c.open_read.ensures.store.0 (keeps m s))) c.open_read.ensures.err)

pub returns-in-Read-clause-step : goal.returns-in-Read-clause-step
returns-in-Read-clause-step g c = rw (c.in-Read.is) c.read.ensures.step

pub returns-in-Read-clause-err : goal.returns-in-Read-clause-err
returns-in-Read-clause-err g c = rw (c.in-Read.is) c.read.ensures.err

pub returns-in-Close-clause-step : goal.returns-in-Close-clause-step
returns-in-Close-clause-step g c = rw (c.in-Close.is) (c.close_reader.ensures.step (g.W.Store.files c.args.store.now))

pub returns-in-Flush-clause-step : goal.returns-in-Flush-clause-step
returns-in-Flush-clause-step g c = rw (c.in-Flush.is) c.flush.ensures.step

pub returns-in-Flush-clause-err : goal.returns-in-Flush-clause-err
returns-in-Flush-clause-err g c = rw (c.in-Flush.is) c.flush.ensures.err

pub returns-in-Compact-clause-step : goal.returns-in-Compact-clause-step
returns-in-Compact-clause-step g c =
    let files = g.W.Store.files c.args.store.now in
    let new : Shard = record c.args.self.now { unstored = c.compact.new.unstored } in
    let keeps = keeps-kept _ c.a_reader_stays-in-Compact.ensures c.args.self.now new refl refl refl refl (λ schema e. c.compact.ensures.kept schema) in
    rw (c.in-Compact.is) (λ m s. (m, (refl, refl), keeps files m s))

-- what is counted
pub returns-in-Compact-clause-counts : goal.returns-in-Compact-clause-counts
returns-in-Compact-clause-counts g c = record { answered = refl; segments = refl; asked = refl; none_fell = (c.compact.ensures.kept c.args.self.now.folder.schema).room.counts }

pub returns-in-Nothing-clause-counts : goal.returns-in-Nothing-clause-counts
returns-in-Nothing-clause-counts g c = counts-itself c.args.self.now

pub returns-in-SetSchema-clause-counts : goal.returns-in-SetSchema-clause-counts
returns-in-SetSchema-clause-counts g c = counts-itself c.args.self.now

pub returns-in-Stats-clause-counts : goal.returns-in-Stats-clause-counts
returns-in-Stats-clause-counts g c = counts-itself c.args.self.now

-- what is told
pub returns-in-Put-clause-told : goal.returns-in-Put-clause-told
returns-in-Put-clause-told g c = rw (c.in-Put.is) (if-ok-all c.put.result _ (λ reply. tt))

pub returns-in-OpenRead-clause-told : goal.returns-in-OpenRead-clause-told
returns-in-OpenRead-clause-told g c = rw (c.in-OpenRead.is) (if-ok-all c.open_read.result _ (λ reply. tt))

pub returns-in-Read-clause-told : goal.returns-in-Read-clause-told
returns-in-Read-clause-told g c = rw (c.in-Read.is) (if-ok-all c.read.result _ (λ reply. tt))

pub returns-in-Flush-clause-told : goal.returns-in-Flush-clause-told
returns-in-Flush-clause-told g c = rw (c.in-Flush.is) (if-ok-all c.flush.result _ (λ reply. tt))

pub returns-in-Stats-clause-step : goal.returns-in-Stats-clause-step
returns-in-Stats-clause-step g c =
    rw (c.in-Stats.is) (λ m s. (m, (c.figures.result, ap (λ (f : Figures). f.segments + f.free) c.figures.ensures ∙ make-budget c.args.self.now.unstored.chains.region.usages c.args.self.now.segments m.segments s.budget s.sound.budget, refl, refl), s))

-- what an opening pins
pub returns-in-Put-clause-pins : goal.returns-in-Put-clause-pins
returns-in-Put-clause-pins g c = rw (c.in-Put.is) (if-ok-all c.put.result _ (λ reply. tt))

pub returns-in-OpenRead-clause-pins : goal.returns-in-OpenRead-clause-pins
returns-in-OpenRead-clause-pins g c = rw (c.in-OpenRead.is) c.open_read.ensures.pins

pub returns-in-Read-clause-pins : goal.returns-in-Read-clause-pins
returns-in-Read-clause-pins g c = rw (c.in-Read.is) (if-ok-all c.read.result _ (λ reply. tt))

pub returns-in-Flush-clause-pins : goal.returns-in-Flush-clause-pins
returns-in-Flush-clause-pins g c = rw (c.in-Flush.is) (if-ok-all c.flush.result _ (λ reply. tt))

pub returns-in-Put-clause-known : goal.returns-in-Put-clause-known
returns-in-Put-clause-known g c = rw (c.in-Put.is) (λ m s. tt)

pub returns-in-Put-clause-filled : goal.returns-in-Put-clause-filled
returns-in-Put-clause-filled g c = rw (c.in-Put.is) (if-ok-all c.put.result _ (λ reply. tt))

pub returns-in-Read-clause-known : goal.returns-in-Read-clause-known
returns-in-Read-clause-known g c = rw (c.in-Read.is) c.read.ensures.known

pub returns-in-Read-clause-filled : goal.returns-in-Read-clause-filled
returns-in-Read-clause-filled g c = rw (c.in-Read.is) c.read.ensures.filled

pub returns-in-Flush-clause-known : goal.returns-in-Flush-clause-known
returns-in-Flush-clause-known g c = rw (c.in-Flush.is) (λ m s. tt)

pub returns-in-Flush-clause-filled : goal.returns-in-Flush-clause-filled
returns-in-Flush-clause-filled g c = rw (c.in-Flush.is) (if-ok-all c.flush.result _ (λ reply. tt))

pub returns-in-OpenRead-clause-known : goal.returns-in-OpenRead-clause-known
returns-in-OpenRead-clause-known g c = rw (c.in-OpenRead.is) (λ m s on. c.open_read.ensures.known on)

pub returns-in-OpenRead-clause-filled : goal.returns-in-OpenRead-clause-filled
returns-in-OpenRead-clause-filled g c = rw (c.in-OpenRead.is) c.open_read.ensures.filled

-- what a read passed
pub returns-in-Put-clause-passes : goal.returns-in-Put-clause-passes
returns-in-Put-clause-passes g c = rw (c.in-Put.is) (λ m s. if-ok-all c.put.result _ (λ reply. tt))

pub returns-in-Read-clause-passes : goal.returns-in-Read-clause-passes
returns-in-Read-clause-passes g c = rw (c.in-Read.is) c.read.ensures.passes

pub returns-in-Flush-clause-passes : goal.returns-in-Flush-clause-passes
returns-in-Flush-clause-passes g c = rw (c.in-Flush.is) (λ m s. if-ok-all c.flush.result _ (λ reply. tt))

pub returns-in-OpenRead-clause-passes : goal.returns-in-OpenRead-clause-passes
returns-in-OpenRead-clause-passes g c = rw (c.in-OpenRead.is) (λ m s. if-ok-all c.open_read.result _ (λ reply. tt))

-- what is evicted
pub returns-in-Evict-clause-step : goal.returns-in-Evict-clause-step
returns-in-Evict-clause-step g c =
    let files = g.W.Store.files c.args.store.now in
    let new : Shard = record c.args.self.now { unstored = c.evict.new.unstored } in
    let keeps = keeps-kept _ c.a_reader_stays.ensures c.args.self.now new refl refl refl refl (λ schema e. c.evict.ensures.kept schema) in
    rw (c.in-Evict.is) (λ m s. (m, (refl, refl), keeps files m s))

pub returns-in-Evict-clause-counts : goal.returns-in-Evict-clause-counts
returns-in-Evict-clause-counts g c = record { answered = refl; segments = refl; asked = refl; none_fell = (c.evict.ensures.kept c.args.self.now.folder.schema).room.counts }

pub returns-in-Evict-clause-evicts : goal.returns-in-Evict-clause-evicts
returns-in-Evict-clause-evicts g c = rw (c.in-Evict.is) c.evict.ensures.evicted

pub returns-in-Put-clause-evicts : goal.returns-in-Put-clause-evicts
returns-in-Put-clause-evicts g c = rw (c.in-Put.is) tt

pub returns-in-OpenRead-clause-evicts : goal.returns-in-OpenRead-clause-evicts
returns-in-OpenRead-clause-evicts g c = rw (c.in-OpenRead.is) tt

pub returns-in-Read-clause-evicts : goal.returns-in-Read-clause-evicts
returns-in-Read-clause-evicts g c = rw (c.in-Read.is) tt

pub returns-in-Flush-clause-evicts : goal.returns-in-Flush-clause-evicts
returns-in-Flush-clause-evicts g c = rw (c.in-Flush.is) tt

-- which segments are emptied
pub returns-in-Compact-clause-compacts : goal.returns-in-Compact-clause-compacts
returns-in-Compact-clause-compacts g c = rw (c.in-Compact.is) c.compact.ensures.emptied

pub returns-in-Put-clause-compacts : goal.returns-in-Put-clause-compacts
returns-in-Put-clause-compacts g c = rw (c.in-Put.is) tt

pub returns-in-OpenRead-clause-compacts : goal.returns-in-OpenRead-clause-compacts
returns-in-OpenRead-clause-compacts g c = rw (c.in-OpenRead.is) tt

pub returns-in-Read-clause-compacts : goal.returns-in-Read-clause-compacts
returns-in-Read-clause-compacts g c = rw (c.in-Read.is) tt

pub returns-in-Flush-clause-compacts : goal.returns-in-Flush-clause-compacts
returns-in-Flush-clause-compacts g c = rw (c.in-Flush.is) tt

-- which objects are the most recent ones
pub returns-in-OpenRead-clause-recent : goal.returns-in-OpenRead-clause-recent
returns-in-OpenRead-clause-recent g c = rw (c.in-OpenRead.is) c.open_read.ensures.recent

pub returns-in-Put-clause-recent : goal.returns-in-Put-clause-recent
returns-in-Put-clause-recent g c = rw (c.in-Put.is) (if-ok-all c.put.result _ (λ reply. tt))

pub returns-in-Read-clause-recent : goal.returns-in-Read-clause-recent
returns-in-Read-clause-recent g c = rw (c.in-Read.is) (if-ok-all c.read.result _ (λ reply. tt))

pub returns-in-Flush-clause-recent : goal.returns-in-Flush-clause-recent
returns-in-Flush-clause-recent g c = rw (c.in-Flush.is) (if-ok-all c.flush.result _ (λ reply. tt))

-- which rows stay
pub returns-in-OpenRead-clause-touches : goal.returns-in-OpenRead-clause-touches
returns-in-OpenRead-clause-touches g c = rw (c.in-OpenRead.is) (if-ok-all c.open_read.result _ (λ reply. tt))

pub returns-in-Put-clause-touches : goal.returns-in-Put-clause-touches
returns-in-Put-clause-touches g c = rw (c.in-Put.is) (if-ok-all c.put.result _ (λ reply. tt))

pub returns-in-Read-clause-touches : goal.returns-in-Read-clause-touches
returns-in-Read-clause-touches g c = rw (c.in-Read.is) c.read.ensures.touches

pub returns-in-Flush-clause-touches : goal.returns-in-Flush-clause-touches
returns-in-Flush-clause-touches g c = rw (c.in-Flush.is) (if-ok-all c.flush.result _ (λ reply. tt))

-- what is known still
pub returns-in-Nothing-clause-stays : goal.returns-in-Nothing-clause-stays
returns-in-Nothing-clause-stays g c = λ none key spared. known-itself c.args.self.now key

pub returns-in-SetSchema-clause-stays : goal.returns-in-SetSchema-clause-stays
returns-in-SetSchema-clause-stays g c = λ none key spared. known-itself c.args.self.now key

pub returns-in-Stats-clause-stays : goal.returns-in-Stats-clause-stays
returns-in-Stats-clause-stays g c = λ none key spared. known-itself c.args.self.now key

pub returns-in-Put-clause-stays : goal.returns-in-Put-clause-stays
returns-in-Put-clause-stays g c = on-ok c.put.result _ (λ none key spared. left-known c.args.self.now c.put.new.self c.requires.stands.1.cached.are c.known.ensures.told c.put.ensures.left none key)

pub returns-in-Read-clause-stays : goal.returns-in-Read-clause-stays
returns-in-Read-clause-stays g c = rw (c.in-Read.is) c.read.ensures.stays

pub returns-in-Close-clause-stays : goal.returns-in-Close-clause-stays
returns-in-Close-clause-stays g c = rw (c.in-Close.is) c.close_reader.ensures.stays

pub returns-in-OpenRead-clause-stays : goal.returns-in-OpenRead-clause-stays
returns-in-OpenRead-clause-stays g c = on-ok-weaker c.open_read.result _ _ (λ h none key spared. h none key) c.open_read.ensures.stays

pub returns-in-Flush-clause-stays : goal.returns-in-Flush-clause-stays
returns-in-Flush-clause-stays g c = rw (c.in-Flush.is) c.flush.ensures.stays

pub returns-in-Evict-clause-stays : goal.returns-in-Evict-clause-stays
returns-in-Evict-clause-stays g c = λ none key spared.
    let new : Shard = record c.args.self.now { unstored = c.evict.new.unstored } in
    left-known c.args.self.now new c.requires.stands.1.cached.are c.known.ensures.told (record { cache = refl; left = (c.evict.ensures.kept c.args.self.now.folder.schema).cache.left }) none key

pub returns-in-Compact-clause-stays : goal.returns-in-Compact-clause-stays
returns-in-Compact-clause-stays g c = λ none key spared.
    let new : Shard = record c.args.self.now { unstored = c.compact.new.unstored } in
    left-known c.args.self.now new c.requires.stands.1.cached.are c.known.ensures.told (record { cache = refl; left = (c.compact.ensures.kept c.args.self.now.folder.schema).cache.left }) none key

-- by which commands nothing is lost
pub returns-in-Nothing-clause-loses : goal.returns-in-Nothing-clause-loses
returns-in-Nothing-clause-loses g c = rw (c.in-Nothing.is) (refl, refl)

pub returns-in-SetSchema-clause-loses : goal.returns-in-SetSchema-clause-loses
returns-in-SetSchema-clause-loses g c = rw (c.in-SetSchema.is) (refl, refl)

pub returns-in-Put-clause-loses : goal.returns-in-Put-clause-loses
returns-in-Put-clause-loses g c = rw (c.in-Put.is) c.put.ensures.skips

pub returns-in-OpenRead-clause-loses : goal.returns-in-OpenRead-clause-loses
returns-in-OpenRead-clause-loses g c = rw (c.in-OpenRead.is) (on-ok c.open_read.result _ tt)

pub returns-in-Read-clause-loses : goal.returns-in-Read-clause-loses
returns-in-Read-clause-loses g c = rw (c.in-Read.is) (on-ok c.read.result _ tt)

pub returns-in-Close-clause-loses : goal.returns-in-Close-clause-loses
returns-in-Close-clause-loses g c = rw (c.in-Close.is) (ap (λ (n : Counts). n.evicted) c.close_reader.ensures.same, ap (λ (n : Counts). n.skipped) c.close_reader.ensures.same)

pub returns-in-Flush-clause-loses : goal.returns-in-Flush-clause-loses
returns-in-Flush-clause-loses g c = rw (c.in-Flush.is) (on-ok c.flush.result _ tt)

pub returns-in-Evict-clause-loses : goal.returns-in-Evict-clause-loses
returns-in-Evict-clause-loses g c = rw (c.in-Evict.is) (none-skipped c.in-Evict.count c.args.self.now.unstored.chains c.evict.new.unstored.chains c.evict.ensures.evicted)

pub returns-in-Compact-clause-loses : goal.returns-in-Compact-clause-loses
returns-in-Compact-clause-loses g c = (let same = c.compact.ensures.emptied.untouched.counts in rw (c.in-Compact.is) (ap (λ (n : Counts). n.evicted) same, ap (λ (n : Counts). n.skipped) same))

-- where it is lost
pub returns-in-Put-clause-crowds : goal.returns-in-Put-clause-crowds
returns-in-Put-clause-crowds g c = rw (c.in-Put.is) c.put.ensures.crowds

pub returns-in-Read-clause-crowds : goal.returns-in-Read-clause-crowds
returns-in-Read-clause-crowds g c = rw (c.in-Read.is) c.read.ensures.crowds

pub returns-in-Flush-clause-crowds : goal.returns-in-Flush-clause-crowds
returns-in-Flush-clause-crowds g c = rw (c.in-Flush.is) (on-ok-weaker c.flush.result _ _ (λ same. inl (ap (λ (n : Counts). n.evicted) same, ap (λ (n : Counts). n.skipped) same)) c.flush.ensures.same)

pub returns-in-OpenRead-clause-crowds : goal.returns-in-OpenRead-clause-crowds
returns-in-OpenRead-clause-crowds g c = rw (c.in-OpenRead.is) c.open_read.ensures.crowds

pub returns-in-Nothing-clause-crowds : goal.returns-in-Nothing-clause-crowds
returns-in-Nothing-clause-crowds g c = rw (c.in-Nothing.is) tt

pub returns-in-SetSchema-clause-crowds : goal.returns-in-SetSchema-clause-crowds
returns-in-SetSchema-clause-crowds g c = rw (c.in-SetSchema.is) tt

pub returns-in-Close-clause-crowds : goal.returns-in-Close-clause-crowds
returns-in-Close-clause-crowds g c = rw (c.in-Close.is) tt

pub returns-in-Evict-clause-crowds : goal.returns-in-Evict-clause-crowds
returns-in-Evict-clause-crowds g c = rw (c.in-Evict.is) tt

pub returns-in-Compact-clause-crowds : goal.returns-in-Compact-clause-crowds
returns-in-Compact-clause-crowds g c = rw (c.in-Compact.is) tt

pub returns-in-Stats-clause-crowds : goal.returns-in-Stats-clause-crowds
returns-in-Stats-clause-crowds g c = rw (c.in-Stats.is) tt

-- what may be asked for
pub returns-in-OpenRead-clause-asks : goal.returns-in-OpenRead-clause-asks
returns-in-OpenRead-clause-asks g c = rw (c.in-OpenRead.is) (λ m s. subst (λ (infos : List TableInfo). g.W.Store.asks c.open_read.new.store ≤ g.W.Store.asks c.args.store.now + 2 * listing c.in-OpenRead.key infos) (sym s.over.infos) c.open_read.ensures.asks)

pub returns-in-Read-clause-asks : goal.returns-in-Read-clause-asks
returns-in-Read-clause-asks g c = rw (c.in-Read.is) c.read.ensures.asks

pub returns-in-Read-clause-faults : goal.returns-in-Read-clause-faults
returns-in-Read-clause-faults g c = c.read.ensures.faults
