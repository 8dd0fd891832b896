-- A flush is refused, or the writes are sealed and written.
use Rattle.std.proofs.Common.{refl, ap, ◌∙◌, subst}
use Rattle.rc_machine.specs.State.{State}
use Rattle.rc_machine.specs.Steps.{sealing}
use Rattle.rc_shard.specs.declared.shard.Shard.{Shard}
use Rattle.rc_lines.specs.declared.commands.Command.TheVariants.{Flush}
use Rattle.rc_shard.specs.Knowing.{StaysKnown}
use Rattle.rc_shard.specs.calls.Caching.{HasCache}
use Rattle.rc_shard.proofs.Known.{flush-known, known-itself, on-answered, sealed-other}
use Rattle.rc_shard.proofs.Flushing.{not-true, sealed-for, stops-sealed, takes-no-flush, takes-written}
use Rattle.rc_shard.proofs.Looking.{on-ok-weaker}
use Rattle.rc_shard.proofs.Standing.{if-ok-weaker, on-err-weaker}
use Rattle.rc_shard.proofs.shard.Shard.flush.Goals as goal
use Rattle.rc_lookup.specs.RowCache.{RowCache}
use Rattle.rc_memory.specs.Memory.{Memory}
use Rattle.rc_lookup.specs.LetGo.{NoCountFell}
use Rattle.rc_shard.proofs.Counted.{counts-itself}

pub returns-then-is_empty-clause-step : goal.returns-then-is_empty-clause-step
returns-then-is_empty-clause-step g c = takes-no-flush _ c.a_reader_stays.ensures (g.W.Store.files c.args.store.now) c.args.self.now (λ schema writes later h. (c.is_empty.ensures schema writes later h).0 c.if-is_empty.true)

pub write_sealed-requires-clause-stands : goal.write_sealed-requires-clause-stands
write_sealed-requires-clause-stands g c =
    let sealed : Shard = record c.args.self.now { unstored = c.seal.new.self } in
    let m : State = c.requires.0 in
    (record m { sealed = sealing m }, sealed-for _ c.a_reader_stays.ensures (g.W.Store.files c.args.store.now) c.args.self.now sealed m refl refl refl refl c.seal.ensures.chains c.seal.ensures.sealed c.seal.ensures.kept c.requires.1)

pub returns-in-Some-clause-step : goal.returns-in-Some-clause-step
returns-in-Some-clause-step g c =
    let files = g.W.Store.files c.args.store.now in
    let sealed : Shard = record c.args.self.now { unstored = c.seal.new.self } in
    if-ok-weaker c.write_sealed.result _ _
    (λ reply written. takes-written _ c.a_reader_stays.ensures files (g.W.Store.files c.write_sealed.new.store) c.args.self.now sealed c.write_sealed.new.self c.in-Some.number
    (λ schema writes later h e. not-true _ c.if-is_empty.false ((c.is_empty.ensures schema writes later h).1 e)) c.in-Some.ensures
    (λ m s. sealed-for _ c.a_reader_stays.ensures files c.args.self.now sealed m refl refl refl refl c.seal.ensures.chains c.seal.ensures.sealed c.seal.ensures.kept s) c.write_sealed.ensures.counts.segments (ap (λ v. v.items) c.write_sealed.ensures.readers) reply refl written)
    c.write_sealed.ensures.written

pub returns-in-Some-clause-err : goal.returns-in-Some-clause-err
returns-in-Some-clause-err g c =
    let files = g.W.Store.files c.args.store.now in
    let sealed : Shard = record c.args.self.now { unstored = c.seal.new.self } in
    on-err-weaker c.write_sealed.result _ _
    (λ kept. stops-sealed _ c.a_reader_stays.ensures files (g.W.Store.files c.write_sealed.new.store) c.args.self.now sealed c.write_sealed.new.self
    (λ m s. sealed-for _ c.a_reader_stays.ensures files c.args.self.now sealed m refl refl refl refl c.seal.ensures.chains c.seal.ensures.sealed c.seal.ensures.kept s) kept.0 (ap (λ (k : RowCache). k.entries) kept.1) c.write_sealed.ensures.counts.segments (ap (λ v. v.items) c.write_sealed.ensures.readers) kept.2 kept.3)
    c.write_sealed.ensures.err

pub returns-then-is_empty-clause-counts : goal.returns-then-is_empty-clause-counts
returns-then-is_empty-clause-counts g c = counts-itself c.args.self.now

pub returns-in-None-clause-counts : goal.returns-in-None-clause-counts
returns-in-None-clause-counts g c = counts-itself c.args.self.now

pub returns-in-Some-clause-counts : goal.returns-in-Some-clause-counts
returns-in-Some-clause-counts g c =
    let n = c.write_sealed.ensures.counts in
    record { answered = n.answered; segments = n.segments; asked = n.asked; none_fell = subst (λ (m : Memory). NoCountFell m c.write_sealed.new.self.unstored.chains) c.seal.ensures.chains n.none_fell }

-- ---- what is known still

pub returns-then-is_empty-clause-stays : goal.returns-then-is_empty-clause-stays
returns-then-is_empty-clause-stays g c = λ none key un. known-itself c.args.self.now key

pub returns-in-None-clause-stays : goal.returns-in-None-clause-stays
returns-in-None-clause-stays g c = λ none key un. known-itself c.args.self.now key

pub returns-in-Some-clause-stays : goal.returns-in-Some-clause-stays
returns-in-Some-clause-stays g c =
    let files = g.W.Store.files c.args.store.now in
    let k = c.args.self.now in
    let sealed : Shard = record k { unstored = c.seal.new.self } in
    let m : State = c.requires.0 in
    let s = c.requires.1 in
    let t = sealed-for _ c.a_reader_stays.ensures files k sealed m refl refl refl refl c.seal.ensures.chains c.seal.ensures.sealed c.seal.ensures.kept s in
    let has : HasCache k.cache.entries k.unstored.chains = record { are = s.cached.are; one = s.cached.one; used = s.cached.used } in
    on-answered _ (StaysKnown Flush k c.write_sealed.new.self) c.write_sealed.result
    (λ reply written. flush-known files (g.W.Store.files c.write_sealed.new.store) c.in-Some.number k sealed c.write_sealed.new.self reply has c.known.ensures.told refl c.seal.ensures.chains
    (λ i key un. sealed-other k.folder.schema k.unstored c.seal.new.self s.have.sealed s.have.later t.have.sealed t.have.later i.parts key un.sealed un.active s.have.have
    (λ others h. c.seal.ensures.swapped k.folder.schema others h) (λ w ws others h. c.seal.ensures.kept k.folder.schema w ws others h) t.have.have (i.of_writes k.folder.schema t.have.sealed t.have.later t.have.have)) written)
    c.write_sealed.ensures.written

-- ---- nothing is counted

pub returns-in-Some-clause-same : goal.returns-in-Some-clause-same
returns-in-Some-clause-same g c = on-ok-weaker c.write_sealed.result _ _ (λ same. same ∙ ap (λ (m : Memory). m.counts) c.seal.ensures.chains) c.write_sealed.ensures.same
