-- What was read lies below its chain, and filling leaves the rest.
use Rattle.std.proofs.Common.{◌≡◌, ℕ, Some, None, refl, sym, subst, arith}
use Rattle.std.specs.Prelude.{IfNone, IfSome, MatchOption}
use Rattle.rc_stream.specs.Stream.{stream_of}
use Rattle.rc_mutation.specs.Fragments.{fragments}
use Rattle.rc_cached.specs.Stands.{HasCacheSnapshot}
use Rattle.rc_lookup.specs.Found.{entry_number}
use Rattle.rc_lookup.specs.Fillers.{losses}
use Rattle.rc_lookup.specs.Held.{IsHeldOf, IsHeldWhole}
use Rattle.rc_lookup.specs.Memtables.{in_chains}
use Rattle.rc_lookup.specs.Rest.{LeavesBut, LeavesRest}
use Rattle.rc_shard.specs.declared.shard.Shard.{Shard}
use Rattle.rc_stream.specs.Snapshot.{NoneLost}
use Rattle.rc_shard.proofs.Counted.{if-ok-all}
use Rattle.rc_shard.proofs.Standing.{taken-as}
use Rattle.rc_shard.proofs.Filled.{filled-for, none-found, none-taken, other-chain}
use Rattle.rc_shard.proofs.Known.{filled-known, no-entry}
use Rattle.rc_shard.proofs.Looking.{entry-snapshot, over-of, rest-plain, rest-of}
use Rattle.rc_shard.proofs.shard.Shard.fill.Goals as goal

pub take_populated-requires : goal.take_populated-requires
take_populated-requires c =
    let s = c.requires.stands.2 in
    let schema = c.args.self.now.folder.schema in
    (omega arith, (s.cached.are, (omega arith, (schema, (λ id phase. s.cached.below id), over-of schema c.args.self.now.cache.entries c.args.self.now.unstored.chains c.requires.stands.1 s.cached, c.requires.fits))))

pub returns-in-Ok-Some-clause-says : goal.returns-in-Ok-Some-clause-says
returns-in-Ok-Some-clause-says c = λ files m said s of join.
    let k = c.args.self.now in
    let new : Shard = record k { cache = c.take_populated.new.cache; unstored = in_chains c.take_populated.new.chains k.unstored } in
    entry-snapshot _ files k new m c.args.key.now c.in-Ok-Some.snap s refl (subst (λ o. IfSome o (IsHeldOf c.args.key.now c.take_populated.new.cache.entries k.unstored.chains c.take_populated.new.chains)) c.in-Ok-Some.field-0-is c.in-Ok-Some.ensures.taken)

pub returns-in-Ok-Some-clause-held : goal.returns-in-Ok-Some-clause-held
returns-in-Ok-Some-clause-held c = λ none.
    let old = c.args.self.now.unstored.chains in
    let new = c.take_populated.new.chains in
    let whole = subst (λ o. IfSome o (λ s. NoneLost (losses old) (losses new) → IsHeldWhole new s)) c.in-Ok-Some.field-0-is c.in-Ok-Some.ensures.whole in
    (whole none).known.static_row

pub returns-in-Ok-None-clause-caught : goal.returns-in-Ok-None-clause-caught
returns-in-Ok-None-clause-caught c =
    let old = c.args.self.now.unstored.chains in
    let new = c.take_populated.new.chains in
    let skips = subst (λ o. IfNone o (NoneLost old.counts.skipped new.counts.skipped → ⊥)) c.in-Ok-None.field-0-is c.in-Ok-None.ensures.skips in
    if-ok-all c.stream_read.result _ (λ source none. absurd (skips none))

pub returns-in-Ok-None-clause-held : goal.returns-in-Ok-None-clause-held
returns-in-Ok-None-clause-held c =
    let b = c.take_populated.new.cache.entries in
    let absent = subst (λ o. IfNone o (entry_number b c.args.key.now ≡ None)) c.in-Ok-None.field-0-is c.in-Ok-None.ensures.absent in
    if-ok-all c.stream_read.result _ (λ source none. absurd (no-entry (entry_number b c.args.key.now) _ absent (c.in-Ok-None.ensures.known none)))

pub returns-in-Ok-Some-clause-stays : goal.returns-in-Ok-Some-clause-stays
returns-in-Ok-Some-clause-stays c =
    let k = c.args.self.now in
    let new : Shard = record k { cache = c.take_populated.new.cache; unstored = in_chains c.take_populated.new.chains k.unstored } in
    filled-known k new c.args.key.now c.requires.stands.2.cached.are c.known.ensures.told (λ none. c.in-Ok-Some.ensures.known none) (λ none q ne. c.in-Ok-Some.ensures.stays none q ne)

pub returns-in-Ok-Some-clause-keeps : goal.returns-in-Ok-Some-clause-keeps
returns-in-Ok-Some-clause-keeps c = λ files m said s of join.
    let k = c.args.self.now in
    let n = c.take_populated.new.chains in
    let t = c.in-Ok-Some.ensures in
    let own = subst (λ o. IfSome o (IsHeldOf c.args.key.now c.take_populated.new.cache.entries k.unstored.chains n)) c.in-Ok-Some.field-0-is t.taken in
    let apart = subst (λ o. IfSome o (λ s. (pin : ℕ) → HasCacheSnapshot k.unstored.chains s.chain pin → ⊥)) c.in-Ok-Some.field-0-is t.apart in
    let rest = subst (λ o. MatchOption o (LeavesRest k.unstored.chains n) (λ s. LeavesBut s k.unstored.chains n)) c.in-Ok-Some.field-0-is t.rest in
    filled-for _ c.a_reader_stays.ensures (λ schema u n writes later. c.what_leaves_the_chains_of_both_leaves_their_writes.ensures.beside 131072 schema u n writes later)
    files k n c.take_populated.new.cache.entries c.args.key.now c.args.read.now 1 m said c.requires.mutation c.requires.fits (rest-of (Some c.in-Ok-Some.snap) k.unstored.chains n rest) c.take_populated.ensures.entries
    (λ q id found apart. c.take_populated.ensures.others q id found apart) (λ schema below writes over fit same. c.take_populated.ensures.says schema below writes over fit same) (other-chain _ k.unstored.chains c.in-Ok-Some.snap own.entry apart) s of join

pub returns-in-Ok-None-clause-keeps : goal.returns-in-Ok-None-clause-keeps
returns-in-Ok-None-clause-keeps c = λ files m said s of join.
    let k = c.args.self.now in
    let n = c.take_populated.new.chains in
    let t = c.in-Ok-None.ensures in
    let b = c.take_populated.new.cache.entries in
    let rest = subst (λ o. MatchOption o (LeavesRest k.unstored.chains n) (λ s. LeavesBut s k.unstored.chains n)) c.in-Ok-None.field-0-is t.rest in
    let absent = subst (λ o. IfNone o (entry_number b c.args.key.now ≡ None)) c.in-Ok-None.field-0-is t.absent in
    let kept = filled-for _ c.a_reader_stays.ensures (λ schema u n writes later. c.what_leaves_the_chains_of_both_leaves_their_writes.ensures.beside 131072 schema u n writes later)
    files k n b c.args.key.now c.args.read.now 0 m said c.requires.mutation c.requires.fits (rest-plain k.unstored.chains n rest) c.take_populated.ensures.entries
    (λ q id found apart. c.take_populated.ensures.others q id found apart) (λ schema below writes over fit same. c.take_populated.ensures.says schema below writes over fit same) (none-found _ k.unstored.chains absent) s of join in
    taken-as (sym (none-taken c.stream_read.result (stream_of (fragments c.args.read.now)) c.stream_read.ensures.stream)) kept

pub returns-in-Err-clause-keeps : goal.returns-in-Err-clause-keeps
returns-in-Err-clause-keeps c = λ files m said s of join.
    let k = c.args.self.now in
    let n = c.take_populated.new.chains in
    let t = c.in-Err.ensures in
    filled-for _ c.a_reader_stays.ensures (λ schema u n writes later. c.what_leaves_the_chains_of_both_leaves_their_writes.ensures.beside 131072 schema u n writes later)
    files k n c.take_populated.new.cache.entries c.args.key.now c.args.read.now 0 m said c.requires.mutation c.requires.fits (rest-plain k.unstored.chains n t.rest_err) c.take_populated.ensures.entries
    (λ q id found apart. c.take_populated.ensures.others q id found apart) (λ schema below writes over fit same. c.take_populated.ensures.says schema below writes over fit same) (λ id pin there found. t.apart_err id pin found there) s of join
