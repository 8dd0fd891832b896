-- The partition is an entry, whose chain is detached, or it is none.
use Rattle.std.proofs.Common.{ap}
use Rattle.rc_memory.specs.Memory.{Memory}
use Rattle.rc_lookup.specs.Found.{entry_number}
use Rattle.rc_shard.proofs.Forgotten.{DetachLaws, forgets-absent, forgets-entry, number-or-none, written-absent, written-entry}
use Rattle.rc_shard.proofs.forgetting.forget_one.Goals as goal

pub returns-clause-forgets : goal.returns-clause-forgets
returns-clause-forgets c =
    let ones = c.each_chain_of_the_cache_has_one_version.ensures in
    let laws : DetachLaws = record { says = c.the_cache_says_what_lies_below.ensures.detached; one = ones.detached; settled = ones.settled; used = c.chains_of_the_cache_stay_in_use.ensures.detached; bytes = c.what_calls_leave_of_memtables.ensures.detached; snapshots = c.calls_leave_the_snapshots_of_the_cache.ensures.detached; gone = c.each_key_is_found.ensures.gone } in
    let known = c.known.ensures in
    number-or-none _ (entry_number c.args.cache.now.entries c.args.part.now.key)
    (λ none. forgets-absent c.args.part.now c.args.cache.now.entries c.forget.new.self.entries c.args.unstored.now.chains c.forget.new.chains none (c.forget.ensures.none none))
    (λ id e. forgets-entry laws c.args.part.now c.args.cache.now.entries id c.args.unstored.now c.forget.new.chains known.sound known.told e (c.forget.ensures.detached id e) c.forget.new.self.entries c.forget.ensures.gone c.forget.ensures.entries)

pub returns-clause-keeps : goal.returns-clause-keeps
returns-clause-keeps c =
    let ones = c.each_chain_of_the_cache_has_one_version.ensures in
    let laws : DetachLaws = record { says = c.the_cache_says_what_lies_below.ensures.detached; one = ones.detached; settled = ones.settled; used = c.chains_of_the_cache_stay_in_use.ensures.detached; bytes = c.what_calls_leave_of_memtables.ensures.detached; snapshots = c.calls_leave_the_snapshots_of_the_cache.ensures.detached; gone = c.each_key_is_found.ensures.gone } in
    let known = c.known.ensures in
    number-or-none _ (entry_number c.args.cache.now.entries c.args.part.now.key)
    (λ none. written-absent c.args.unstored.now c.forget.new.chains (c.forget.ensures.none none).1)
    (λ id e. written-entry laws c.args.part.now c.args.cache.now.entries id c.args.unstored.now c.forget.new.chains known.sound known.told e (c.forget.ensures.detached id e) c.requires.are c.forget.ensures.seen
    (λ schema writes later. c.what_leaves_the_chains_of_both_leaves_their_writes.ensures.beside 131072 schema c.args.unstored.now c.forget.new.chains writes later))

pub returns-clause-counts : goal.returns-clause-counts
returns-clause-counts c = number-or-none _ (entry_number c.args.cache.now.entries c.args.part.now.key) (λ none. ap (λ (m : Memory). m.counts) (c.forget.ensures.none none).1) (λ id e. c.what_is_let_go_counts_nothing.ensures.detached id c.args.unstored.now.chains c.forget.new.chains (c.forget.ensures.detached id e))
