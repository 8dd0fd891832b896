-- The partition leaves the cache, and is entered again.
use Rattle.std.proofs.Common.{◌≡◌, ◌≤◌, ℕ, List, Some, arith}
use Rattle.std.specs.Prelude.{IfOk, IfSome, MatchOption}
use Rattle.rc_cached.specs.Stands.{HasCacheSnapshot}
use Rattle.rc_stream.specs.Snapshot.{NoneLost}
use Rattle.rc_row_cache.specs.Crowds.{loses-after}
use Rattle.rc_row_cache.specs.Found.{entry_number}
use Rattle.rc_row_cache.specs.Fillers.{losses}
use Rattle.rc_lookup.specs.Held.{IsHeldOf, IsHeldWhole}
use Rattle.rc_lookup.specs.Rest.{LeavesBut, LeavesRest}
use Rattle.rc_lookup.specs.Staying.{IsEntryStill}
use Rattle.rc_lookup.proofs.Fills.{between, on-also}
use Rattle.rc_lookup.proofs.Holding.{held-is-known, if-held, match-also, on-failed, rest-lost, some-of-match, skips-through}
use Rattle.rc_lookup.specs.laws.Rest.{but-after, rest-then}
use Rattle.rc_lookup.specs.laws.Staying.{entry-then}
use Rattle.rc_lookup.proofs.populating.take_populated.Goals as goal

pub forget_entry-requires : goal.forget_entry-requires
forget_entry-requires g c = (omega arith, (c.requires.entries, (c.requires.over.0, c.requires.over.1, c.requires.over.2.says)))

pub enter_read-requires : goal.enter_read-requires
enter_read-requires g c =
    let over = c.requires.over in (
      omega arith,
      (
        c.forget_entry.ensures.entries,
        (
          c.forget_entry.ensures.none,
          (
            c.requires.roomy,
            (over.0, over.1, record { limits = over.2.limits; small = over.2.small; fits = over.2.fits; says = c.forget_entry.ensures.says over.0 over.1 over.2.says }, over.3),
          ),
        ),
      ),
    )

pub returns-clause-taken : goal.returns-clause-taken
returns-clause-taken g c =
    let old = c.args.chains.now in
    let mid = c.forget_entry.new.chains in
    let new = c.enter_read.new.chains in
    let key = c.args.key.now in
    let es = c.enter_read.new.cache.entries in
    if-held (IsHeldOf key es mid new) (IsHeldOf key es old new) c.enter_read.result
    (λ x h. record { entry = h.entry; there = h.there; fresh = λ on. h.fresh (c.forget_entry.ensures.rest.seen.there x on) }) c.enter_read.ensures.taken

pub returns-clause-apart : goal.returns-clause-apart
returns-clause-apart g c =
    let old = c.args.chains.now in
    let mid = c.forget_entry.new.chains in
    let new = c.enter_read.new.chains in
    let key = c.args.key.now in
    let es = c.enter_read.new.cache.entries in
    if-held (λ x. (pin : ℕ) → HasCacheSnapshot mid x.chain pin → ⊥) (λ x. (pin : ℕ) → HasCacheSnapshot old x.chain pin → ⊥) c.enter_read.result
    (λ x f pin h. f pin (c.forget_entry.ensures.rest.pins x.chain pin h)) c.enter_read.ensures.apart

pub returns-clause-apart_err : goal.returns-clause-apart_err
returns-clause-apart_err g c =
    let old = c.args.chains.now in
    let mid = c.forget_entry.new.chains in
    let new = c.enter_read.new.chains in
    let key = c.args.key.now in
    let es = c.enter_read.new.cache.entries in
    on-failed ((id pin : ℕ) → entry_number es key ≡ Some id → HasCacheSnapshot mid id pin → ⊥) ((id pin : ℕ) → entry_number es key ≡ Some id → HasCacheSnapshot old id pin → ⊥) c.enter_read.result
    (λ f id pin found h. f id pin found (c.forget_entry.ensures.rest.pins id pin h)) c.enter_read.ensures.apart_err

pub returns-clause-known : goal.returns-clause-known
returns-clause-known g c =
    let old = c.args.chains.now in
    let mid = c.forget_entry.new.chains in
    let new = c.enter_read.new.chains in
    let key = c.args.key.now in
    let es = c.enter_read.new.cache.entries in
    let before = c.forget_entry.ensures.rest.counts in
    let since : losses mid ≤ losses new = rest-lost mid new c.enter_read.result c.enter_read.ensures.rest c.enter_read.ensures.rest_err in
    let less : losses old ≤ losses mid = omega (arith, before.evicted, before.skipped) in
    let unlost : NoneLost (losses old) (losses new) → NoneLost (losses mid) (losses new) = λ none. (between (losses old) (losses mid) (losses new) less since none).1 in
    let all : IfOk c.enter_read.result (λ o. MatchOption o (NoneLost (losses old) (losses new) → ⊥) (λ x. NoneLost (losses old) (losses new) → IsHeldWhole new x)) =
    match-also (NoneLost (losses mid) (losses new) → ⊥) (NoneLost (losses old) (losses new) → ⊥) (λ x. NoneLost (losses mid) (losses new) → IsHeldWhole new x) (λ x. NoneLost (losses old) (losses new) → IsHeldWhole new x) c.enter_read.result
    (λ f none. f (unlost none)) (λ x f none. f (unlost none)) c.enter_read.ensures.whole in
    let taken : IfOk c.enter_read.result (λ o. IfSome o (IsHeldOf key es old new)) = if-held (IsHeldOf key es mid new) (IsHeldOf key es old new) c.enter_read.result
    (λ x h. record { entry = h.entry; there = h.there; fresh = λ on. h.fresh (c.forget_entry.ensures.rest.seen.there x on) }) c.enter_read.ensures.taken in
    held-is-known key es old new (NoneLost (losses old) (losses new)) c.enter_read.result taken all

pub returns-clause-whole : goal.returns-clause-whole
returns-clause-whole g c =
    let old = c.args.chains.now in
    let mid = c.forget_entry.new.chains in
    let new = c.enter_read.new.chains in
    let before = c.forget_entry.ensures.rest.counts in
    let since : losses mid ≤ losses new = rest-lost mid new c.enter_read.result c.enter_read.ensures.rest c.enter_read.ensures.rest_err in
    let less : losses old ≤ losses mid = omega (arith, before.evicted, before.skipped) in
    let unlost : NoneLost (losses old) (losses new) → NoneLost (losses mid) (losses new) = λ none. (between (losses old) (losses mid) (losses new) less since none).1 in
    let all : IfOk c.enter_read.result (λ o. MatchOption o (NoneLost (losses old) (losses new) → ⊥) (λ x. NoneLost (losses old) (losses new) → IsHeldWhole new x)) =
    match-also (NoneLost (losses mid) (losses new) → ⊥) (NoneLost (losses old) (losses new) → ⊥) (λ x. NoneLost (losses mid) (losses new) → IsHeldWhole new x) (λ x. NoneLost (losses old) (losses new) → IsHeldWhole new x) c.enter_read.result
    (λ f none. f (unlost none)) (λ x f none. f (unlost none)) c.enter_read.ensures.whole in
    some-of-match (NoneLost (losses old) (losses new) → ⊥) (λ x. NoneLost (losses old) (losses new) → IsHeldWhole new x) c.enter_read.result all

pub returns-clause-rest : goal.returns-clause-rest
returns-clause-rest g c =
    let old = c.args.chains.now in
    let mid = c.forget_entry.new.chains in
    let new = c.enter_read.new.chains in
    let key = c.args.key.now in
    let es = c.enter_read.new.cache.entries in
    match-also (LeavesRest mid new) (LeavesRest old new) (λ x. LeavesBut x mid new) (λ x. LeavesBut x old new) c.enter_read.result
    (rest-then old mid new c.forget_entry.ensures.rest) (λ x. but-after x old mid new c.forget_entry.ensures.rest) c.enter_read.ensures.rest

pub returns-clause-rest_err : goal.returns-clause-rest_err
returns-clause-rest_err g c =
    let old = c.args.chains.now in
    let mid = c.forget_entry.new.chains in
    let new = c.enter_read.new.chains in
    let key = c.args.key.now in
    let es = c.enter_read.new.cache.entries in
    on-failed (LeavesRest mid new) (LeavesRest old new) c.enter_read.result (rest-then old mid new c.forget_entry.ensures.rest) c.enter_read.ensures.rest_err

pub returns-clause-says : goal.returns-clause-says
returns-clause-says g c = λ schema below writes over fits same.
    c.enter_read.ensures.says schema below writes (record { limits = over.limits; small = over.small; fits = over.fits; says = c.forget_entry.ensures.says schema below over.says }) fits same

pub returns-clause-others : goal.returns-clause-others
returns-clause-others g c = λ q id e ne. c.forget_entry.ensures.others q id (c.enter_read.ensures.others q id e ne)

pub returns-clause-stays : goal.returns-clause-stays
returns-clause-stays g c =
    let old = c.args.chains.now in
    let mid = c.forget_entry.new.chains in
    let new = c.enter_read.new.chains in
    let key = c.args.key.now in
    let a = c.args.cache.now.entries in
    let b = c.forget_entry.new.cache.entries in
    let d = c.enter_read.new.cache.entries in
    on-also (NoneLost (losses mid) (losses new) → (q : List ℕ) → (q ≡ key → ⊥) → IsEntryStill q b mid d new) (NoneLost (losses old) (losses new) → (q : List ℕ) → (q ≡ key → ⊥) → IsEntryStill q a old d new)
    c.enter_read.result c.enter_read.ensures.stays
    (λ k none q ne.
    let before = c.forget_entry.ensures.rest.counts in
    let less : losses old ≤ losses mid = omega (arith, before.evicted, before.skipped) in
    let more : losses mid ≤ losses new = rest-lost mid new c.enter_read.result c.enter_read.ensures.rest c.enter_read.ensures.rest_err in
    entry-then q a b d old mid new (c.forget_entry.ensures.stays q ne) (k (between (losses old) (losses mid) (losses new) less more none).1 q ne))

pub returns-clause-loses : goal.returns-clause-loses
returns-clause-loses g c = loses-after g.row.S 1 c.args.chains.now c.forget_entry.new.chains c.enter_read.new.chains c.forget_entry.ensures.loses c.enter_read.ensures.loses

pub returns-clause-skips : goal.returns-clause-skips
returns-clause-skips g c = skips-through c.enter_read.result c.args.chains.now c.forget_entry.new.chains c.enter_read.new.chains c.forget_entry.ensures.rest.counts.skipped c.enter_read.ensures.rest c.enter_read.ensures.skips
