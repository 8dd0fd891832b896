-- The snapshot through which it was filled is taken back, and its chain stays.
use Rattle.std.proofs.Common.{◌≡◌, ℕ, List, Option, None, Some, sym, ap, ◌∙◌, subst, arith}
use Rattle.std.specs.Prelude.{IfNone, IfOk, IfSome, IsSomeAnd, MatchOption, Ok, OnErr, OnOk}
use Rattle.rc_cached.specs.Stands.{HasCacheSnapshot}
use Rattle.rc_stream.specs.Snapshot.{NoneLost}
use Rattle.rc_row_cache.specs.Crowds.{loses-before}
use Rattle.rc_row_cache.specs.Fillers.{losses}
use Rattle.rc_row_cache.specs.Found.{entry_number}
use Rattle.rc_lookup.specs.Held.{IsHeldOf, IsHeldWhole}
use Rattle.rc_lookup.specs.Known.{IsChainKnown}
use Rattle.rc_lookup.specs.Rest.{LeavesBut, LeavesRest}
use Rattle.rc_lookup.specs.Staying.{IsEntryStill}
use Rattle.rc_lookup.specs.laws.Staying.{entry-then, still-same}
use Rattle.rc_lookup.proofs.Kept.{none-there, same-number}
use Rattle.rc_lookup.proofs.populating.populate.Goals as goal

pub give_up-requires : goal.give_up-requires
give_up-requires g c =
    let h = subst (λ r. IfOk r (λ o. IfSome o (IsHeldOf c.args.key.now c.take_populated.new.cache.entries c.args.chains.now c.take_populated.new.chains))) (c.in-Ok-Some.is ∙ ap Ok c.in-Ok-Some.field-0-is) c.take_populated.ensures.taken in
    (omega arith, h.there)

pub returns-in-Ok-Some-clause-known : goal.returns-in-Ok-Some-clause-known
returns-in-Ok-Some-clause-known g c = λ none.
    let s = c.in-Ok-Some.snap in
    let old = c.args.chains.now in
    let mid = c.take_populated.new.chains in
    let new = c.give_up.new.chains in
    let es = c.take_populated.new.cache.entries in
    let is = c.in-Ok-Some.is ∙ ap Ok c.in-Ok-Some.field-0-is in
    let h = subst (λ r. IfOk r (λ o. IfSome o (IsHeldOf c.args.key.now es old mid))) is c.take_populated.ensures.taken in
    let whole = subst (λ r. IfOk r (λ o. IfSome o (λ x. NoneLost (losses old) (losses mid) → IsHeldWhole mid x))) is c.take_populated.ensures.whole in
    subst (λ (o : Option ℕ). IsSomeAnd o (IsChainKnown new)) (sym h.entry) (c.give_up.ensures.known (whole (subst (NoneLost (losses old)) c.give_up.ensures.lost none)))

pub returns-in-Ok-Some-clause-apart : goal.returns-in-Ok-Some-clause-apart
returns-in-Ok-Some-clause-apart g c = λ id pin found there.
    let s = c.in-Ok-Some.snap in
    let old = c.args.chains.now in
    let is = c.in-Ok-Some.is ∙ ap Ok c.in-Ok-Some.field-0-is in
    let h = subst (λ r. IfOk r (λ o. IfSome o (IsHeldOf c.args.key.now c.take_populated.new.cache.entries old c.take_populated.new.chains))) is c.take_populated.ensures.taken in
    let apart = subst (λ r. IfOk r (λ o. IfSome o (λ x. (pin : ℕ) → HasCacheSnapshot old x.chain pin → ⊥))) is c.take_populated.ensures.apart in
    apart pin (subst (λ i. HasCacheSnapshot old i pin) (same-number id s.chain (sym found ∙ h.entry)) there)

pub returns-in-Ok-Some-clause-rest : goal.returns-in-Ok-Some-clause-rest
returns-in-Ok-Some-clause-rest g c =
    let old = c.args.chains.now in
    let mid = c.take_populated.new.chains in
    let is = c.in-Ok-Some.is ∙ ap Ok c.in-Ok-Some.field-0-is in
    let h = subst (λ r. IfOk r (λ o. IfSome o (IsHeldOf c.args.key.now c.take_populated.new.cache.entries old mid))) is c.take_populated.ensures.taken in
    let but = subst (λ r. IfOk r (λ o. MatchOption o (LeavesRest old mid) (λ x. LeavesBut x old mid))) is c.take_populated.ensures.rest in
    c.give_up.ensures.rest old but h.fresh

pub returns-in-Ok-Some-clause-says : goal.returns-in-Ok-Some-clause-says
returns-in-Ok-Some-clause-says g c = λ schema below writes over fits same. c.give_up.ensures.says schema _ (c.take_populated.ensures.says schema below writes over fits same)

pub returns-in-Ok-Some-clause-entries : goal.returns-in-Ok-Some-clause-entries
returns-in-Ok-Some-clause-entries g c = c.what_leaves_the_caches_chains_leaves_the_entries.ensures.entries c.take_populated.new.cache.entries c.take_populated.new.chains c.give_up.new.chains c.give_up.ensures.cached c.take_populated.ensures.entries

pub returns-in-Ok-Some-clause-stays : goal.returns-in-Ok-Some-clause-stays
returns-in-Ok-Some-clause-stays g c = λ none q ne.
    let s = c.in-Ok-Some.snap in
    let key = c.args.key.now in
    let old = c.args.chains.now in
    let mid = c.take_populated.new.chains in
    let new = c.give_up.new.chains in
    let a = c.args.cache.now.entries in
    let b = c.take_populated.new.cache.entries in
    let is = c.in-Ok-Some.is ∙ ap Ok c.in-Ok-Some.field-0-is in
    let h = subst (λ r. IfOk r (λ o. IfSome o (IsHeldOf key b old mid))) is c.take_populated.ensures.taken in
    let stays = subst (λ r. OnOk r (NoneLost (losses old) (losses mid) → (q : List ℕ) → (q ≡ key → ⊥) → IsEntryStill q a old b mid)) is c.take_populated.ensures.stays in
    let since : IsEntryStill q b mid b new = λ id e on. (e, still-same mid new id (c.give_up.ensures.beside id (λ same. ne (c.take_populated.ensures.entries.apart q key id e (h.entry ∙ ap Some (sym same)))))) in
    entry-then q a b b old mid new (stays (subst (NoneLost (losses old)) c.give_up.ensures.lost none) q ne) since

pub returns-in-Ok-Some-clause-loses : goal.returns-in-Ok-Some-clause-loses
returns-in-Ok-Some-clause-loses g c = loses-before g.row.S 1 c.args.chains.now c.take_populated.new.chains c.give_up.new.chains c.take_populated.ensures.loses c.give_up.ensures.loses

pub returns-in-Ok-None-clause-known : goal.returns-in-Ok-None-clause-known
returns-in-Ok-None-clause-known g c =
    let old = c.args.chains.now in
    let new = c.take_populated.new.chains in
    subst (λ r. OnOk r (NoneLost (losses old) (losses new) → IsSomeAnd (entry_number c.take_populated.new.cache.entries c.args.key.now) (IsChainKnown new))) (c.in-Ok-None.is ∙ ap Ok c.in-Ok-None.field-0-is) c.take_populated.ensures.known

pub returns-in-Ok-None-clause-apart : goal.returns-in-Ok-None-clause-apart
returns-in-Ok-None-clause-apart g c = λ id pin found there.
    let absent = subst (λ r. IfOk r (λ o. IfNone o (entry_number c.take_populated.new.cache.entries c.args.key.now ≡ None))) (c.in-Ok-None.is ∙ ap Ok c.in-Ok-None.field-0-is) c.take_populated.ensures.absent in
    none-there id (sym absent ∙ found)

pub returns-in-Ok-None-clause-rest : goal.returns-in-Ok-None-clause-rest
returns-in-Ok-None-clause-rest g c =
    let old = c.args.chains.now in
    let new = c.take_populated.new.chains in
    subst (λ r. IfOk r (λ o. MatchOption o (LeavesRest old new) (λ x. LeavesBut x old new))) (c.in-Ok-None.is ∙ ap Ok c.in-Ok-None.field-0-is) c.take_populated.ensures.rest

pub returns-in-Ok-None-clause-stays : goal.returns-in-Ok-None-clause-stays
returns-in-Ok-None-clause-stays g c =
    let old = c.args.chains.now in
    let new = c.take_populated.new.chains in
    subst (λ r. OnOk r (NoneLost (losses old) (losses new) → (q : List ℕ) → (q ≡ c.args.key.now → ⊥) → IsEntryStill q c.args.cache.now.entries old c.take_populated.new.cache.entries new)) (c.in-Ok-None.is ∙ ap Ok c.in-Ok-None.field-0-is) c.take_populated.ensures.stays

pub returns-in-Err-clause-apart : goal.returns-in-Err-clause-apart
returns-in-Err-clause-apart g c = subst (λ r. OnErr r ((id pin : ℕ) → entry_number c.take_populated.new.cache.entries c.args.key.now ≡ Some id → HasCacheSnapshot c.args.chains.now id pin → ⊥)) c.in-Err.is c.take_populated.ensures.apart_err

pub returns-in-Err-clause-rest : goal.returns-in-Err-clause-rest
returns-in-Err-clause-rest g c = subst (λ r. OnErr r (LeavesRest c.args.chains.now c.take_populated.new.chains)) c.in-Err.is c.take_populated.ensures.rest_err
