-- The chain of the entry is detached, where it is there.
use Rattle.std.proofs.Common.{[], sym, ap, ◌∙◌, subst}
use Rattle.rc_row_cache.specs.Found.{entry_number}
use Rattle.rc_row_cache.specs.Crowding.{LosesWhereCrowded}
use Rattle.rc_row_cache.specs.Crowds.{loses-nothing}
use Rattle.rc_lookup.specs.Rest.{LeavesRest}
use Rattle.rc_lookup.proofs.Losing.{detached-loses}
use Rattle.rc_lookup.proofs.Leaving.{FoundBeside, entry-cached, none-left, others-were}
use Rattle.rc_lookup.proofs.Numbered.{there-or-not}
use Rattle.rc_lookup.specs.laws.Rest.{rest-none}
use Rattle.rc_lookup.proofs.Rest.{rest-detached}
use Rattle.rc_lookup.proofs.Staying.{entry-beside}
use Rattle.rc_lookup.proofs.populating.forget_entry.Goals as goal

pub returns-clause-none : goal.returns-clause-none
returns-clause-none g c =
    let found : FoundBeside c.args.key.now c.args.cache.now.entries c.forget.new.self.entries = λ q. ap (λ es. entry_number es q) c.forget.ensures.gone ∙ c.each_key_is_found.ensures.gone c.args.cache.now.entries c.args.key.now q c.requires.entries.ascend in
    none-left c.args.key.now c.args.cache.now.entries c.forget.new.self.entries found

pub returns-clause-others : goal.returns-clause-others
returns-clause-others g c =
    let found : FoundBeside c.args.key.now c.args.cache.now.entries c.forget.new.self.entries = λ q. ap (λ es. entry_number es q) c.forget.ensures.gone ∙ c.each_key_is_found.ensures.gone c.args.cache.now.entries c.args.key.now q c.requires.entries.ascend in
    others-were c.args.key.now c.args.cache.now.entries c.forget.new.self.entries found

pub returns-clause-entries : goal.returns-clause-entries
returns-clause-entries g c = c.forget.ensures.entries c.requires.entries

pub returns-clause-rest : goal.returns-clause-rest
returns-clause-rest g c =
    let old = c.args.chains.now in
    let new = c.forget.new.chains in
    let key = c.args.key.now in
    there-or-not (entry_number c.args.cache.now.entries key)
    (λ none. subst (LeavesRest old) (sym (c.forget.ensures.none none).1) (rest-none old))
    (λ id e.
    let d = c.forget.ensures.detached id e in
    let cached = entry-cached c.args.cache.now.entries old key id c.requires.entries c.known.ensures.told e in
    rest-detached id old new d cached c.forget.ensures.seen
    (c.what_calls_leave_of_memtables.ensures.detached id old new d)
    (c.each_chain_of_the_cache_has_one_version.ensures.detached id old new d)
    (c.chains_of_the_cache_stay_in_use.ensures.detached id old new (λ k there. (c.requires.says.2 id k there (cached k there)).settled) d)
    (λ i pin h. (c.forget.ensures.pins (λ _. []) i pin h).0)
    (c.what_calls_leave_of_snapshots.ensures.detached id old new d))

pub returns-clause-stays : goal.returns-clause-stays
returns-clause-stays g c =
    let found : FoundBeside c.args.key.now c.args.cache.now.entries c.forget.new.self.entries = λ q. ap (λ es. entry_number es q) c.forget.ensures.gone ∙ c.each_key_is_found.ensures.gone c.args.cache.now.entries c.args.key.now q c.requires.entries.ascend in
    let key = c.args.key.now in
    let a = c.args.cache.now.entries in
    let b = c.forget.new.self.entries in
    entry-beside key a b c.args.chains.now c.forget.new.chains c.requires.entries (c.forget.ensures.entries c.requires.entries)
    (none-left key a b found) (others-were key a b found) (λ none. (c.forget.ensures.none none).1) c.forget.ensures.detached

pub returns-clause-loses : goal.returns-clause-loses
returns-clause-loses g c =
    let old = c.args.chains.now in
    there-or-not (entry_number c.args.cache.now.entries c.args.key.now)
    (λ none. subst (LosesWhereCrowded g.row.S 0 old) (sym (c.forget.ensures.none none).1) (loses-nothing g.row.S old))
    (λ id e. detached-loses g.row.S id old c.forget.new.chains c.known.ensures.live c.known-2.ensures.live (c.forget.ensures.detached id e))
