-- The closure compares a partition's key with the key.
use Rattle.std.proofs.Common.{rules}
use Rattle.std.proofs.lemmas.Fn.{always_returns_same}
use Rattle.rc_position.specs.Position.{bytes_cmp}
use Rattle.rc_tables.proofs.Searching.{search_found, search_absent}
use Rattle.rc_tables.proofs.reading.place_of.Goals as goal

pub returns-clause-found : goal.returns-clause-found
returns-clause-found c =
    let facts = c.binary_search_by.ensures in
    let by_key = facts.position (λ e. bytes_cmp e.key c.args.key.now) (always_returns_same _ _ _ (λ a r f' called. search rules)) in
    search_found c.args.parts.now c.args.key.now _ facts.bound by_key

pub returns-clause-absent : goal.returns-clause-absent
returns-clause-absent c =
    let facts = c.binary_search_by.ensures in
    let by_key = facts.position (λ e. bytes_cmp e.key c.args.key.now) (always_returns_same _ _ _ (λ a r f' called. search rules)) in
    search_absent c.args.parts.now c.args.key.now _ facts.bound by_key
