-- The closure compares a row's key with the key.
use Rattle.std.proofs.Common.{rules}
use Rattle.std.proofs.lemmas.Fn.{always_returns_same}
use Rattle.rc_position.specs.Position.{key_cmp}
use Rattle.rc_mutation.proofs.Places.{searched}
use Rattle.rc_mutation.proofs.rows.place_of.Goals as goal

pub returns : goal.returns
returns c =
    let facts = c.binary_search_by.ensures in
    let by_key = facts.position (λ e. key_cmp e.0 c.args.key.now) (always_returns_same _ _ _ (λ a r f' called. search rules)) in
    searched c.args.items.now c.args.key.now c.requires _ facts.bound by_key
