use Rattle.std.proofs.Common.{ℕ, List, sym, subst, arith}
use Rattle.std.specs.Map.Iter.{deref_pair}
use Rattle.std.proofs.lemmas.Map.Iter.{btree_map_turn, rest_all, rest_more}
use Rattle.rc_position.specs.laws.Orders.{bytes_cmp_total}
use Rattle.rc_mutation.specs.declared.mutations.Partition.{Partition}
use Rattle.rc_memtable.proofs.Listed.{IsListing, chain-ready, listing-all, listing-more}
use Rattle.rc_memtable.proofs.partitions.partitions_of.Goals as goal

pub partition_of-requires : goal.partition_of-requires
partition_of-requires g c =
    let gives = c.into_iter-key-iterator.ensures.into_iter_gives in
    let turn = btree_map_turn deref_pair c.loop-key.yielded c.into_iter-key-iterator.result c.loop-key.key-iterator c.next.new.self c.next.result (c.in-Some.key, c.in-Some.id) c.loop-key.yielded_by c.in-Some.is c.next.ensures.steps bytes_cmp_total c.args.numbers.now gives.0 gives.5 in
    (omega arith, chain-ready c.args.numbers.now.entries c.loop-key.key-iterator c.args.chains.now c.loop-key.chains c.loop-key.parts.items c.in-Some.key.now c.in-Some.id.now c.loop-key.invariant turn.1 c.requires)

pub loop-key-preserved : goal.loop-key-preserved
loop-key-preserved g c =
    let gives = c.into_iter-key-iterator.ensures.into_iter_gives in
    let turn = btree_map_turn deref_pair c.loop-key.yielded c.into_iter-key-iterator.result c.loop-key.key-iterator c.next.new.self c.next.result (c.in-Some.key, c.in-Some.id) c.loop-key.yielded_by c.in-Some.is c.next.ensures.steps bytes_cmp_total c.args.numbers.now gives.0 gives.5 in
    let next = rest_more deref_pair c.loop-key.key-iterator c.next.new.self c.next.result (c.in-Some.key, c.in-Some.id) c.in-Some.is c.next.ensures.steps in
    subst (λ (ps : List Partition). IsListing c.args.numbers.now.entries c.next.new.self c.args.chains.now c.partition_of.new.chains ps) (sym c.in_ok-push.ensures.items)
    (listing-more c.args.numbers.now.entries c.loop-key.key-iterator c.next.new.self c.args.chains.now c.loop-key.chains c.partition_of.new.chains c.loop-key.parts.items c.in_ok-part.part c.in-Some.key.now c.in-Some.id.now
    c.loop-key.invariant next turn.1 c.in_ok-part.ensures.key c.in_ok-part.ensures.said c.in_ok-part.ensures.stands c.in_ok-part.ensures.left)

pub returns-clause-parts : goal.returns-clause-parts
returns-clause-parts g c schema writes has =
    let gives = c.into_iter-key-iterator.ensures.into_iter_gives in
    let none = rest_all deref_pair c.loop-key.key-iterator c.next.new.self c.next.result c.in-None.is c.next.ensures.steps in
    listing-all c.args.numbers.now.entries c.args.chains.now c.loop-key.chains c.loop-key.parts.items
    (subst (λ (left : List (List ℕ × ℕ)). IsListing c.args.numbers.now.entries left c.args.chains.now c.loop-key.chains c.loop-key.parts.items) none c.loop-key.invariant) gives.5 schema writes has
