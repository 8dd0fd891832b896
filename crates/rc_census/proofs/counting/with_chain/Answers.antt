use Rattle.std.proofs.Common.{sym, ◌∙◌, arith}
use Rattle.rc_memory.specs.Memory.{chain_at}
use Rattle.rc_census.proofs.Lawful.{on-adds}
use Rattle.rc_census.proofs.Numbered.{some_of}
use Rattle.rc_census.proofs.counting.with_chain.Goals as goal

pub overflow_add-result : goal.overflow_add-result
overflow_add-result g c =
    let k = some_of (chain_at c.args.chains.now c.args.id) c.requires.there in let own = on-adds k.0 (sym (c.is_in_cache.ensures k.0 k.1) ∙ c.if-not-is_in_cache.false) in
    omega (arith, c.requires.partitions k.0 k.1, own.partitions)

pub overflow_add-result-2 : goal.overflow_add-result-2
overflow_add-result-2 g c =
    let k = some_of (chain_at c.args.chains.now c.args.id) c.requires.there in let own = on-adds k.0 (sym (c.is_in_cache.ensures k.0 k.1) ∙ c.if-not-is_in_cache.false) in
    omega (arith, c.requires.rows k.0 k.1, own.rows, c.sorts_of_chain-sorts.ensures.rows k.0 k.1)

pub overflow_add-result-3 : goal.overflow_add-result-3
overflow_add-result-3 g c =
    let k = some_of (chain_at c.args.chains.now c.args.id) c.requires.there in let own = on-adds k.0 (sym (c.is_in_cache.ensures k.0 k.1) ∙ c.if-not-is_in_cache.false) in
    omega (arith, c.requires.dummies k.0 k.1, own.dummies, c.sorts_of_chain-sorts.ensures.dummies k.0 k.1)
