use Rattle.std.proofs.Common.{Some, refl, ap, ◌∙◌}
use Rattle.rc_core.specs.declared.entries.ChainKind.TheVariants.{Cache, Memtable}
use Rattle.rc_memory.specs.Memory.{chain_at}
use Rattle.rc_chain.specs.Lives.{chain_of_new}
use Rattle.rc_census.specs.Census.{census_of, census_raised}
use Rattle.rc_census.proofs.Lawful.{alone-rows, none-adds, off-adds, put-nothing, put-own}
use Rattle.rc_census.proofs.Weighed.{census_in}
use Rattle.rc_census.proofs.laws.a_new_chain_counts_one_dummy.Goals as goal

pub returns-clause-alone : goal.returns-clause-alone
returns-clause-alone c = λ id k v m vacant counts is version alone.
    let own = alone-rows k v is version alone in put-own m.chains id k vacant counts ∙ (λ i. census_raised 1 (own.0 i) (own.1 i) (census_of m))

pub returns-clause-made : goal.returns-clause-made
returns-clause-made c = λ id pt phase list old new h. ap census_in h.chains ∙ put-own old.chains id (chain_of_new Cache pt phase) h.vacant refl

pub returns-clause-memtable : goal.returns-clause-memtable
returns-clause-memtable c = λ id pt phase list old new h. ap census_in h.chains ∙ put-nothing old.chains id (Some (chain_of_new Memtable pt phase)) (none-adds (chain_at old id) h.vacant) (off-adds (chain_of_new Memtable pt phase) refl)
