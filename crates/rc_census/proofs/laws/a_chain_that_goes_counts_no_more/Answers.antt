use Rattle.std.proofs.Common.{Option, Some, None, refl, ap, ◌∙◌}
use Rattle.std.specs.Option.{option_map}
use Rattle.rc_memory.specs.Memory.{KeptChain, chain_at, on_shown, shown_detached}
use Rattle.rc_census.specs.Census.{census_raised, chain_dummies, chain_rows}
use Rattle.rc_census.proofs.Lawful.{AddsNothing, none-adds, off-adds, off-detached, take-own}
use Rattle.rc_census.proofs.Weighed.{census_in}
use Rattle.rc_census.proofs.laws.a_chain_that_goes_counts_no_more.Goals as goal

-- a chain that is no longer found by its key adds nothing
detached-adds : (o : Option KeptChain) → AddsNothing (option_map (on_shown shown_detached) o)
detached-adds None = none-adds None refl
detached-adds (Some k) = off-adds (on_shown shown_detached k) (off-detached (on_shown shown_detached k) refl)

pub returns-clause-detached : goal.returns-clause-detached
returns-clause-detached c = λ id k list old new there counts h.
    ap (λ cs. census_raised 1 (chain_rows k) (chain_dummies k) (census_in cs)) h.chains ∙ take-own old.chains id k (option_map (on_shown shown_detached) (chain_at old id)) there counts (detached-adds (chain_at old id))

pub returns-clause-dropped : goal.returns-clause-dropped
returns-clause-dropped c = λ id k list old new there counts h.
    ap (λ cs. census_raised 1 (chain_rows k) (chain_dummies k) (census_in cs)) h.chains ∙ take-own old.chains id k None there counts (none-adds None refl)
