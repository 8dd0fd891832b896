use Rattle.rc_row_cache.proofs.Phases.{PhaseLaws, invalidated-says}
use Rattle.rc_row_cache.proofs.laws.the_cache_says_what_lies_below_at_a_new_phase.Goals as goal

pub returns : goal.returns
returns c =
    let gone = c.a_chain_no_longer_found_keeps_what_is_said.ensures in
    let phased = c.a_relabelled_chain_keeps_what_is_said.ensures in
    let left = c.what_an_invalidation_leaves.ensures in
    let phases : PhaseLaws = record { chain = phased.chain; form = phased.form; alike = phased.below; detached_chain = gone.chain; detached_form = gone.form; gone = left.gone; others = left.others; none = left.none } in
    λ schema below ids phase old new sound i since. invalidated-says phases below ids phase old new sound i since schema
