use Rattle.std.proofs.Common.{refl, ap, ◌∙◌}
use Rattle.rc_memory.specs.Memory.{snapshot_number, with_snapshot, without_snapshot}
use Rattle.rc_census.specs.Census.{census_of}
use Rattle.rc_census.proofs.Weighed.{census_in, on-census}
use Rattle.rc_census.proofs.laws.readers_and_moves_leave_the_census.Goals as goal

pub returns-clause-moved : goal.returns-clause-moved
returns-clause-moved c = λ old new h. ap census_in h.chains

pub returns-clause-pinned : goal.returns-clause-pinned
returns-clause-pinned c = λ id pin phase old new h. ap census_of h.now ∙ on-census old.chains id (λ k. with_snapshot (snapshot_number k.chain) k) (λ k. refl) (λ k. refl) (λ k. refl)

pub returns-clause-released : goal.returns-clause-released
returns-clause-released c = λ id pin m. on-census m.chains id (without_snapshot pin) (λ k. refl) (λ k. refl) (λ k. refl)
