use Rattle.std.proofs.Common.{◌≢◌}
use Rattle.lsa_path.specs.Path.{AllOnward}
use Rattle.lsa_path.specs.laws.Paths.{paths-apart, fresh-start, all_map}
use Rattle.lsa_path.specs.laws.Passing.{paths-disjoint}
use Rattle.lsa_path.proofs.laws.paths_from_different_starts_share_no_end.Goals as goal

pub returns-clause-ends : goal.returns-clause-ends
returns-clause-ends c = λ i o named s t xs ys f g differ well out_s out_t apart p q.
    all_map o (λ e. (t ≢ e) × AllOnward o (λ d. d ≢ e) ys) (λ e. AllOnward o (λ d. d ≢ e) ys) xs (λ e h. h.1) (paths-apart i o differ named well s xs f p t ys g out_t q apart (fresh-start i o differ named well s ys out_s))

pub returns-clause-objects : goal.returns-clause-objects
returns-clause-objects c = λ i o named s t xs ys f g differ well out_s out_t apart p q r on other. paths-disjoint i o differ named well s t xs ys f g out_s out_t apart p q r on other
