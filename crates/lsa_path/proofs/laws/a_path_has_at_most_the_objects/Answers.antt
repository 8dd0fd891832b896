use Rattle.lsa_region.specs.Region.{link_of, objects}
use Rattle.lsa_path.specs.laws.Passing.{path-few, path-bytes, path-walked}
use Rattle.lsa_path.proofs.laws.a_path_has_at_most_the_objects.Goals as goal

pub returns-clause-few : goal.returns-clause-few
returns-clause-few c = λ v i o s refs f differ well summed out p. path-few i o differ v well summed s refs f out p

pub returns-clause-bytes : goal.returns-clause-bytes
returns-clause-bytes c = λ v i o s refs f differ well summed out p. path-bytes i o differ v well summed s refs f out p

pub returns-clause-walked : goal.returns-clause-walked
returns-clause-walked c = λ v i o s refs f differ well summed out free p. path-walked i o (link_of v) (objects v) s refs f (path-few i o differ v well summed s refs f out p) free p
