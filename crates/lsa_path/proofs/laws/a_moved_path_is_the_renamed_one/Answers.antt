use Rattle.lsa_path.specs.laws.Renamed.{path-renamed, end-live}
use Rattle.lsa_path.proofs.laws.a_moved_path_is_the_renamed_one.Goals as goal

pub returns-clause-moved : goal.returns-clause-moved
returns-clause-moved c = λ old new names i o start refs f renamed well live p. path-renamed old new names renamed well i o start refs f live p

pub returns-clause-there : goal.returns-clause-there
returns-clause-there c = λ v e h. end-live v e h
