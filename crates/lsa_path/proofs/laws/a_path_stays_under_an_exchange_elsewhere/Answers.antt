use Rattle.lsa_path.specs.laws.Exchanged.{path-exchanged, path-exchanged_outside}
use Rattle.lsa_path.proofs.laws.a_path_stays_under_an_exchange_elsewhere.Goals as goal

pub returns-clause-elsewhere : goal.returns-clause-elsewhere
returns-clause-elsewhere c = λ i o old new a b s refs f ex no_a no_b fin_a fin_b into out p. path-exchanged i o old new a b ex s refs f no_a no_b fin_a fin_b into out p

pub returns-clause-outside : goal.returns-clause-outside
returns-clause-outside c = λ i o old new a b s refs f ex no_a no_b fin_a fin_b out_a out_b p. path-exchanged_outside i o old new a b ex s refs f out_a out_b no_a no_b fin_a fin_b p
