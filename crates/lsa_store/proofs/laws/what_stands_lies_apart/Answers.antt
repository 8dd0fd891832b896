use Rattle.lsa_store.specs.laws.Written.{lie-used, lie-even, lie-apart}
use Rattle.lsa_store.proofs.laws.what_stands_lies_apart.Goals as goal

pub returns-clause-used : goal.returns-clause-used
returns-clause-used c = lie-used

pub returns-clause-even : goal.returns-clause-even
returns-clause-even c = lie-even

pub returns-clause-apart : goal.returns-clause-apart
returns-clause-apart c = lie-apart
