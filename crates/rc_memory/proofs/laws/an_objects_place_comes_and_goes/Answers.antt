use Rattle.rc_memory.specs.laws.Listing.{rule-lost, rule-made, rule-objects, rule-settled}
use Rattle.rc_memory.proofs.laws.an_objects_place_comes_and_goes.Goals as goal

pub returns-clause-same : goal.returns-clause-same
returns-clause-same c = λ m n id j f k v there number is h cached list keeps only last. rule-objects m n id j f k v there number is h cached list keeps only last

pub returns-clause-made : goal.returns-clause-made
returns-clause-made c = λ m n id j f k v x there number is h cached list keeps only here fresh inner last. rule-made m n id j f k v there number is h cached x list keeps only here fresh inner last

pub returns-clause-lost : goal.returns-clause-lost
returns-clause-lost c = λ m n id j f k v x front back there number is h cached was list keeps only last. rule-lost m n id j f k v there number is h cached x front back was list keeps only last

pub returns-clause-settled : goal.returns-clause-settled
returns-clause-settled c = λ m n id g is list h alike last. rule-settled m n id g is list h alike last
