use Rattle.lsa_tree.specs.laws.Trees.{tree-written_beside, tree-written, loose-written, field-read}
use Rattle.lsa_tree.proofs.laws.a_tree_stays_where_bytes_are_written.Goals as goal

pub returns-clause-other : goal.returns-clause-other
returns-clause-other c = λ tree old new refs r change h written beside. tree-written_beside old new r change written tree refs beside h

pub returns-clause-field : goal.returns-clause-field
returns-clause-field c = λ tree old new refs r change offset width value h written low apart put. tree-written old new r change written tree refs (field-read old new r change written offset width value low apart put) h

pub returns-clause-loose : goal.returns-clause-loose
returns-clause-loose c = λ old new q r change offset width value h written low apart put. loose-written old new r change written q (field-read old new r change written offset width value low apart put) h
