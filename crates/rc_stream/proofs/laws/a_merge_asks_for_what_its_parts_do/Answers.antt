-- By the chain of the parts' calls.
use Rattle.rc_stream.specs.laws.Spent.{merge-is-quiet, merge-spends}
use Rattle.rc_stream.proofs.laws.a_merge_asks_for_what_its_parts_do.Goals as goal

pub returns-clause-spends : goal.returns-clause-spends
returns-clause-spends g c left left' asks ours theirs = merge-spends g.A.Frags.did g.B.Frags.did asks left left' ours theirs

pub returns-clause-quiet : goal.returns-clause-quiet
returns-clause-quiet g c settled settled' asks ours theirs = merge-is-quiet g.A.Frags.did g.B.Frags.did asks settled settled' ours theirs
