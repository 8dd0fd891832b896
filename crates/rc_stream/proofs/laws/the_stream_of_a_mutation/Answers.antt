-- The law is a lemma.
use Rattle.std.proofs.Common.{refl, sym, subst}
use Rattle.rc_stream.specs.Showing.{IsFromStart}
use Rattle.rc_stream.proofs.Joining.{ordered-lines}
use Rattle.rc_stream.proofs.Whole.{stream-of_fragments}
use Rattle.rc_stream.proofs.laws.the_stream_of_a_mutation.Goals as goal

pub returns-clause-whole : goal.returns-clause-whole
returns-clause-whole c = λ m is. subst IsFromStart (sym (stream-of_fragments m is)) (refl, ordered-lines m is)

pub returns-clause-fragments : goal.returns-clause-fragments
returns-clause-fragments c = stream-of_fragments
