-- The law is a lemma.
use Rattle.rc_mutation.proofs.Same.{same_fragments}
use Rattle.rc_mutation.proofs.canonical.fragments_determine_the_mutation.Goals as goal

pub returns : goal.returns
returns c = same_fragments
