-- The law is a lemma.
use Rattle.rc_reader.proofs.Said.{lines-same}
use Rattle.rc_reader.proofs.laws.the_lines_are_what_a_stream_says.Goals as goal

pub returns : goal.returns
returns c = λ s t slice o p head same. lines-same slice s t o p head same
