-- The stream of a mutation is its rows and changes in order, and what writes join to has their answer.
use Rattle.std.proofs.Common.{[], ◌∷◌, sym, ◌∙◌}
use Rattle.rc_mutation.specs.Fragments.{fragments}
use Rattle.rc_stream.specs.Stream.{stream_of}
use Rattle.rc_reader.proofs.Slices.{answer-lines}
use Rattle.rc_reader.proofs.laws.the_lines_of_a_mutation_are_its_answer.Goals as goal

pub returns-clause-answer : goal.returns-clause-answer
returns-clause-answer c = λ m slice is. answer-lines m slice (stream_of (fragments m)) is (c.the_stream_of_a_mutation.ensures.whole m is) (c.the_stream_of_a_mutation.ensures.fragments m is)

pub returns-clause-joined : goal.returns-clause-joined
returns-clause-joined c = λ m writes slice is j.
    answer-lines m slice (stream_of (fragments m)) is (c.the_stream_of_a_mutation.ensures.whole m is) (c.the_stream_of_a_mutation.ensures.fragments m is)
    ∙ sym (c.answer_of_joined_writes.ensures m writes slice j)

pub returns-clause-source : goal.returns-clause-source
returns-clause-source c = λ m writes slice is same.
    answer-lines m slice (stream_of (fragments m)) is (c.the_stream_of_a_mutation.ensures.whole m is) (c.the_stream_of_a_mutation.ensures.fragments m is)
    ∙ c.the_source_determines_the_answer.ensures (m ∷ []) writes slice same
