-- By the laws of what is spliced.
use Rattle.std.proofs.Common.{◌∷◌}
use Rattle.std.proofs.lemmas.List.Elements.{All-append, All-cons}
use Rattle.rc_mutation.specs.Source.{IsMutation}
use Rattle.rc_writes.specs.Allowed.{ChangeFits}
use Rattle.rc_paging.specs.Past.{under_head}
use Rattle.rc_paging.proofs.OneAnswer.{none_behind, one_answer, same_lines, same_static, static_answer}
use Rattle.rc_paging.proofs.laws.a_reader_goes_on_in_one_answer.Goals as goal

pub returns-clause-spliced : goal.returns-clause-spliced
returns-clause-spliced c = λ schema below written first read spliced slice given rest key shown j is of_tables of_writes h splice.
    one_answer c.answer_of_joined_writes.ensures c.an_answer_goes_on.ensures.whole c.an_answer_is_cut_behind_each_line.ensures.cut c.the_lines_on_each_side_are_those_of_a_part.ensures.from c.an_answer_is_cut_at_each_position.ensures c.writes_have_a_join.ensures.all
    schema below written first read spliced slice given rest key shown j (All-cons IsMutation first written is of_writes.mutations) (All-append (ChangeFits schema) below written of_tables.fit of_writes.fit) h splice

pub returns-clause-same : goal.returns-clause-same
returns-clause-same c = λ schema below written read slice given rest key shown j is of_tables of_writes h.
    same_lines c.answer_of_joined_writes.ensures c.an_answer_goes_on.ensures.whole c.an_answer_is_cut_behind_each_line.ensures.cut c.the_lines_on_each_side_are_those_of_a_part.ensures.from c.an_answer_is_cut_at_each_position.ensures c.writes_have_a_join.ensures.all
    schema below written read slice given rest key shown j is (All-cons IsMutation read written is of_writes.mutations) (All-append (ChangeFits schema) below written of_tables.fit of_writes.fit) h

pub returns-clause-spliced_static : goal.returns-clause-spliced_static
returns-clause-spliced_static c = λ schema below written first read spliced slice rest shown j is of_writes h splice.
    static_answer c.answer_of_joined_writes.ensures c.an_answer_goes_on.ensures.whole c.an_answer_is_cut_behind_each_line.ensures.cut c.the_lines_on_each_side_are_those_of_a_part.ensures.from c.an_answer_is_cut_at_each_position.ensures c.writes_have_a_join.ensures.all
    below written first read spliced slice rest shown j (All-cons IsMutation first written is of_writes.mutations) h splice

pub returns-clause-same_static : goal.returns-clause-same_static
returns-clause-same_static c = λ schema below written read slice rest shown j is of_writes h.
    same_static c.answer_of_joined_writes.ensures c.an_answer_goes_on.ensures.whole c.an_answer_is_cut_behind_each_line.ensures.cut c.the_lines_on_each_side_are_those_of_a_part.ensures.from c.an_answer_is_cut_at_each_position.ensures c.writes_have_a_join.ensures.all
    below written read slice rest shown j is (All-cons IsMutation read written is of_writes.mutations) h

pub returns-clause-none : goal.returns-clause-none
returns-clause-none c = λ below written read slice. none_behind (under_head below read ∷ written) slice
