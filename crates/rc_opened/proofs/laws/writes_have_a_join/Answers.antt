-- By the merge of the streams of both.
use Rattle.rc_opened.proofs.Joins.{every, two}
use Rattle.rc_opened.proofs.Uniting.{united, united_canonical, united_cover}
use Rattle.rc_opened.proofs.laws.writes_have_a_join.Goals as goal

pub returns-clause-ranges : goal.returns-clause-ranges
returns-clause-ranges c = λ one other is too.
    let whole = c.the_stream_of_a_mutation.ensures.whole in
    let stream = c.the_stream_of_a_mutation.ensures.fragments in
    let ordered = c.a_merge_is_canonical.ensures.ordered in
    let telling = c.a_merge_is_canonical.ensures.telling in
    let rows = c.a_merge_says_what_both_say.ensures.rows in
    let first = c.a_merge_says_what_both_say.ensures.first in
    let tombs = c.a_merge_says_what_both_say.ensures.tombs in (
      united whole stream ordered telling rows first tombs one other is too,
      united_canonical whole stream ordered telling rows first tombs one other is too,
      united_cover whole stream ordered telling rows first tombs one other is too,
    )

pub returns-clause-two : goal.returns-clause-two
returns-clause-two c = two (returns-clause-ranges c)

pub returns-clause-all : goal.returns-clause-all
returns-clause-all c = every (returns-clause-ranges c)
