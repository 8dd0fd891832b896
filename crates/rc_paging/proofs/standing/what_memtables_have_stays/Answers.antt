-- Each of both stays, so what is merged of them does.
use Rattle.rc_paging.proofs.standing.what_memtables_have_stays.Goals as goal

pub returns-clause-ready : goal.returns-clause-ready
returns-clause-ready g c = λ t m n w v ours theirs d.
    let one = c.a_memtables_stream_stays.ensures.ready in
    let each = c.a_stream_that_may_be_stays.ensures.ready in
    c.a_merge_stays.ensures.ready t m n w v
    (each t.ours.stream m n w v (λ r e d. one r m n w v (ours r e d.0.there) d))
    (each t.theirs.stream m n w v (λ r e d. one r m n w v (theirs r e d.0.there) d)) d

pub returns-clause-seen : goal.returns-clause-seen
returns-clause-seen g c = λ t m n w v s ours theirs d.
    let one = c.a_memtables_stream_stays.ensures.seen in
    let each = c.a_stream_that_may_be_stays.ensures.seen in
    c.a_merge_stays.ensures.seen t m n w v s
    (λ z. each t.ours.stream m n w v z (λ r e d. one r m n w v z (ours r e d.0.there) d))
    (λ z. each t.theirs.stream m n w v z (λ r e d. one r m n w v z (theirs r e d.0.there) d)) d
