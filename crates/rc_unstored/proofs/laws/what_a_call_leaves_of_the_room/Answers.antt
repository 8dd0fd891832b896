use Rattle.rc_unstored.proofs.Going.{theirs-of}
use Rattle.rc_unstored.proofs.Leaving.{all-no-more, before-no-more, both-no-more, made-no-more, moved-no-more, not-put-no-more, put-more, refused-no-more, released-no-more}
use Rattle.rc_unstored.proofs.laws.what_a_call_leaves_of_the_room.Goals as goal

pub returns : goal.returns
returns c = record {
  put = λ S schema w old new h. put-more schema w old new h;
  moved = moved-no-more;
  made = made-no-more;
  not_put = λ S old new h. not-put-no-more old new h;
  refused = λ S old new h. refused-no-more old new h;
  taken = both-no-more;
  released = λ s old new there h. released-no-more c.what_is_let_go_takes_no_more.ensures.freed s old new h there.pin;
  let_go = λ S schema u new writes later ascend h gone. all-no-more c.what_is_let_go_takes_no_more.ensures.one u.sealed u.chains new (theirs-of schema u.sealed u.chains writes ascend h.sealed) gone;
  before = before-no-more;
}
