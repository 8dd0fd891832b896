-- Behind the end of the piece, or right there with another tombstone.
use Rattle.std.proofs.Common.{refl}
use Rattle.rc_tables.proofs.Apart.{follows_less, follows_equal}
use Rattle.rc_tables.proofs.rebuilding.may_follow.Goals as goal

pub returns-in-Less : goal.returns-in-Less
returns-in-Less c = (λ _. follows_less c.args.piece.now c.first-item.result c.args.next.now c.in-len1-up.len_at_least c.first-item.is c.in-Less.ensures, λ _. refl)

pub returns-in-Equal : goal.returns-in-Equal
returns-in-Equal c = follows_equal c.args.piece.now c.first-item.result c.args.next.now c.ne.result c.in-len1-up.len_at_least c.first-item.is c.in-Equal.ensures c.ne.ensures
