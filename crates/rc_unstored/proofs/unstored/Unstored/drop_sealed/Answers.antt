use Rattle.rc_unstored.proofs.Going.{all-gone-seen, both-dropped, nothing-kept, theirs-of}
use Rattle.rc_unstored.proofs.Leaving.{all-no-more}
use Rattle.rc_unstored.proofs.unstored.Unstored.drop_sealed.Goals as goal

pub returns-clause-gone : goal.returns-clause-gone
returns-clause-gone g c schema writes later h =
    both-dropped schema c.args.self.now c.drop_all.new.chains c.drop_all.new.self writes later c.known.ensures c.drop_all.ensures.gone (c.drop_all.ensures.none schema c.drop_all.new.chains) h

pub returns-clause-seen : goal.returns-clause-seen
returns-clause-seen g c =
    let r = c.requires.kept in
    all-gone-seen c.args.self.now.sealed c.args.self.now.chains c.drop_all.new.chains (theirs-of r.0 c.args.self.now.sealed c.args.self.now.chains r.1 c.known.ensures r.3.sealed) c.drop_all.ensures.gone

pub returns-clause-none : goal.returns-clause-none
returns-clause-none g c = let r = c.requires.kept in nothing-kept r.0 c.drop_all.new.self c.drop_all.new.chains (c.drop_all.ensures.none r.0 c.drop_all.new.chains)

pub returns-clause-room : goal.returns-clause-room
returns-clause-room g c =
    let r = c.requires.kept in
    all-no-more c.what_is_let_go_takes_no_more.ensures.one c.args.self.now.sealed c.args.self.now.chains c.drop_all.new.chains (theirs-of r.0 c.args.self.now.sealed c.args.self.now.chains r.1 c.known.ensures r.3.sealed) c.drop_all.ensures.gone
