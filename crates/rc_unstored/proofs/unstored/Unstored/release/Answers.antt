use Rattle.std.proofs.Common.{refl}
use Rattle.rc_unstored.proofs.Keeping.{same-keys}
use Rattle.rc_unstored.proofs.Returning.{both-released, one-gone, others-seen, released-as}
use Rattle.rc_unstored.proofs.unstored.Unstored.release.Goals as goal

pub returns-clause-stands : goal.returns-clause-stands
returns-clause-stands g c schema writes later h =
    both-released c.args.s c.args.self.now.chains c.release.new.chains c.requires.pin c.release.ensures.found c.release.ensures.freed c.what_leaves_a_memtables_chains_leaves_its_writes.ensures.released c.args.self.now refl schema writes later h

pub returns-clause-others : goal.returns-clause-others
returns-clause-others g c = others-seen c.args.s c.args.self.now.chains c.release.new.chains c.requires.pin c.release.ensures.found c.release.ensures.freed

pub returns-clause-gone : goal.returns-clause-gone
returns-clause-gone g c = one-gone c.args.s c.args.self.now.chains c.release.new.chains c.requires.pin c.release.ensures.found c.release.ensures.freed

pub returns-clause-released : goal.returns-clause-released
returns-clause-released g c = released-as c.args.s c.args.self.now.chains c.release.new.chains c.requires.pin c.release.ensures.found c.release.ensures.freed

pub returns-clause-keys : goal.returns-clause-keys
returns-clause-keys g c = same-keys c.args.self.now c.release.new.chains
