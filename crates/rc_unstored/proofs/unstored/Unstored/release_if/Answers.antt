use Rattle.std.proofs.Common.{Option, subst}
use Rattle.std.specs.Prelude.{IfSome}
use Rattle.rc_evict.specs.Snap.{Snap}
use Rattle.rc_snapshots.specs.Seeing.{HasSnap}
use Rattle.rc_unstored.proofs.Leaving.{released-no-more}
use Rattle.rc_unstored.proofs.unstored.Unstored.release_if.Goals as goal

pub returns-in-Some-clause-room : goal.returns-in-Some-clause-room
returns-in-Some-clause-room g c =
    released-no-more c.what_is_let_go_takes_no_more.ensures.freed c.in-Some.s c.args.self.now.chains c.release.new.self.chains c.release.ensures.released
    (subst (λ (taken : Option Snap). IfSome taken (HasSnap c.args.self.now.chains)) c.in-Some.is c.requires).pin
