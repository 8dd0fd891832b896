-- Only what is ahead changes.
use Rattle.std.proofs.Common.{ap}
use Rattle.rc_tfile.specs.calls.Windows.{reads_left}
use Rattle.rc_tfile.proofs.window.Window.advance.Goals as goal

pub returns-clause-reads : goal.returns-clause-reads
unfolding reads_left
returns-clause-reads c = ap reads_left c.self.view_is
