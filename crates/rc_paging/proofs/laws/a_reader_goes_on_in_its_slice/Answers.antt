-- By the line that it keeps.
use Rattle.std.proofs.Common.{◌++◌}
use Rattle.rc_paging.proofs.OfSlices.{goes_on_of}
use Rattle.rc_paging.proofs.laws.a_reader_goes_on_in_its_slice.Goals as goal

pub returns : goal.returns
returns c = λ S m o below written read lines slice l of. goes_on_of (below ++ (l.writes ++ l.later)) below written read slice o.remainder lines o.behind l.are l.told of
