-- How far the fragments are filled.
use Rattle.std.proofs.Common.{length}
use Rattle.rc_rowcode.specs.Spelling.{KeyFits}
use Rattle.rc_row_cache.specs.Crowding.{LosesWhereCrowded}
use Rattle.rc_cached.specs.calls.Parts.{of_its_filler}
use Rattle.rc_lookup.specs.calls.Filling.{FragmentsFit, IsFilling}
use Rattle.rc_lookup.proofs.filling.fill_all.Given as goal

abbrev pub invariant-loop-left : goal.invariant-loop-left
invariant-loop-left g l =
    IsFilling (of_its_filler g.row.S) l.fn.frags l.fn.filler l.fn.home l.fn.filler l.home l.reached.at l.reached.tomb l.left
    × (FragmentsFit l.fn.frags → KeyFits l.reached.at.prefix × FragmentsFit l.left × LosesWhereCrowded g.row.S 0 l.fn.home l.home)

abbrev pub decreases-loop-left : goal.decreases-loop-left
decreases-loop-left g l = length l.left
