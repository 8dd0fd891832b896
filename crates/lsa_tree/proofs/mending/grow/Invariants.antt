-- The place that was come to, from each place at the start; fewer entries are above it each time.
use Rattle.std.proofs.Common.{◌≡◌, suc}
use Rattle.lsa_tree.specs.calls.Placing.{PlaceIn}
use Rattle.lsa_tree.proofs.Settled.{IsUnderWayAt, above_end}
use Rattle.lsa_tree.proofs.mending.grow.Given as goal

abbrev pub invariant-loop-above : goal.invariant-loop-above
invariant-loop-above g l = (p : PlaceIn l.fn.region l.fn.start) → p.here ≡ suc p.there → IsUnderWayAt l.fn.region l.region l.fn.start l.at p

abbrev pub decreases-loop-above : goal.decreases-loop-above
decreases-loop-above g l = above_end l.region l.at
