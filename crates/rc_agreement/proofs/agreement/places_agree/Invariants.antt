-- Up to the place all that is known is said, and what is left says the rest; fewer entries are left each time.
use Rattle.std.specs.Prelude.{[], ◌∷◌}
use Rattle.rc_cursor.specs.Snapshots.{kind_seen, versions_seen}
use Rattle.rc_snapshots.specs.Streams.{first_position}
use Rattle.rc_agreement.specs.calls.Walking.{AreSaid, IsLeftFrom}
use Rattle.rc_agreement.proofs.Ending.{left_from}
use Rattle.rc_agreement.proofs.agreement.places_agree.Given as goal

abbrev pub invariant-loop-alloc : goal.invariant-loop-alloc
invariant-loop-alloc g l = IsLeftFrom l.place l.read l.rows l.pieces × AreSaid (kind_seen l.chains l.snap) (versions_seen l.chains l.snap) (l.read ∷ []) first_position l.place

abbrev pub decreases-loop-alloc : goal.decreases-loop-alloc
decreases-loop-alloc g l = left_from l.place (versions_seen l.chains l.snap)
