-- What both say is as it was, and what was ahead still is.
use Rattle.std.proofs.Common.{◌≡◌, ◌≤◌, ℕ, None, true}
use Rattle.rc_position.specs.declared.positions.Pos.{Pos}
use Rattle.rc_stream.specs.Both.{HoldBoth, MaySeekBoth, SpotsOfBoth}
use Rattle.rc_stream.specs.calls.Both.{BothReady}
use Rattle.rc_stream.specs.Stream.{Stream}
use Rattle.rc_stream.specs.Did.{ReachesEnd, Many, OneCall, merge_state}
use Rattle.rc_stream.specs.Moving.{Moved}
use Rattle.rc_stream.proofs.merges.next_of_both.Given as goal

abbrev pub invariant-loop-rounds : goal.invariant-loop-rounds
invariant-loop-rounds g l = record {
  says : (s : Stream) → HoldBoth g.A.Frags.seen g.B.Frags.seen l.initial.merge l.initial.home l.initial.store s → HoldBoth g.A.Frags.seen g.B.Frags.seen l.merge l.home l.store s;
  did : (y : Pos) → ReachesEnd (HoldBoth g.A.Frags.seen g.B.Frags.seen l.initial.merge l.initial.home l.initial.store) l.upto y → Many (OneCall g.A.Frags.did g.B.Frags.did None y true) (merge_state l.initial.merge l.initial.home l.initial.store) (merge_state l.merge l.home l.store);
  ahead : (x : Pos) → MaySeekBoth g.A.Frags.ahead g.B.Frags.ahead l.initial.merge x → MaySeekBoth g.A.Frags.ahead g.B.Frags.ahead l.merge x;
  ready : BothReady g.A.Frags.ready g.B.Frags.ready l.merge l.home l.store;
  due : l.merge.due ≡ l.initial.merge.due;
  moves : Moved g.A.Frags.moves g.B.Frags.moves l.initial.home l.initial.store l.home l.store;
  damage : (file offset : ℕ) → SpotsOfBoth g.A.Frags.damage g.B.Frags.damage l.merge file offset → SpotsOfBoth g.A.Frags.damage g.B.Frags.damage l.initial.merge file offset;
  faults : g.W.Store.faults l.initial.store ≤ g.W.Store.faults l.store;
  files : g.W.Store.files l.store ≡ g.W.Store.files l.initial.store;
  building : g.W.Store.building l.store ≡ g.W.Store.building l.initial.store;
}

abbrev pub decreases-loop-rounds : goal.decreases-loop-rounds
decreases-loop-rounds g l = l.rounds
