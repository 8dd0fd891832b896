-- What is left is as it was, and a read goes no further than it did.
use Rattle.std.proofs.Common.{◌≡◌, ◌≤◌, ℕ, true, List}
use Rattle.rc_position.specs.declared.positions.Pos.{Pos}
use Rattle.rc_query.specs.declared.lines.OutLine.{OutLine}
use Rattle.rc_stream.specs.Did.{Many, Call.OfNext}
use Rattle.rc_reader.specs.Left.{Remains}
use Rattle.rc_reader.specs.Steps.{GoesNoFurther, MovedOn, OneStep}
use Rattle.rc_reader.proofs.readers.make.Given as goal

abbrev pub invariant-loop-rounds : goal.invariant-loop-rounds
invariant-loop-rounds g l = record {
  left : (lines : List OutLine) → Remains (g.S.Frags.seen l.initial.stream l.initial.home l.initial.store) l.initial.work lines → Remains (g.S.Frags.seen l.stream l.home l.store) l.work lines;
  goes : (n : ℕ) (y : Pos) → l.count ≤ n → GoesNoFurther (g.S.Frags.seen l.initial.stream l.initial.home l.initial.store) l.initial.work n y → GoesNoFurther (g.S.Frags.seen l.stream l.home l.store) l.work n y;
  did : (y : Pos) → GoesNoFurther (g.S.Frags.seen l.initial.stream l.initial.home l.initial.store) l.initial.work l.count y → Many (OneStep g.S.Frags.did (OfNext y) true) (l.initial.stream, l.initial.home, l.initial.store) (l.stream, l.home, l.store);
  to : l.work.to ≡ l.initial.work.to;
  ready : g.S.Frags.ready l.stream l.home l.store;
  moves : MovedOn g.S.Frags.moves l.initial.home l.initial.store l.home l.store;
  damage : (file offset : ℕ) → g.S.Frags.damage l.stream file offset → g.S.Frags.damage l.initial.stream file offset;
  faults : g.W.Store.faults l.initial.store ≤ g.W.Store.faults l.store;
  files : g.W.Store.files l.store ≡ g.W.Store.files l.initial.store;
  building : g.W.Store.building l.store ≡ g.W.Store.building l.initial.store;
}

abbrev pub decreases-loop-rounds : goal.decreases-loop-rounds
decreases-loop-rounds g l = l.rounds
