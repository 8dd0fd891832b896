-- What was kept so far, that the stream is ready, and what it passed.
use Rattle.std.proofs.Common.{◌≡◌, Option}
use Rattle.std.specs.Option.{IfSome}
use Rattle.rc_position.specs.declared.positions.Pos.{Pos}
use Rattle.rc_chain.specs.declared.chains.Snap.{Snap}
use Rattle.rc_paging.specs.calls.Keeping.{IsStreamAhead, IsStreamPassedWhole, KeptCache}
use Rattle.rc_paging.specs.calls.Words.{IsReadyIn}
use Rattle.rc_paging.proofs.filling.pass_all.Given as goal

abbrev pub invariant-loop-rounds : goal.invariant-loop-rounds
invariant-loop-rounds g l =
    KeptCache g.row.S l.fn.cached.stream l.fn.chains l.fn.readings l.cached.stream l.chains l.readings
    × IsReadyIn g.row.S l.chains l.readings l.cached.stream
    × ((x : Pos) (snap : Option Snap) → IfSome l.fn.cached.stream (IsStreamAhead x l.fn.upto snap l.fn.chains) → (l.chains ≡ l.fn.chains) × (l.readings ≡ l.fn.readings) × IfSome l.cached.stream (IsStreamAhead x l.fn.upto snap l.chains))
    × ((x : Pos) → IfSome l.fn.cached.stream (IsStreamPassedWhole x l.fn.chains l.fn.readings) → IfSome l.cached.stream (IsStreamPassedWhole x l.chains l.readings))

abbrev pub decreases-loop-rounds : goal.decreases-loop-rounds
decreases-loop-rounds g l = l.rounds
