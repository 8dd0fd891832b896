use Rattle.std.proofs.Common.{sym, ◌∙◌, subst}
use Rattle.std.specs.Prelude.{IfSome}
use Rattle.rc_mutation.specs.Source.{source_at_static}
use Rattle.rc_memory.specs.Memory.{Memory}
use Rattle.rc_populate.specs.Filling.{IsEntryOpened, filled_statics}
use Rattle.rc_evict.specs.Evictions.{IsRoomMade}
use Rattle.rc_filler.specs.Stands.{StandsForWrites}
use Rattle.rc_cache_tests.proofs.filler.opened.Goals as goal

pub returns : goal.returns
returns c = λ schema writes h.
    let n = c.open_with_room.new.chains in
    let id = c.in-Some.id in
    let head = c.nothing-head.result in
    let w = subst (λ o. IfSome o (λ id. (mid : Memory) × IsRoomMade 16384 c.args.chains.now mid × IsEntryOpened id head.pt (filled_statics head.statics) 7 mid n)) c.in-Some.is c.in_ok-id.ensures.opened in
    let made = subst (λ pt. IsEntryOpened id pt (filled_statics (source_at_static writes)) 7 w.0 n) (c.nothing-head.ensures.pt ∙ sym h.head) (subst (λ row. IsEntryOpened id head.pt (filled_statics row) 7 w.0 n) (c.nothing-head.ensures.statics ∙ sym h.statics) w.2) in
    let taken = c.in_ok-snap.ensures.taken in
    subst (λ x. StandsForWrites 16384 c.snapshot.new.self x c.in_ok-snap.snap.pin writes) (sym taken.0)
    (c.a_taken_snapshot_stands_for_what_lies_below.ensures.opened 16384 schema writes w.0 n c.snapshot.new.self id c.in_ok-snap.snap.pin 7 c.in_ok-snap.snap.phase h.limits h.small h.fit made taken.1)
