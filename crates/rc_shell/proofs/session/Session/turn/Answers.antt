-- Each way in which a turn ends.
use Rattle.rc_shell.specs.Run.{piece_size}
use Rattle.std.proofs.Common.{◌≡◌, ◌<◌, ◌≤◌, ◌+◌, [], length, take, arith, subst}
use Rattle.std.proofs.lemmas.List.{length-take-le}
use Rattle.std.specs.Io.KnownBytes.{Consumes}
use Rattle.rc_shell.specs.Step.{LineStep, EndsRun, LeavesStore}
use Rattle.rc_shell.proofs.Ending.{went_on, stopped, input_failed, input_ended, end_stopped}
use Rattle.rc_shell.proofs.session.Session.turn.Goals as goal

pub returns-in-Err-clause-run : goal.returns-in-Err-clause-run
returns-in-Err-clause-run g c = λ start limit count left written i o fits s segments.
    let few : count < limit = omega arith in
    input_failed LineStep EndsRun LeavesStore segments start limit _ _ count c.push_last.result left _ _ written _ _ _ i _ _ o _ _ s
    (λ m stands. g.met.S.Server.leaves _ _ m stands) few c.in-Err.ensures.taken c.in-Err.ensures.cause c.push_last.ensures

pub returns-in-Ok-serve_last-clause-run : goal.returns-in-Ok-serve_last-clause-run
returns-in-Ok-serve_last-clause-run g c = λ start limit count left written i o fits s segments.
    let few : count < limit = omega arith in
    let some : 0 < length c.pull.new.into = omega arith in
    let none : Consumes (g.I.Source.left c.args.input.now) (g.I.Source.left c.pull.new.self) [] =
    subst (λ n. Consumes (g.I.Source.left c.args.input.now) (g.I.Source.left c.pull.new.self) (take n c.pull.new.into)) c.in-Ok-eq0.field-0-test c.in-Ok-eq0.ensures.taken.0 in
    input_ended LineStep EndsRun LeavesStore segments start _ (g.S.Server.stands c.serve_last.new.self.server (g.W.Store.files c.serve_last.new.store, g.W.Store.faults c.serve_last.new.store, g.W.Store.asks c.serve_last.new.store)) limit _ count left _ _ written _ _ _ i _ _ o _ _ s
    (λ m stands. g.met.S.Server.leaves _ _ m stands) few none
    (c.in-Ok-eq0.ensures.taken.1 c.in-Ok-eq0.field-0-test some) c.in-Ok-eq0.ensures.cause (λ rest now is at. c.in-Ok-serve_last.ensures.served rest now is at)

pub returns-in-Err-serve_last-clause-run : goal.returns-in-Err-serve_last-clause-run
returns-in-Err-serve_last-clause-run g c = λ start limit count left written i o fits s segments.
    let few : count < limit = omega arith in
    let some : 0 < length c.pull.new.into = omega arith in
    let none : Consumes (g.I.Source.left c.args.input.now) (g.I.Source.left c.pull.new.self) [] =
    subst (λ n. Consumes (g.I.Source.left c.args.input.now) (g.I.Source.left c.pull.new.self) (take n c.pull.new.into)) c.in-Ok-eq0.field-0-test c.in-Ok-eq0.ensures.taken.0 in
    rw c.status.ensures (end_stopped LineStep EndsRun LeavesStore segments start _ (g.S.Server.stands c.serve_last.new.self.server (g.W.Store.files c.serve_last.new.store, g.W.Store.faults c.serve_last.new.store, g.W.Store.asks c.serve_last.new.store)) limit _ count left _ _ written _ _ _ i _ _ o _ _ c.in-Err-serve_last.stop s few none
    (c.in-Ok-eq0.ensures.taken.1 c.in-Ok-eq0.field-0-test some) c.in-Ok-eq0.ensures.cause (λ rest now is at. c.in-Err-serve_last.ensures.served rest now is at))

pub returns-in-Ok-feed-clause-run : goal.returns-in-Ok-feed-clause-run
returns-in-Ok-feed-clause-run g c = λ start limit count left written i o fits s.
    let whole : length (take c.in-Ok.count c.pull.new.into) ≡ c.in-Ok.count = length-take-le c.in-Ok.count c.pull.new.into c.in-Ok.ensures.within in
    went_on LineStep EndsRun LeavesStore 0 start (g.S.Server.stands c.args.self.now.server (g.W.Store.files c.args.store.now, g.W.Store.faults c.args.store.now, g.W.Store.asks c.args.store.now)) _ _ _ count c.in-Ok.count left _ _ written _ _
    (g.W.Store.files c.feed.new.store, g.W.Store.faults c.feed.new.store, g.W.Store.asks c.feed.new.store) i _ _ o _ _ (take c.in-Ok.count c.pull.new.into) s c.in-Ok.ensures.taken.0 whole c.in-Ok.ensures.cause
    (λ rest now line is at. c.in-Ok-feed.ensures.served rest now line is at)

pub returns-in-Err-feed-clause-run : goal.returns-in-Err-feed-clause-run
returns-in-Err-feed-clause-run g c = λ start limit count left written i o fits s segments.
    let whole : length (take c.in-Ok.count c.pull.new.into) ≡ c.in-Ok.count = length-take-le c.in-Ok.count c.pull.new.into c.in-Ok.ensures.within in
    let within : c.in-Ok.count ≤ length c.pull.new.into = c.in-Ok.ensures.within in
    let most : count + c.in-Ok.count ≤ limit = omega arith in
    let small : length (take c.in-Ok.count c.pull.new.into) ≤ piece_size = omega (arith, whole, within, c.requires.small) in
    rw c.status-in-Err-feed.ensures (stopped LineStep EndsRun LeavesStore segments start limit _ (g.S.Server.stands c.feed.new.self.server (g.W.Store.files c.feed.new.store, g.W.Store.faults c.feed.new.store, g.W.Store.asks c.feed.new.store)) _ c.feed.new.self.held.items count c.in-Ok.count left _ _ written _ _ _
    i _ _ o _ _ (take c.in-Ok.count c.pull.new.into) c.in-Err-feed.stop s
    c.in-Ok.ensures.taken.0 whole most small c.in-Ok.ensures.cause (λ rest now line is at. c.in-Err-feed.ensures.served rest now line is at))
