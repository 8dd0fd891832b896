-- Each went on, or one that was refused is as it was.
use Rattle.std.proofs.Common.{◌∙◌, Ok, Err, Some, true, false, refl}
use Rattle.rc_stream.specs.Did.{Call.OfSeek, OneCall, has_answer, merge_state}
use Rattle.rc_stream.specs.Showing.{EitherSpot}
use Rattle.rc_stream.specs.Stream.{sought_stream}
use Rattle.rc_stream.proofs.Blaming.{blames-after, blames-ours, blames-theirs}
use Rattle.rc_stream.proofs.Chains.{chain-after, once-called, once-called-theirs}
use Rattle.rc_stream.proofs.Going.{moved-moved, once-keeps, once-ours, once-theirs}
use Rattle.rc_stream.proofs.Wholes.{once-holds, sought-either, sought-ok}
use Rattle.rc_stream.proofs.merges.go_on_in_both.Goals as goal

pub go_on-requires-clause-ready : goal.go_on-requires-clause-ready
go_on-requires-clause-ready g c = c.requires.ready.0

pub go_on-requires-clause-ahead : goal.go_on-requires-clause-ahead
go_on-requires-clause-ahead g c = c.requires.ahead.0

pub returns-in-Ok-clause-ok : goal.returns-in-Ok-clause-ok
returns-in-Ok-clause-ok g c =
    let x = c.args.to.now in
    let m = c.args.merge.now in
    let h = c.args.home.now in
    let w = c.args.store.now in
    let p = c.go_on.new.part in
    let k = c.go_on.new.home in
    let u = c.go_on.new.store in
    let q = c.go_on-in-Ok.new.part in
    let g' = c.go_on-in-Ok.new.home in
    let v = c.go_on-in-Ok.new.store in
    sought-ok (g.A.Frags.seen m.ours.stream h w) (g.B.Frags.seen m.theirs.stream h w) (g.A.Frags.seen p.stream g' v) (g.B.Frags.seen q.stream g' v) x m.ours.held m.theirs.held p.held q.held c.go_on-in-Ok.result
    (λ t r. once-holds g.B.Frags.moves g.A.Frags.seen p k u g' v c.requires.keeps.ours_seen c.go_on-in-Ok.ensures.moves (sought_stream x t) (c.in-Ok.ensures.holds t r))
    (λ t r. c.go_on-in-Ok.ensures.holds t (once-holds g.A.Frags.moves g.B.Frags.seen m.theirs h w k u c.requires.keeps.theirs_seen c.go_on.ensures.moves t r))

pub returns-in-Ok-clause-again : goal.returns-in-Ok-clause-again
returns-in-Ok-clause-again g c = λ s.
    let x = c.args.to.now in
    let m = c.args.merge.now in
    let h = c.args.home.now in
    let w = c.args.store.now in
    let p = c.go_on.new.part in
    let k = c.go_on.new.home in
    let u = c.go_on.new.store in
    let q = c.go_on-in-Ok.new.part in
    let g' = c.go_on-in-Ok.new.home in
    let v = c.go_on-in-Ok.new.store in
    sought-either (g.A.Frags.seen m.ours.stream h w) (g.B.Frags.seen m.theirs.stream h w) (g.A.Frags.seen p.stream g' v) (g.B.Frags.seen q.stream g' v) x m.ours.held m.theirs.held p.held q.held (Ok tt) c.go_on-in-Ok.result s
    (λ t r. once-holds g.B.Frags.moves g.A.Frags.seen p k u g' v c.requires.keeps.ours_seen c.go_on-in-Ok.ensures.moves (sought_stream x t) (c.in-Ok.ensures.holds t r))
    (λ t r. c.go_on-in-Ok.ensures.holds t (once-holds g.A.Frags.moves g.B.Frags.seen m.theirs h w k u c.requires.keeps.theirs_seen c.go_on.ensures.moves t r))

pub returns-in-Err-clause-again : goal.returns-in-Err-clause-again
returns-in-Err-clause-again g c = λ s.
    let x = c.args.to.now in
    let m = c.args.merge.now in
    let h = c.args.home.now in
    let w = c.args.store.now in
    let p = c.go_on.new.part in
    let k = c.go_on.new.home in
    let u = c.go_on.new.store in
    sought-either (g.A.Frags.seen m.ours.stream h w) (g.B.Frags.seen m.theirs.stream h w) (g.A.Frags.seen p.stream k u) (g.B.Frags.seen m.theirs.stream k u) x m.ours.held m.theirs.held p.held m.theirs.held (Err c.in-Err.error) (Err c.in-Err.error) s c.in-Err.ensures.holds
    (λ t r. once-holds g.A.Frags.moves g.B.Frags.seen m.theirs h w k u c.requires.keeps.theirs_seen c.go_on.ensures.moves t r)

pub returns-in-Ok-clause-ahead : goal.returns-in-Ok-clause-ahead
returns-in-Ok-clause-ahead g c = (c.go_on.ensures.ahead, c.go_on-in-Ok.ensures.ahead)

pub returns-in-Err-clause-ahead : goal.returns-in-Err-clause-ahead
returns-in-Err-clause-ahead g c = (c.go_on.ensures.ahead, c.requires.ahead.1)

pub returns-in-Ok-clause-ready : goal.returns-in-Ok-clause-ready
returns-in-Ok-clause-ready g c =
    let p = c.go_on.new.part.stream in
    (once-keeps g.B.Frags.moves g.A.Frags.ready p c.go_on.new.home c.go_on.new.store c.go_on-in-Ok.new.home c.go_on-in-Ok.new.store c.requires.keeps.ours c.go_on-in-Ok.ensures.moves c.go_on.ensures.ready, c.go_on-in-Ok.ensures.ready)

pub returns-in-Err-clause-ready : goal.returns-in-Err-clause-ready
returns-in-Err-clause-ready g c = (c.go_on.ensures.ready, once-keeps g.A.Frags.moves g.B.Frags.ready c.args.merge.now.theirs.stream c.args.home.now c.args.store.now c.go_on.new.home c.go_on.new.store c.requires.keeps.theirs c.go_on.ensures.moves c.requires.ready.1)

pub returns-in-Ok-clause-moves : goal.returns-in-Ok-clause-moves
returns-in-Ok-clause-moves g c =
    let h = c.args.home.now in
    let w = c.args.store.now in
    let k = c.go_on.new.home in
    let u = c.go_on.new.store in
    let g' = c.go_on-in-Ok.new.home in
    let v = c.go_on-in-Ok.new.store in
    moved-moved g.A.Frags.moves g.B.Frags.moves h w k u g' v (once-ours g.A.Frags.moves g.B.Frags.moves h w k u c.go_on.ensures.moves) (once-theirs g.A.Frags.moves g.B.Frags.moves k u g' v c.go_on-in-Ok.ensures.moves)

pub returns-in-Err-clause-moves : goal.returns-in-Err-clause-moves
returns-in-Err-clause-moves g c = once-ours g.A.Frags.moves g.B.Frags.moves c.args.home.now c.args.store.now c.go_on.new.home c.go_on.new.store c.go_on.ensures.moves

pub returns-in-Ok-clause-store : goal.returns-in-Ok-clause-store
returns-in-Ok-clause-store g c = (c.go_on-in-Ok.ensures.store.0 ∙ c.go_on.ensures.store.0, c.go_on-in-Ok.ensures.store.1 ∙ c.go_on.ensures.store.1)

pub returns-in-Ok-clause-did : goal.returns-in-Ok-clause-did
returns-in-Ok-clause-did g c = λ y.
    let x = c.args.to.now in
    let m = c.args.merge.now in
    let h = c.args.home.now in
    let w = c.args.store.now in
    let p = c.go_on.new.part in
    let k = c.go_on.new.home in
    let u = c.go_on.new.store in
    let q = c.go_on-in-Ok.new.part in
    let g' = c.go_on-in-Ok.new.home in
    let v = c.go_on-in-Ok.new.store in
    let ok = has_answer c.go_on-in-Ok.result in
    chain-after (OneCall g.A.Frags.did g.B.Frags.did (Some x) y) ok (merge_state m h w) (p.stream, m.theirs.stream, k, u) (p.stream, q.stream, g', v)
    (once-called g.A.Frags.did g.B.Frags.did (Some x) y (OfSeek x) refl true m.ours.stream m.theirs.stream h w p.stream k u c.in-Ok.ensures.did)
    (once-called-theirs g.A.Frags.did g.B.Frags.did (Some x) y (OfSeek x) refl ok p.stream m.theirs.stream k u q.stream g' v c.go_on-in-Ok.ensures.did)

pub returns-in-Err-clause-did : goal.returns-in-Err-clause-did
returns-in-Err-clause-did g c = λ y.
    let x = c.args.to.now in
    let m = c.args.merge.now in
    let h = c.args.home.now in
    let w = c.args.store.now in
    let p = c.go_on.new.part in
    let k = c.go_on.new.home in
    let u = c.go_on.new.store in
    once-called g.A.Frags.did g.B.Frags.did (Some x) y (OfSeek x) refl false m.ours.stream m.theirs.stream h w p.stream k u c.in-Err.ensures.did

pub returns-in-Ok-clause-damage : goal.returns-in-Ok-clause-damage
returns-in-Ok-clause-damage g c =
    let m = c.args.merge.now in
    let a = g.A.Frags.damage m.ours.stream in
    let b = g.B.Frags.damage m.theirs.stream in
    let a' = g.A.Frags.damage c.go_on.new.part.stream in
    let b' = g.B.Frags.damage c.go_on-in-Ok.new.part.stream in
    blames-after (EitherSpot a b) (EitherSpot a' b) (EitherSpot a' b') c.go_on.result c.go_on-in-Ok.result (blames-ours a a' b c.go_on.result c.go_on.ensures.damage) (blames-theirs a' b b' c.go_on-in-Ok.result c.go_on-in-Ok.ensures.damage)

pub returns-in-Err-clause-damage : goal.returns-in-Err-clause-damage
returns-in-Err-clause-damage g c =
    let m = c.args.merge.now in
    let a = g.A.Frags.damage m.ours.stream in
    let b = g.B.Frags.damage m.theirs.stream in
    let a' = g.A.Frags.damage c.go_on.new.part.stream in
    blames-ours a a' b _ c.in-Err.ensures.damage
