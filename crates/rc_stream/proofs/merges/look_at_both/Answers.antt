-- Both were called, one after the other.
use Rattle.std.proofs.Common.{◌∙◌, true, false, refl, None, inl}
use Rattle.rc_stream.specs.Did.{Call.OfNext, OneCall, has_answer, merge_state}
use Rattle.rc_stream.specs.Moving.{Holds}
use Rattle.rc_stream.specs.Showing.{EitherSpot}
use Rattle.rc_stream.specs.laws.Ordered.{passes-itself}
use Rattle.rc_stream.proofs.Blaming.{blames-after, blames-memory, blames-ours, blames-theirs}
use Rattle.rc_stream.proofs.Chains.{chain-after, chain-stopped, once-called, once-called-theirs}
use Rattle.rc_stream.proofs.Ending.{covers-theirs}
use Rattle.rc_stream.proofs.Going.{moved-moved, once-keeps, once-ours, once-theirs}
use Rattle.rc_stream.proofs.Wholes.{looked-both, once-holds, two-on}
use Rattle.rc_stream.proofs.merges.look_at_both.Goals as goal

pub returns-in-Ok-bound-clause-holds : goal.returns-in-Ok-bound-clause-holds
returns-in-Ok-bound-clause-holds g c = λ s.
    let m = c.args.merge.now in
    let h = c.args.home.now in
    let w = c.args.store.now in
    let p = c.look_ahead.new.part in
    let k = c.look_ahead.new.home in
    let u = c.look_ahead.new.store in
    let q = c.look_ahead-in-Ok-bound.new.part in
    let g' = c.look_ahead-in-Ok-bound.new.home in
    let v = c.look_ahead-in-Ok-bound.new.store in
    two-on (Holds g.A.Frags.seen m.ours h w) (Holds g.B.Frags.seen m.theirs h w) (Holds g.A.Frags.seen p g' v) (Holds g.B.Frags.seen q g' v) s
    (λ t r. once-holds g.B.Frags.moves g.A.Frags.seen p k u g' v c.requires.keeps.ours_seen c.look_ahead-in-Ok-bound.ensures.moves t (c.in-Ok.ensures.holds t r))
    (λ t r. c.look_ahead-in-Ok-bound.ensures.holds t (once-holds g.A.Frags.moves g.B.Frags.seen m.theirs h w k u c.requires.keeps.theirs_seen c.look_ahead.ensures.moves t r))

pub returns-in-Err-bound-clause-holds : goal.returns-in-Err-bound-clause-holds
returns-in-Err-bound-clause-holds g c = λ s.
    let m = c.args.merge.now in
    let h = c.args.home.now in
    let w = c.args.store.now in
    let p = c.look_ahead.new.part in
    let k = c.look_ahead.new.home in
    let u = c.look_ahead.new.store in
    two-on (Holds g.A.Frags.seen m.ours h w) (Holds g.B.Frags.seen m.theirs h w) (Holds g.A.Frags.seen p k u) (Holds g.B.Frags.seen m.theirs k u) s (c.look_ahead.ensures.holds) (λ t r. once-holds g.A.Frags.moves g.B.Frags.seen m.theirs h w k u c.requires.keeps.theirs_seen c.look_ahead.ensures.moves t r)

pub returns-in-Err-clause-holds : goal.returns-in-Err-clause-holds
returns-in-Err-clause-holds g c = λ s.
    let m = c.args.merge.now in
    let h = c.args.home.now in
    let w = c.args.store.now in
    let p = c.look_ahead.new.part in
    let k = c.look_ahead.new.home in
    let u = c.look_ahead.new.store in
    two-on (Holds g.A.Frags.seen m.ours h w) (Holds g.B.Frags.seen m.theirs h w) (Holds g.A.Frags.seen p k u) (Holds g.B.Frags.seen m.theirs k u) s (c.look_ahead.ensures.holds) (λ t r. once-holds g.A.Frags.moves g.B.Frags.seen m.theirs h w k u c.requires.keeps.theirs_seen c.look_ahead.ensures.moves t r)

pub returns-in-Ok-bound-clause-known : goal.returns-in-Ok-bound-clause-known
returns-in-Ok-bound-clause-known g c =
    let m = c.args.merge.now in
    let h = c.args.home.now in
    let w = c.args.store.now in
    let p = c.look_ahead.new.part in
    let k = c.look_ahead.new.home in
    let u = c.look_ahead.new.store in
    let q = c.look_ahead-in-Ok-bound.new.part in
    let g' = c.look_ahead-in-Ok-bound.new.home in
    let v = c.look_ahead-in-Ok-bound.new.store in
    looked-both (Holds g.A.Frags.seen m.ours h w) (Holds g.B.Frags.seen m.theirs h w) (Holds g.A.Frags.seen p g' v) (Holds g.B.Frags.seen q g' v) (Holds g.B.Frags.seen m.theirs k u) c.args.upto.now c.in-Ok-bound.near p.held q.held c.look_ahead-in-Ok-bound.result c.in-Ok-bound.ensures
    (λ t r. once-holds g.B.Frags.moves g.A.Frags.seen p k u g' v c.requires.keeps.ours_seen c.look_ahead-in-Ok-bound.ensures.moves t (c.in-Ok.ensures.holds t r))
    (λ t r. once-holds g.A.Frags.moves g.B.Frags.seen m.theirs h w k u c.requires.keeps.theirs_seen c.look_ahead.ensures.moves t r)
    (λ t r. c.look_ahead-in-Ok-bound.ensures.holds t (once-holds g.A.Frags.moves g.B.Frags.seen m.theirs h w k u c.requires.keeps.theirs_seen c.look_ahead.ensures.moves t r))
    c.in-Ok.ensures.known c.look_ahead-in-Ok-bound.ensures.known

pub returns-in-Ok-bound-clause-ahead : goal.returns-in-Ok-bound-clause-ahead
returns-in-Ok-bound-clause-ahead g c = λ x r. (c.look_ahead.ensures.ahead x r.0, c.look_ahead-in-Ok-bound.ensures.ahead x r.1)

pub returns-in-Err-bound-clause-ahead : goal.returns-in-Err-bound-clause-ahead
returns-in-Err-bound-clause-ahead g c = λ x r. (c.look_ahead.ensures.ahead x r.0, r.1)

pub returns-in-Err-clause-ahead : goal.returns-in-Err-clause-ahead
returns-in-Err-clause-ahead g c = λ x r. (c.look_ahead.ensures.ahead x r.0, r.1)

pub returns-in-Ok-bound-clause-ready : goal.returns-in-Ok-bound-clause-ready
returns-in-Ok-bound-clause-ready g c =
    let p = c.look_ahead.new.part.stream in
    (once-keeps g.B.Frags.moves g.A.Frags.ready p c.look_ahead.new.home c.look_ahead.new.store c.look_ahead-in-Ok-bound.new.home c.look_ahead-in-Ok-bound.new.store c.requires.keeps.ours c.look_ahead-in-Ok-bound.ensures.moves c.look_ahead.ensures.ready, c.look_ahead-in-Ok-bound.ensures.ready)

pub returns-in-Err-bound-clause-ready : goal.returns-in-Err-bound-clause-ready
returns-in-Err-bound-clause-ready g c = (c.look_ahead.ensures.ready, once-keeps g.A.Frags.moves g.B.Frags.ready c.args.merge.now.theirs.stream c.args.home.now c.args.store.now c.look_ahead.new.home c.look_ahead.new.store c.requires.keeps.theirs c.look_ahead.ensures.moves c.requires.ready.1)

pub returns-in-Err-clause-ready : goal.returns-in-Err-clause-ready
returns-in-Err-clause-ready g c = (c.look_ahead.ensures.ready, once-keeps g.A.Frags.moves g.B.Frags.ready c.args.merge.now.theirs.stream c.args.home.now c.args.store.now c.look_ahead.new.home c.look_ahead.new.store c.requires.keeps.theirs c.look_ahead.ensures.moves c.requires.ready.1)

pub look_ahead-requires : goal.look_ahead-requires
look_ahead-requires g c = c.requires.ready.0

pub returns-in-Ok-bound-clause-moves : goal.returns-in-Ok-bound-clause-moves
returns-in-Ok-bound-clause-moves g c =
    let h = c.args.home.now in
    let w = c.args.store.now in
    let k = c.look_ahead.new.home in
    let u = c.look_ahead.new.store in
    let g' = c.look_ahead-in-Ok-bound.new.home in
    let v = c.look_ahead-in-Ok-bound.new.store in
    moved-moved g.A.Frags.moves g.B.Frags.moves h w k u g' v (once-ours g.A.Frags.moves g.B.Frags.moves h w k u c.look_ahead.ensures.moves) (once-theirs g.A.Frags.moves g.B.Frags.moves k u g' v c.look_ahead-in-Ok-bound.ensures.moves)

pub returns-in-Err-bound-clause-moves : goal.returns-in-Err-bound-clause-moves
returns-in-Err-bound-clause-moves g c = once-ours g.A.Frags.moves g.B.Frags.moves c.args.home.now c.args.store.now c.look_ahead.new.home c.look_ahead.new.store c.look_ahead.ensures.moves

pub returns-in-Err-clause-moves : goal.returns-in-Err-clause-moves
returns-in-Err-clause-moves g c = once-ours g.A.Frags.moves g.B.Frags.moves c.args.home.now c.args.store.now c.look_ahead.new.home c.look_ahead.new.store c.look_ahead.ensures.moves

pub returns-in-Ok-bound-clause-did : goal.returns-in-Ok-bound-clause-did
returns-in-Ok-bound-clause-did g c = λ y covers.
    let x = c.args.upto.now in
    let m = c.args.merge.now in
    let h = c.args.home.now in
    let w = c.args.store.now in
    let p = c.look_ahead.new.part in
    let k = c.look_ahead.new.home in
    let u = c.look_ahead.new.store in
    let q = c.look_ahead-in-Ok-bound.new.part in
    let g' = c.look_ahead-in-Ok-bound.new.home in
    let v = c.look_ahead-in-Ok-bound.new.store in
    let ok = has_answer c.look_ahead-in-Ok-bound.result in
    let on = covers-theirs (g.A.Frags.seen m.ours.stream h w) (g.A.Frags.seen p.stream k u) (g.B.Frags.seen m.theirs.stream h w) x m.ours.held p.held m.theirs.held (g.B.Frags.seen m.theirs.stream k u) c.in-Ok-bound.near y c.in-Ok-bound.ensures c.in-Ok.ensures.holds c.in-Ok.ensures.known (λ s r. once-keeps g.A.Frags.moves (λ z i j. g.B.Frags.seen z i j s) m.theirs.stream h w k u (λ z i j l n a b. c.requires.keeps.theirs_seen z s i j l n a b) c.look_ahead.ensures.moves r) covers in
    chain-after (OneCall g.A.Frags.did g.B.Frags.did None y) ok (merge_state m h w) (p.stream, m.theirs.stream, k, u) (p.stream, q.stream, g', v)
    (once-called g.A.Frags.did g.B.Frags.did None y (OfNext x) tt true m.ours.stream m.theirs.stream h w p.stream k u (c.in-Ok.ensures.did x (λ _. inl (passes-itself x))))
    (once-called-theirs g.A.Frags.did g.B.Frags.did None y (OfNext y) refl ok p.stream m.theirs.stream k u q.stream g' v (c.look_ahead-in-Ok-bound.ensures.did y on))

pub returns-in-Err-bound-clause-did : goal.returns-in-Err-bound-clause-did
returns-in-Err-bound-clause-did g c = λ y _.
    let x = c.args.upto.now in
    let m = c.args.merge.now in
    let h = c.args.home.now in
    let w = c.args.store.now in
    let p = c.look_ahead.new.part in
    let k = c.look_ahead.new.home in
    let u = c.look_ahead.new.store in
    chain-stopped (OneCall g.A.Frags.did g.B.Frags.did None y) (merge_state m h w) (p.stream, m.theirs.stream, k, u)
    (once-called g.A.Frags.did g.B.Frags.did None y (OfNext x) tt true m.ours.stream m.theirs.stream h w p.stream k u (c.in-Ok.ensures.did x (λ _. inl (passes-itself x))))

pub returns-in-Err-clause-did : goal.returns-in-Err-clause-did
returns-in-Err-clause-did g c = λ y _.
    let x = c.args.upto.now in
    let m = c.args.merge.now in
    let h = c.args.home.now in
    let w = c.args.store.now in
    let p = c.look_ahead.new.part in
    let k = c.look_ahead.new.home in
    let u = c.look_ahead.new.store in
    once-called g.A.Frags.did g.B.Frags.did None y (OfNext x) tt false m.ours.stream m.theirs.stream h w p.stream k u (c.in-Err.ensures.did x (λ _. inl (passes-itself x)))

pub returns-in-Ok-bound-clause-damage : goal.returns-in-Ok-bound-clause-damage
returns-in-Ok-bound-clause-damage g c =
    let m = c.args.merge.now in
    let a = g.A.Frags.damage m.ours.stream in
    let b = g.B.Frags.damage m.theirs.stream in
    let a' = g.A.Frags.damage c.look_ahead.new.part.stream in
    let b' = g.B.Frags.damage c.look_ahead-in-Ok-bound.new.part.stream in
    blames-after (EitherSpot a b) (EitherSpot a' b) (EitherSpot a' b') c.look_ahead.result c.look_ahead-in-Ok-bound.result (blames-ours a a' b c.look_ahead.result c.look_ahead.ensures.damage) (blames-theirs a' b b' c.look_ahead-in-Ok-bound.result c.look_ahead-in-Ok-bound.ensures.damage)

pub returns-in-Err-bound-clause-damage : goal.returns-in-Err-bound-clause-damage
returns-in-Err-bound-clause-damage g c =
    let m = c.args.merge.now in
    let a = g.A.Frags.damage m.ours.stream in
    let b = g.B.Frags.damage m.theirs.stream in
    let a' = g.A.Frags.damage c.look_ahead.new.part.stream in
    blames-memory (EitherSpot a b) (EitherSpot a' b) c.look_ahead.result (blames-ours a a' b c.look_ahead.result c.look_ahead.ensures.damage)

pub returns-in-Err-clause-damage : goal.returns-in-Err-clause-damage
returns-in-Err-clause-damage g c =
    let m = c.args.merge.now in
    let a = g.A.Frags.damage m.ours.stream in
    let b = g.B.Frags.damage m.theirs.stream in
    let a' = g.A.Frags.damage c.look_ahead.new.part.stream in
    blames-ours a a' b _ c.in-Err.ensures.damage

pub returns-in-Ok-bound-clause-store : goal.returns-in-Ok-bound-clause-store
returns-in-Ok-bound-clause-store g c = (c.look_ahead-in-Ok-bound.ensures.store.0 ∙ c.look_ahead.ensures.store.0, c.look_ahead-in-Ok-bound.ensures.store.1 ∙ c.look_ahead.ensures.store.1)
