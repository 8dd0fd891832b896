-- Both were called, one after the other.
use Rattle.std.proofs.Common.{◌∙◌, true, false, refl, inl, inr}
use Rattle.rc_stream.specs.Merging.{joined_head}
use Rattle.rc_stream.specs.Moving.{IsPutBack}
use Rattle.rc_stream.specs.Showing.{EitherSpot}
use Rattle.rc_stream.proofs.Blaming.{blames-after, blames-memory, blames-ok, blames-ours, blames-theirs}
use Rattle.rc_stream.proofs.Due.{head-both}
use Rattle.rc_stream.proofs.Going.{moved-moved, once-ours, once-theirs}
use Rattle.rc_stream.proofs.Showing.{shown-both, shown-on}
use Rattle.rc_stream.proofs.Wholes.{holds-on, two-on}
use Rattle.rc_stream.proofs.merges.head_of_both.Goals as goal

pub head-requires : goal.head-requires
head-requires g c = c.requires.ready.0

pub returns-in-Ok-joined_head-clause-head : goal.returns-in-Ok-joined_head-clause-head
returns-in-Ok-joined_head-clause-head g c = λ s both.
    let m = c.args.merge.now in
    let h = c.args.home.now in
    let w = c.args.store.now in
    let a = c.head.new.self in
    let k = c.head.new.home in
    let u = c.head.new.store in
    head-both (g.A.Frags.seen m.ours.stream h w) (g.B.Frags.seen m.theirs.stream h w) m.ours.held m.theirs.held _ s
    (λ x y p q. let other = c.in-Ok-head.ensures.head y (c.requires.keeps.theirs_seen m.theirs.stream y h w k u c.head.ensures.moves q) in c.in-Ok-joined_head.ensures ∙ (λ i. joined_head (c.in-Ok.ensures.head x p i) (other i))) both

pub returns-in-Ok-joined_head-clause-shown : goal.returns-in-Ok-joined_head-clause-shown
returns-in-Ok-joined_head-clause-shown g c = λ f.
    let m = c.args.merge.now in
    let h = c.args.home.now in
    let w = c.args.store.now in
    let a = c.head.new.self in
    let k = c.head.new.home in
    let u = c.head.new.store in
    let b = c.head-in-Ok.new.self in
    let g' = c.head-in-Ok.new.home in
    let v = c.head-in-Ok.new.store in
    shown-both (g.A.Frags.might m.ours.stream) (g.A.Frags.seen a g' v) (g.B.Frags.might m.theirs.stream) (g.B.Frags.seen b g' v) m.ours.held m.theirs.held f.2 f.3 c.in-Ok.head c.in-Ok-head.other _
    (shown-on (g.A.Frags.might m.ours.stream) (g.A.Frags.seen a k u) (g.A.Frags.seen a g' v) c.in-Ok.head (λ s q. c.requires.keeps.ours_seen a s k u g' v c.head-in-Ok.ensures.moves q) (c.in-Ok.ensures.shown f.0)) (c.in-Ok-head.ensures.shown f.1) c.in-Ok-joined_head.ensures

pub returns-in-Ok-joined_head-clause-fresh : goal.returns-in-Ok-joined_head-clause-fresh
returns-in-Ok-joined_head-clause-fresh g c = λ f. (c.head.ensures.fresh f.0, c.head-in-Ok.ensures.fresh f.1, f.2, f.3, f.4)

pub returns-in-Ok-head-clause-fresh : goal.returns-in-Ok-head-clause-fresh
returns-in-Ok-head-clause-fresh g c = λ f. (c.head.ensures.fresh f.0, c.head-in-Ok.ensures.fresh f.1, f.2, f.3, f.4)

pub returns-in-Ok-clause-fresh : goal.returns-in-Ok-clause-fresh
returns-in-Ok-clause-fresh g c = λ f. (c.head.ensures.fresh f.0, c.head-in-Ok.ensures.fresh f.1, f.2, f.3, f.4)

pub returns-clause-fresh : goal.returns-clause-fresh
returns-clause-fresh g c = λ f. (c.head.ensures.fresh f.0, f.1, f.2, f.3, f.4)

pub returns-in-Ok-joined_head-clause-might : goal.returns-in-Ok-joined_head-clause-might
returns-in-Ok-joined_head-clause-might g c = λ s.
    let m = c.args.merge.now in
    let h = c.args.home.now in
    let w = c.args.store.now in
    let a = c.head.new.self in
    let k = c.head.new.home in
    let u = c.head.new.store in
    let b = c.head-in-Ok.new.self in
    let g' = c.head-in-Ok.new.home in
    let v = c.head-in-Ok.new.store in
    two-on (g.A.Frags.might a) (g.B.Frags.might b) (g.A.Frags.might m.ours.stream) (g.B.Frags.might m.theirs.stream) s c.head.ensures.might c.head-in-Ok.ensures.might

pub returns-in-Ok-head-clause-might : goal.returns-in-Ok-head-clause-might
returns-in-Ok-head-clause-might g c = λ s.
    let m = c.args.merge.now in
    let h = c.args.home.now in
    let w = c.args.store.now in
    let a = c.head.new.self in
    let k = c.head.new.home in
    let u = c.head.new.store in
    let b = c.head-in-Ok.new.self in
    let g' = c.head-in-Ok.new.home in
    let v = c.head-in-Ok.new.store in
    two-on (g.A.Frags.might a) (g.B.Frags.might b) (g.A.Frags.might m.ours.stream) (g.B.Frags.might m.theirs.stream) s c.head.ensures.might c.head-in-Ok.ensures.might

pub returns-in-Ok-clause-might : goal.returns-in-Ok-clause-might
returns-in-Ok-clause-might g c = λ s.
    let m = c.args.merge.now in
    let h = c.args.home.now in
    let w = c.args.store.now in
    let a = c.head.new.self in
    let k = c.head.new.home in
    let u = c.head.new.store in
    let b = c.head-in-Ok.new.self in
    let g' = c.head-in-Ok.new.home in
    let v = c.head-in-Ok.new.store in
    two-on (g.A.Frags.might a) (g.B.Frags.might b) (g.A.Frags.might m.ours.stream) (g.B.Frags.might m.theirs.stream) s c.head.ensures.might c.head-in-Ok.ensures.might

pub returns-clause-might : goal.returns-clause-might
returns-clause-might g c = λ s.
    let m = c.args.merge.now in
    let h = c.args.home.now in
    let w = c.args.store.now in
    let a = c.head.new.self in
    let k = c.head.new.home in
    let u = c.head.new.store in
    two-on (g.A.Frags.might a) (g.B.Frags.might m.theirs.stream) (g.A.Frags.might m.ours.stream) (g.B.Frags.might m.theirs.stream) s c.head.ensures.might (λ t q. q)

pub returns-in-Ok-joined_head-clause-seen : goal.returns-in-Ok-joined_head-clause-seen
returns-in-Ok-joined_head-clause-seen g c = λ s.
    let m = c.args.merge.now in
    let h = c.args.home.now in
    let w = c.args.store.now in
    let a = c.head.new.self in
    let k = c.head.new.home in
    let u = c.head.new.store in
    let b = c.head-in-Ok.new.self in
    let g' = c.head-in-Ok.new.home in
    let v = c.head-in-Ok.new.store in
    two-on (IsPutBack (g.A.Frags.seen m.ours.stream h w) m.ours.held) (IsPutBack (g.B.Frags.seen m.theirs.stream h w) m.theirs.held) (IsPutBack (g.A.Frags.seen a g' v) m.ours.held) (IsPutBack (g.B.Frags.seen b g' v) m.theirs.held) s
    (λ t r. holds-on (g.A.Frags.seen m.ours.stream h w) (g.A.Frags.seen a g' v) m.ours.held t (λ x q. c.requires.keeps.ours_seen a x k u g' v c.head-in-Ok.ensures.moves (c.head.ensures.seen x q)) r)
    (λ t r. holds-on (g.B.Frags.seen m.theirs.stream h w) (g.B.Frags.seen b g' v) m.theirs.held t (λ x q. c.head-in-Ok.ensures.seen x (c.requires.keeps.theirs_seen m.theirs.stream x h w k u c.head.ensures.moves q)) r)

pub returns-in-Ok-head-clause-seen : goal.returns-in-Ok-head-clause-seen
returns-in-Ok-head-clause-seen g c = λ s.
    let m = c.args.merge.now in
    let h = c.args.home.now in
    let w = c.args.store.now in
    let a = c.head.new.self in
    let k = c.head.new.home in
    let u = c.head.new.store in
    let b = c.head-in-Ok.new.self in
    let g' = c.head-in-Ok.new.home in
    let v = c.head-in-Ok.new.store in
    two-on (IsPutBack (g.A.Frags.seen m.ours.stream h w) m.ours.held) (IsPutBack (g.B.Frags.seen m.theirs.stream h w) m.theirs.held) (IsPutBack (g.A.Frags.seen a g' v) m.ours.held) (IsPutBack (g.B.Frags.seen b g' v) m.theirs.held) s
    (λ t r. holds-on (g.A.Frags.seen m.ours.stream h w) (g.A.Frags.seen a g' v) m.ours.held t (λ x q. c.requires.keeps.ours_seen a x k u g' v c.head-in-Ok.ensures.moves (c.head.ensures.seen x q)) r)
    (λ t r. holds-on (g.B.Frags.seen m.theirs.stream h w) (g.B.Frags.seen b g' v) m.theirs.held t (λ x q. c.head-in-Ok.ensures.seen x (c.requires.keeps.theirs_seen m.theirs.stream x h w k u c.head.ensures.moves q)) r)

pub returns-in-Ok-clause-seen : goal.returns-in-Ok-clause-seen
returns-in-Ok-clause-seen g c = λ s.
    let m = c.args.merge.now in
    let h = c.args.home.now in
    let w = c.args.store.now in
    let a = c.head.new.self in
    let k = c.head.new.home in
    let u = c.head.new.store in
    let b = c.head-in-Ok.new.self in
    let g' = c.head-in-Ok.new.home in
    let v = c.head-in-Ok.new.store in
    two-on (IsPutBack (g.A.Frags.seen m.ours.stream h w) m.ours.held) (IsPutBack (g.B.Frags.seen m.theirs.stream h w) m.theirs.held) (IsPutBack (g.A.Frags.seen a g' v) m.ours.held) (IsPutBack (g.B.Frags.seen b g' v) m.theirs.held) s
    (λ t r. holds-on (g.A.Frags.seen m.ours.stream h w) (g.A.Frags.seen a g' v) m.ours.held t (λ x q. c.requires.keeps.ours_seen a x k u g' v c.head-in-Ok.ensures.moves (c.head.ensures.seen x q)) r)
    (λ t r. holds-on (g.B.Frags.seen m.theirs.stream h w) (g.B.Frags.seen b g' v) m.theirs.held t (λ x q. c.head-in-Ok.ensures.seen x (c.requires.keeps.theirs_seen m.theirs.stream x h w k u c.head.ensures.moves q)) r)

pub returns-clause-seen : goal.returns-clause-seen
returns-clause-seen g c = λ s.
    let m = c.args.merge.now in
    let h = c.args.home.now in
    let w = c.args.store.now in
    let a = c.head.new.self in
    let k = c.head.new.home in
    let u = c.head.new.store in
    two-on (IsPutBack (g.A.Frags.seen m.ours.stream h w) m.ours.held) (IsPutBack (g.B.Frags.seen m.theirs.stream h w) m.theirs.held) (IsPutBack (g.A.Frags.seen a k u) m.ours.held) (IsPutBack (g.B.Frags.seen m.theirs.stream k u) m.theirs.held) s
    (λ t r. holds-on (g.A.Frags.seen m.ours.stream h w) (g.A.Frags.seen a k u) m.ours.held t c.head.ensures.seen r)
    (λ t r. holds-on (g.B.Frags.seen m.theirs.stream h w) (g.B.Frags.seen m.theirs.stream k u) m.theirs.held t (λ x q. c.requires.keeps.theirs_seen m.theirs.stream x h w k u c.head.ensures.moves q) r)

pub returns-in-Ok-joined_head-clause-ahead : goal.returns-in-Ok-joined_head-clause-ahead
returns-in-Ok-joined_head-clause-ahead g c = λ x may. (λ y on from. c.head.ensures.ahead y (may.0 y on from), λ y on from. c.head-in-Ok.ensures.ahead y (may.1 y on from))

pub returns-in-Ok-head-clause-ahead : goal.returns-in-Ok-head-clause-ahead
returns-in-Ok-head-clause-ahead g c = λ x may. (λ y on from. c.head.ensures.ahead y (may.0 y on from), λ y on from. c.head-in-Ok.ensures.ahead y (may.1 y on from))

pub returns-in-Ok-clause-ahead : goal.returns-in-Ok-clause-ahead
returns-in-Ok-clause-ahead g c = λ x may. (λ y on from. c.head.ensures.ahead y (may.0 y on from), λ y on from. c.head-in-Ok.ensures.ahead y (may.1 y on from))

pub returns-clause-ahead : goal.returns-clause-ahead
returns-clause-ahead g c = λ x may. (λ y on from. c.head.ensures.ahead y (may.0 y on from), may.1)

pub returns-in-Ok-joined_head-clause-ready : goal.returns-in-Ok-joined_head-clause-ready
returns-in-Ok-joined_head-clause-ready g c = (c.requires.keeps.ours c.head.new.self c.head.new.home c.head.new.store c.head-in-Ok.new.home c.head-in-Ok.new.store c.head-in-Ok.ensures.moves c.head.ensures.ready, c.head-in-Ok.ensures.ready)

pub returns-in-Ok-head-clause-ready : goal.returns-in-Ok-head-clause-ready
returns-in-Ok-head-clause-ready g c = (c.requires.keeps.ours c.head.new.self c.head.new.home c.head.new.store c.head-in-Ok.new.home c.head-in-Ok.new.store c.head-in-Ok.ensures.moves c.head.ensures.ready, c.head-in-Ok.ensures.ready)

pub returns-in-Ok-clause-ready : goal.returns-in-Ok-clause-ready
returns-in-Ok-clause-ready g c = (c.requires.keeps.ours c.head.new.self c.head.new.home c.head.new.store c.head-in-Ok.new.home c.head-in-Ok.new.store c.head-in-Ok.ensures.moves c.head.ensures.ready, c.head-in-Ok.ensures.ready)

pub returns-clause-ready : goal.returns-clause-ready
returns-clause-ready g c = (c.head.ensures.ready, c.requires.keeps.theirs c.args.merge.now.theirs.stream c.args.home.now c.args.store.now c.head.new.home c.head.new.store c.head.ensures.moves c.requires.ready.1)

pub returns-in-Ok-joined_head-clause-moves : goal.returns-in-Ok-joined_head-clause-moves
returns-in-Ok-joined_head-clause-moves g c =
    let h = c.args.home.now in
    let w = c.args.store.now in
    let k = c.head.new.home in
    let u = c.head.new.store in
    let g' = c.head-in-Ok.new.home in
    let v = c.head-in-Ok.new.store in
    moved-moved g.A.Frags.moves g.B.Frags.moves h w k u g' v (once-ours g.A.Frags.moves g.B.Frags.moves h w k u (inr c.head.ensures.moves)) (once-theirs g.A.Frags.moves g.B.Frags.moves k u g' v (inr c.head-in-Ok.ensures.moves))

pub returns-in-Ok-head-clause-moves : goal.returns-in-Ok-head-clause-moves
returns-in-Ok-head-clause-moves g c =
    let h = c.args.home.now in
    let w = c.args.store.now in
    let k = c.head.new.home in
    let u = c.head.new.store in
    let g' = c.head-in-Ok.new.home in
    let v = c.head-in-Ok.new.store in
    moved-moved g.A.Frags.moves g.B.Frags.moves h w k u g' v (once-ours g.A.Frags.moves g.B.Frags.moves h w k u (inr c.head.ensures.moves)) (once-theirs g.A.Frags.moves g.B.Frags.moves k u g' v (inr c.head-in-Ok.ensures.moves))

pub returns-in-Ok-clause-moves : goal.returns-in-Ok-clause-moves
returns-in-Ok-clause-moves g c =
    let h = c.args.home.now in
    let w = c.args.store.now in
    let k = c.head.new.home in
    let u = c.head.new.store in
    let g' = c.head-in-Ok.new.home in
    let v = c.head-in-Ok.new.store in
    moved-moved g.A.Frags.moves g.B.Frags.moves h w k u g' v (once-ours g.A.Frags.moves g.B.Frags.moves h w k u (inr c.head.ensures.moves)) (once-theirs g.A.Frags.moves g.B.Frags.moves k u g' v (inr c.head-in-Ok.ensures.moves))

pub returns-clause-moves : goal.returns-clause-moves
returns-clause-moves g c = once-ours g.A.Frags.moves g.B.Frags.moves c.args.home.now c.args.store.now c.head.new.home c.head.new.store (inr c.head.ensures.moves)

pub returns-in-Ok-joined_head-clause-store : goal.returns-in-Ok-joined_head-clause-store
returns-in-Ok-joined_head-clause-store g c = (c.head-in-Ok.ensures.store.0 ∙ c.head.ensures.store.0, c.head-in-Ok.ensures.store.1 ∙ c.head.ensures.store.1)

pub returns-in-Ok-head-clause-store : goal.returns-in-Ok-head-clause-store
returns-in-Ok-head-clause-store g c = (c.head-in-Ok.ensures.store.0 ∙ c.head.ensures.store.0, c.head-in-Ok.ensures.store.1 ∙ c.head.ensures.store.1)

pub returns-in-Ok-clause-store : goal.returns-in-Ok-clause-store
returns-in-Ok-clause-store g c = (c.head-in-Ok.ensures.store.0 ∙ c.head.ensures.store.0, c.head-in-Ok.ensures.store.1 ∙ c.head.ensures.store.1)

pub returns-in-Ok-joined_head-clause-did : goal.returns-in-Ok-joined_head-clause-did
returns-in-Ok-joined_head-clause-did g c = ((c.head.new.self, c.args.merge.now.theirs.stream, c.head.new.home, c.head.new.store), (c.in-Ok.ensures.did, refl), (c.in-Ok-head.ensures.did, refl))

pub returns-in-Ok-head-clause-did : goal.returns-in-Ok-head-clause-did
returns-in-Ok-head-clause-did g c = inr ((c.head.new.self, c.args.merge.now.theirs.stream, c.head.new.home, c.head.new.store), (c.in-Ok.ensures.did, refl), (true, (c.in-Ok-head.ensures.did, refl)))

pub returns-in-Ok-clause-did : goal.returns-in-Ok-clause-did
returns-in-Ok-clause-did g c = inr ((c.head.new.self, c.args.merge.now.theirs.stream, c.head.new.home, c.head.new.store), (c.in-Ok.ensures.did, refl), (false, (c.in-Err-head.ensures.did, refl)))

pub returns-clause-did : goal.returns-clause-did
returns-clause-did g c = inl (c.in-Err.ensures.did, refl)

pub returns-in-Ok-joined_head-clause-damage : goal.returns-in-Ok-joined_head-clause-damage
returns-in-Ok-joined_head-clause-damage g c =
    let m = c.args.merge.now in
    let a = g.A.Frags.damage m.ours.stream in
    let b = g.B.Frags.damage m.theirs.stream in
    let a' = g.A.Frags.damage c.head.new.self in
    let b' = g.B.Frags.damage c.head-in-Ok.new.self in
    blames-ok (EitherSpot a b) (EitherSpot a' b') c.head-in-Ok.result _ (blames-after (EitherSpot a b) (EitherSpot a' b) (EitherSpot a' b') c.head.result c.head-in-Ok.result (blames-ours a a' b c.head.result c.head.ensures.damage) (blames-theirs a' b b' c.head-in-Ok.result c.head-in-Ok.ensures.damage))

pub returns-in-Ok-head-clause-damage : goal.returns-in-Ok-head-clause-damage
returns-in-Ok-head-clause-damage g c =
    let m = c.args.merge.now in
    let a = g.A.Frags.damage m.ours.stream in
    let b = g.B.Frags.damage m.theirs.stream in
    let a' = g.A.Frags.damage c.head.new.self in
    let b' = g.B.Frags.damage c.head-in-Ok.new.self in
    blames-memory (EitherSpot a b) (EitherSpot a' b') c.head-in-Ok.result (blames-after (EitherSpot a b) (EitherSpot a' b) (EitherSpot a' b') c.head.result c.head-in-Ok.result (blames-ours a a' b c.head.result c.head.ensures.damage) (blames-theirs a' b b' c.head-in-Ok.result c.head-in-Ok.ensures.damage))

pub returns-in-Ok-clause-damage : goal.returns-in-Ok-clause-damage
returns-in-Ok-clause-damage g c =
    let m = c.args.merge.now in
    let a = g.A.Frags.damage m.ours.stream in
    let b = g.B.Frags.damage m.theirs.stream in
    let a' = g.A.Frags.damage c.head.new.self in
    let b' = g.B.Frags.damage c.head-in-Ok.new.self in
    blames-after (EitherSpot a b) (EitherSpot a' b) (EitherSpot a' b') c.head.result _ (blames-ours a a' b c.head.result c.head.ensures.damage) (blames-theirs a' b b' _ c.in-Err-head.ensures.damage)

pub returns-clause-damage : goal.returns-clause-damage
returns-clause-damage g c =
    let m = c.args.merge.now in
    let a = g.A.Frags.damage m.ours.stream in
    let b = g.B.Frags.damage m.theirs.stream in
    let a' = g.A.Frags.damage c.head.new.self in
    blames-ours a a' b _ c.in-Err.ensures.damage
