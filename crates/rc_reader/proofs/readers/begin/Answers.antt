-- The head, and then a seek; the work is begun between them.
use Rattle.std.proofs.Common.{refl, inl, inr}
use Rattle.rc_reader.proofs.Holding.{goes-begun, left-begun, shown-begun}
use Rattle.rc_reader.proofs.Homes.{blames-error, blames-memory, blames-value, moved-moved, moved-one}
use Rattle.rc_reader.proofs.readers.begin.Goals as goal

pub returns-in-Ok-seek-clause-left : goal.returns-in-Ok-seek-clause-left
returns-in-Ok-seek-clause-left g c = λ s k.
    left-begun (g.S.Frags.seen c.seek.new.self c.seek.new.home c.seek.new.store) c.in-Ok.head c.args.slice.now c.in-Ok-new.work (record { lines = c.in-Ok-new.ensures.lines; to = c.in-Ok-new.ensures.to }) s (c.in-Ok.ensures.head s k) (c.in-Ok-seek.ensures.seen s (c.head.ensures.seen s k))

pub returns-in-Ok-seek-clause-shown : goal.returns-in-Ok-seek-clause-shown
returns-in-Ok-seek-clause-shown g c = λ fresh.
    shown-begun (g.S.Frags.might c.args.stream.now) (g.S.Frags.seen c.head.new.self c.head.new.home c.head.new.store) (g.S.Frags.seen c.seek.new.self c.seek.new.home c.seek.new.store) c.in-Ok.head c.args.slice.now c.in-Ok-new.work
    (record { lines = c.in-Ok-new.ensures.lines; to = c.in-Ok-new.ensures.to }) c.in-Ok-seek.ensures.seen (c.in-Ok.ensures.shown fresh)

pub returns-in-Ok-seek-clause-goes : goal.returns-in-Ok-seek-clause-goes
returns-in-Ok-seek-clause-goes g c = λ n y found.
    goes-begun (g.S.Frags.seen c.args.stream.now c.args.home.now c.args.store.now) (g.S.Frags.seen c.seek.new.self c.seek.new.home c.seek.new.store) c.in-Ok.head c.args.slice.now c.in-Ok-new.work
    (record { lines = c.in-Ok-new.ensures.lines; to = c.in-Ok-new.ensures.to }) c.in-Ok.ensures.head (λ s k. c.in-Ok-seek.ensures.seen s (c.head.ensures.seen s k)) n y found

pub returns-in-Ok-seek-clause-moves : goal.returns-in-Ok-seek-clause-moves
returns-in-Ok-seek-clause-moves g c =
    let M = g.S.Frags.moves in
    moved-moved M c.args.home.now c.args.store.now c.head.new.home c.head.new.store c.seek.new.home c.seek.new.store
    (moved-one M c.args.home.now c.args.store.now c.head.new.home c.head.new.store c.head.ensures.moves) (moved-one M c.head.new.home c.head.new.store c.seek.new.home c.seek.new.store c.seek.ensures.moves)

pub returns-in-Ok-seek-clause-did : goal.returns-in-Ok-seek-clause-did
returns-in-Ok-seek-clause-did g c = ((c.head.new.self, c.head.new.home, c.head.new.store), c.in-Ok.ensures.did, c.in-Ok-seek.ensures.did)

pub returns-in-Ok-seek-clause-damage : goal.returns-in-Ok-seek-clause-damage
returns-in-Ok-seek-clause-damage g c =
    let D = g.S.Frags.damage in
    blames-value (D c.args.stream.now) (D c.seek.new.self) _ (λ file offset d. c.head.ensures.damage.less file offset (c.seek.ensures.damage.less file offset d))

pub returns-in-Ok-new-clause-moves : goal.returns-in-Ok-new-clause-moves
returns-in-Ok-new-clause-moves g c =
    let M = g.S.Frags.moves in
    moved-moved M c.args.home.now c.args.store.now c.head.new.home c.head.new.store c.seek.new.home c.seek.new.store
    (moved-one M c.args.home.now c.args.store.now c.head.new.home c.head.new.store c.head.ensures.moves) (moved-one M c.head.new.home c.head.new.store c.seek.new.home c.seek.new.store c.seek.ensures.moves)

pub returns-in-Ok-new-clause-did : goal.returns-in-Ok-new-clause-did
returns-in-Ok-new-clause-did g c = inr ((c.head.new.self, c.head.new.home, c.head.new.store), c.in-Ok.ensures.did, inr c.in-Err-seek.ensures.did)

pub returns-in-Ok-new-clause-damage : goal.returns-in-Ok-new-clause-damage
returns-in-Ok-new-clause-damage g c =
    let D = g.S.Frags.damage in
    blames-error (D c.args.stream.now) (D c.head.new.self) (D c.seek.new.self) c.in-Err-seek.error c.head.ensures.damage.less c.in-Err-seek.ensures.damage

pub returns-in-Ok-clause-moves : goal.returns-in-Ok-clause-moves
returns-in-Ok-clause-moves g c = moved-one g.S.Frags.moves c.args.home.now c.args.store.now c.head.new.home c.head.new.store c.head.ensures.moves

pub returns-in-Ok-clause-did : goal.returns-in-Ok-clause-did
returns-in-Ok-clause-did g c = inr ((c.head.new.self, c.head.new.home, c.head.new.store), c.in-Ok.ensures.did, inl refl)

pub returns-in-Ok-clause-damage : goal.returns-in-Ok-clause-damage
returns-in-Ok-clause-damage g c = blames-memory (g.S.Frags.damage c.args.stream.now) (g.S.Frags.damage c.head.new.self) c.head.ensures.damage.less

pub returns-clause-moves : goal.returns-clause-moves
returns-clause-moves g c = moved-one g.S.Frags.moves c.args.home.now c.args.store.now c.head.new.home c.head.new.store c.head.ensures.moves

pub returns-clause-did : goal.returns-clause-did
returns-clause-did g c = inl c.in-Err.ensures.did

pub returns-clause-damage : goal.returns-clause-damage
returns-clause-damage g c =
    let D = g.S.Frags.damage in
    blames-error (D c.args.stream.now) (D c.args.stream.now) (D c.head.new.self) c.in-Err.error (λ file offset d. d) c.in-Err.ensures.damage
