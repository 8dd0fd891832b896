-- The reader has the stream and the work that was begun, or the stream is given back.
use Rattle.rc_reader.proofs.Chains.{opened-answered, opened-quiet, opened-refused}
use Rattle.rc_reader.proofs.Homes.{blames-error, blames-value}
use Rattle.rc_reader.proofs.readers.Reader.open.Goals as goal

pub returns-in-Ok-clause-left : goal.returns-in-Ok-clause-left
returns-in-Ok-clause-left g c = c.in-Ok.ensures.left

pub returns-in-Ok-clause-shown : goal.returns-in-Ok-clause-shown
returns-in-Ok-clause-shown g c = c.in-Ok.ensures.shown

pub returns-in-Ok-clause-goes : goal.returns-in-Ok-clause-goes
returns-in-Ok-clause-goes g c = c.in-Ok.ensures.goes

pub returns-in-Ok-clause-did : goal.returns-in-Ok-clause-did
returns-in-Ok-clause-did g c = c.in-Ok.ensures.did

pub returns-in-Ok-clause-moves : goal.returns-in-Ok-clause-moves
returns-in-Ok-clause-moves g c = c.begin.ensures.moves

pub returns-in-Ok-clause-spends : goal.returns-in-Ok-clause-spends
returns-in-Ok-clause-spends g c = λ left sp. opened-answered g.S.Frags.did g.W.Store.asks left sp c.args.slice.now.from (c.args.stream, c.args.home.now, c.args.store.now) (c.begin.new.stream, c.begin.new.home, c.begin.new.store) c.in-Ok.ensures.did

pub returns-in-Ok-clause-quiet : goal.returns-in-Ok-clause-quiet
returns-in-Ok-clause-quiet g c = λ settled q. opened-quiet g.S.Frags.did g.W.Store.asks settled q c.args.slice.now.from (c.args.stream, c.args.home.now, c.args.store.now) (c.begin.new.stream, c.begin.new.home, c.begin.new.store) c.in-Ok.ensures.did

pub returns-in-Ok-clause-damage : goal.returns-in-Ok-clause-damage
returns-in-Ok-clause-damage g c = blames-value (g.S.Frags.damage c.args.stream) (g.S.Frags.damage c.begin.new.stream) _ c.begin.ensures.damage.less

pub returns-in-Err-clause-back : goal.returns-in-Err-clause-back
returns-in-Err-clause-back g c = c.in-Err.ensures.back

pub returns-in-Err-clause-ahead : goal.returns-in-Err-clause-ahead
returns-in-Err-clause-ahead g c = c.in-Err.ensures.ahead

pub returns-in-Err-clause-did : goal.returns-in-Err-clause-did
returns-in-Err-clause-did g c = c.in-Err.ensures.did

pub returns-in-Err-clause-moves : goal.returns-in-Err-clause-moves
returns-in-Err-clause-moves g c = c.begin.ensures.moves

pub returns-in-Err-clause-spends : goal.returns-in-Err-clause-spends
returns-in-Err-clause-spends g c = λ left sp. opened-refused g.S.Frags.did g.W.Store.asks left sp c.args.slice.now.from (c.args.stream, c.args.home.now, c.args.store.now) (c.begin.new.stream, c.begin.new.home, c.begin.new.store) c.in-Err.ensures.did

pub returns-in-Err-clause-damage : goal.returns-in-Err-clause-damage
returns-in-Err-clause-damage g c = blames-error (g.S.Frags.damage c.args.stream) (g.S.Frags.damage c.args.stream) (g.S.Frags.damage c.begin.new.stream) c.in-Err.error (λ file offset d. d) c.in-Err.ensures.damage
