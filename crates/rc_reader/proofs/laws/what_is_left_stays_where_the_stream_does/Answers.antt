-- The stream that is stood for stays, and the work is the reader's own.
use Rattle.rc_reader.proofs.Holding.{left-on}
use Rattle.rc_reader.proofs.laws.what_is_left_stays_where_the_stream_does.Goals as goal

pub returns : goal.returns
returns g c = λ reader h k w v lines stays left. left-on (g.S.Frags.seen reader.stream h w) (g.S.Frags.seen reader.stream k v) reader.work stays lines left
