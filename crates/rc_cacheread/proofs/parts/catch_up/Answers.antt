-- The snapshot passed to the place, if it lagged.
use Rattle.std.proofs.Common.{true, false, sym, subst}
use Rattle.rc_stream.specs.Did.{OfSeek}
use Rattle.rc_cacheread.specs.Did.{KnownStep}
use Rattle.rc_cacheread.specs.Sharing.{IsPlaceAt}
use Rattle.rc_cacheread.proofs.Chains.{chain-one}
use Rattle.rc_cacheread.proofs.Going.{at-lags}
use Rattle.rc_cacheread.proofs.parts.catch_up.Goals as goal

pub pass-requires-clause-ahead : goal.pass-requires-clause-ahead
pass-requires-clause-ahead g c = at-lags c.args.lags.now (g.K.Known.place c.args.known.now) c.args.place.now c.requires.at

pub returns-in-Ok-clause-did : goal.returns-in-Ok-clause-did
returns-in-Ok-clause-did g c = chain-one (KnownStep g.K.Known.did) true (c.args.known.now, c.args.home.now) (c.pass.new.self, c.pass.new.home) (OfSeek c.args.place.now, c.in-Ok.ensures.did)

pub returns-in-Err-clause-did : goal.returns-in-Err-clause-did
returns-in-Err-clause-did g c = chain-one (KnownStep g.K.Known.did) false (c.args.known.now, c.args.home.now) (c.pass.new.self, c.pass.new.home) (OfSeek c.args.place.now, c.in-Err.ensures.did)

pub returns-in-Err-clause-err : goal.returns-in-Err-clause-err
returns-in-Err-clause-err g c = subst (λ p. IsPlaceAt c.args.lags.now p c.args.place.now) (sym c.in-Err.ensures.err) c.requires.at
