use Rattle.std.proofs.Common.{inl}
use Rattle.rc_stream.specs.laws.Ordered.{passes-itself}
use Rattle.rc_cache_tests.proofs.cached.ask.Goals as goal

pub returns : goal.returns
returns g c = c.next.ensures.did c.args.upto.now (inl (passes-itself c.args.upto.now))
