-- The snapshot is at the place, and gives its first part from there.
use Rattle.std.proofs.Common.{sym, ap, ◌∙◌, subst}
use Rattle.std.specs.Prelude.{IfOk}
use Rattle.std.specs.Result.{is_ok}
use Rattle.rc_stream.specs.Did.{OfNext}
use Rattle.rc_stream.specs.Places.{Reaches}
use Rattle.rc_stream.specs.Snapshot.{IsPartFrom, place_behind}
use Rattle.rc_cacheread.specs.Did.{KnownStep}
use Rattle.rc_cacheread.specs.Sharing.{IsPlaceAt}
use Rattle.rc_cacheread.proofs.Chains.{chain-after, chain-one}
use Rattle.rc_cacheread.proofs.Orders.{before-reach}
use Rattle.rc_cacheread.proofs.Parting.{part-on, same-same}
use Rattle.rc_cacheread.proofs.parts.next_part.Goals as goal

pub next_known-requires-clause-ahead : goal.next_known-requires-clause-ahead
next_known-requires-clause-ahead g c = subst (λ x. Reaches x c.args.to.now) (sym c.in-Ok.ensures.ok) (before-reach c.args.place.now c.args.to.now c.requires.order)

pub returns-in-Ok-clause-part : goal.returns-in-Ok-clause-part
returns-in-Ok-clause-part g c = part-on (g.K.Known.knows c.args.known.now c.args.home.now) (g.K.Known.knows c.catch_up.new.known c.catch_up.new.home) c.args.place.now c.args.to.now c.next_known.result c.catch_up.ensures.knows (subst (λ x. IfOk c.next_known.result (IsPartFrom (g.K.Known.knows c.catch_up.new.known c.catch_up.new.home) x c.args.to.now)) c.in-Ok.ensures.ok c.next_known.ensures.part)

pub returns-in-Ok-clause-at : goal.returns-in-Ok-clause-at
returns-in-Ok-clause-at g c = subst (λ b. IsPlaceAt b (g.K.Known.place c.next_known.new.self) (place_behind c.next_known.result c.args.place.now)) (sym c.in-Ok.ensures.lags) (c.next_known.ensures.place ∙ ap (place_behind c.next_known.result) c.in-Ok.ensures.ok)

pub returns-in-Ok-clause-knows : goal.returns-in-Ok-clause-knows
returns-in-Ok-clause-knows g c = same-same (g.K.Known.knows c.args.known.now c.args.home.now) (g.K.Known.knows c.catch_up.new.known c.catch_up.new.home) (g.K.Known.knows c.next_known.new.self c.next_known.new.home) c.catch_up.ensures.knows c.next_known.ensures.knows

pub returns-in-Ok-clause-did : goal.returns-in-Ok-clause-did
returns-in-Ok-clause-did g c = chain-after (KnownStep g.K.Known.did) (is_ok c.next_known.result) (c.args.known.now, c.args.home.now) (c.catch_up.new.known, c.catch_up.new.home) (c.next_known.new.self, c.next_known.new.home) c.in-Ok.ensures.did (chain-one (KnownStep g.K.Known.did) (is_ok c.next_known.result) (c.catch_up.new.known, c.catch_up.new.home) (c.next_known.new.self, c.next_known.new.home) (OfNext c.args.to.now, c.next_known.ensures.did))

pub returns-in-Err-clause-did : goal.returns-in-Err-clause-did
returns-in-Err-clause-did g c = c.in-Err.ensures.did
