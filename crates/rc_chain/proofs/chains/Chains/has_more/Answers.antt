use Rattle.std.proofs.Common.{Some, None, sym, ◌∙◌, arith}
use Rattle.rc_chain.proofs.Ended.{last-inside, last-there}
use Rattle.rc_chain.proofs.Ending.{bare-is, no-statics, none-inner, some-inner}
use Rattle.rc_chain.proofs.chains.Chains.has_more.Goals as goal

pub returns-then-is_some-clause-more : goal.returns-then-is_some-clause-more
returns-then-is_some-clause-more g c =
    λ t k v e at. let l = some-inner c.last_inner.result _ c.last_inner.ensures.some (sym c.is_some.ensures ∙ c.if-is_some.true) in
    (Some l.1.0, last-there v (Some l.1.0) (l.1.2 k v e at), last-inside v (Some l.1.0) (c.known.ensures.versions c.args.id c.args.number k v e at) (l.1.2 k v e at))

pub has_static-requires : goal.has_static-requires
has_static-requires g c =
    (omega arith, c.requires)

pub returns-clause-bare : goal.returns-clause-bare
returns-clause-bare g c =
    λ f k v e at. bare-is v (c.known.ensures.versions c.args.id c.args.number k v e at).ends (no-statics v (sym (c.has_static.ensures k v e at) ∙ f)) (none-inner c.last_inner.result _ c.last_inner.ensures.none (sym c.is_some.ensures ∙ c.if-is_some.false) k v e at)

pub returns-clause-more : goal.returns-clause-more
returns-clause-more g c =
    λ t k v e at. (None, sym (c.has_static.ensures k v e at) ∙ t, λ same. cc same)
