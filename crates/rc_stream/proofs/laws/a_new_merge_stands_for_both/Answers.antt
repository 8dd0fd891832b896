-- Each part holds nothing, so it is its stream, and no seek is due.
use Rattle.std.proofs.Common.{refl, sym, subst}
use Rattle.rc_stream.specs.Both.{AheadOfBoth, BothFresh, MightBoth, SoughtBoth, SpotsOfBoth}
use Rattle.rc_stream.specs.calls.Both.{BothReady, IsDueAhead}
use Rattle.rc_stream.specs.Merging.{merged_stream}
use Rattle.rc_stream.proofs.Showing.{alone}
use Rattle.rc_stream.proofs.laws.a_new_merge_stands_for_both.Goals as goal

pub returns-clause-seen : goal.returns-clause-seen
returns-clause-seen g c a b m h w s t is p q d e o k =
    subst (λ n. SoughtBoth g.A.Frags.seen g.B.Frags.seen n h w (merged_stream s t)) (sym is)
    (record { ours = s; theirs = t; first = alone (g.A.Frags.seen a h w) s p d o; second = alone (g.B.Frags.seen b h w) t q e k; joins = refl })

pub returns-clause-ready : goal.returns-clause-ready
returns-clause-ready g c a b m h w is r q k k' s s' = (
  subst (λ n. BothReady g.A.Frags.ready g.B.Frags.ready n h w) (sym is) (r, q),
  record { ours = k; theirs = k'; ours_seen = s; theirs_seen = s' },
  subst (λ n. IsDueAhead g.A.Frags.ahead g.B.Frags.ahead n) (sym is) tt,
)

pub returns-clause-ahead : goal.returns-clause-ahead
returns-clause-ahead g c a b m x is p q = subst (λ n. AheadOfBoth g.A.Frags.ahead g.B.Frags.ahead n x) (sym is) (λ y r _. p y r, λ y r _. q y r)

pub returns-clause-fresh : goal.returns-clause-fresh
returns-clause-fresh g c a b m is p q = subst (λ n. BothFresh g.A.Frags.fresh g.B.Frags.fresh n) (sym is) (p, q, refl, refl, refl)

pub returns-clause-might : goal.returns-clause-might
returns-clause-might g c a b m s is p = subst (λ n. MightBoth g.A.Frags.might g.B.Frags.might n s) is p

pub returns-clause-damage : goal.returns-clause-damage
returns-clause-damage g c a b m file offset is d = subst (λ n. SpotsOfBoth g.A.Frags.damage g.B.Frags.damage n file offset) is d
