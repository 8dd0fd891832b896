use Rattle.std.proofs.Common.{Some, ap, subst, arith}
use Rattle.rc_memory.specs.Memory.{IsMemberObject}
use Rattle.rc_evict.proofs.Losing.{end-place, front-has, inner-place, lost-end, lost-inner, lost-static, same-member, static-place}
use Rattle.rc_evict.proofs.evicting.lose.Goals as goal

pub drop_entry-requires : goal.drop_entry-requires
drop_entry-requires g c =
    let m = c.args.chains.now in let w = c.requires.0 in
    let home = c.home-id.ensures w c.requires.3 in
    let x = inner-place m w c.requires.1 c.requires.2 c.known.ensures.rule c.sort_of-sort.result c.in-Row.is (c.sort_of-sort.ensures w c.requires.3) in
    (omega arith, (x.0, subst (IsMemberObject m c.args.r) (same-member w c.home-id.result.0 c.home-id.result.1 (Some x.0) (ap (λ p. p.0) home) (ap (λ p. p.1) home) x.1) c.requires.3, x.2))

pub drop_static-requires : goal.drop_static-requires
drop_static-requires g c =
    let w = c.requires.0 in let home = c.home-id.ensures w c.requires.3 in
    (omega arith, front-has c.args.chains.now w c.requires.1 c.requires.2 c.known.ensures.rule c.home-id.result.0 c.home-id.result.1 (ap (λ p. p.0) home) (ap (λ p. p.1) home))

pub lose_end-requires : goal.lose_end-requires
lose_end-requires g c =
    let w = c.requires.0 in
    (omega arith, (w, c.requires.1, c.requires.2, c.requires.3, end-place c.args.chains.now w c.requires.1 c.requires.2 c.known.ensures.rule c.sort_of-sort.result c.in-EndDummy.is (c.sort_of-sort.ensures w c.requires.3)))

pub returns-in-Row-clause-lost : goal.returns-in-Row-clause-lost
returns-in-Row-clause-lost g c =
    let m = c.args.chains.now in let w = c.requires.0 in
    let home = c.home-id.ensures w c.requires.3 in
    let x = inner-place m w c.requires.1 c.requires.2 c.known.ensures.rule c.sort_of-sort.result c.in-Row.is (c.sort_of-sort.ensures w c.requires.3) in
    let here = subst (IsMemberObject m c.args.r) (same-member w c.home-id.result.0 c.home-id.result.1 (Some x.0) (ap (λ p. p.0) home) (ap (λ p. p.1) home) x.1) c.requires.3 in (
      w,
      c.requires.3,
      lost-inner m c.drop_entry.new.self w c.requires.1 c.requires.2 c.known.ensures.rule c.sort_of-sort.result (c.sort_of-sort.ensures w c.requires.3) c.home-id.result.0 c.home-id.result.1 (ap (λ p. p.0) home) (ap (λ p. p.1) home)
          c.in-Row.is x.0 x.1 x.2 (c.drop_entry.ensures.dropped x.0 here) (c.drop_entry.ensures.recency x.0 here),
    )

pub returns-in-Static-clause-lost : goal.returns-in-Static-clause-lost
returns-in-Static-clause-lost g c =
    let m = c.args.chains.now in let w = c.requires.0 in
    let home = c.home-id.ensures w c.requires.3 in
    let none = static-place m w c.requires.1 c.requires.2 c.known.ensures.rule c.sort_of-sort.result c.in-Static.is (c.sort_of-sort.ensures w c.requires.3) in (
      w,
      c.requires.3,
      lost-static m c.drop_static.new.self w c.requires.1 c.requires.2 c.known.ensures.rule c.sort_of-sort.result (c.sort_of-sort.ensures w c.requires.3) c.home-id.result.0 c.home-id.result.1 (ap (λ p. p.0) home) (ap (λ p. p.1) home)
          c.in-Static.is none c.drop_static.ensures.dropped c.drop_static.ensures.recency,
    )

pub returns-in-EndDummy-clause-lost : goal.returns-in-EndDummy-clause-lost
returns-in-EndDummy-clause-lost g c =
    let m = c.args.chains.now in let w = c.requires.0 in
    let home = c.home-id.ensures w c.requires.3 in
    let lost = c.lose_end.ensures.lost w c.requires.1 c.requires.2 c.requires.3 in (
      w,
      c.requires.3,
      lost-end m c.lose_end.new.chains w c.requires.1 c.requires.2 c.known.ensures.rule c.sort_of-sort.result (c.sort_of-sort.ensures w c.requires.3) c.home-id.result.0 c.home-id.result.1 (ap (λ p. p.0) home) (ap (λ p. p.1) home)
          c.in-EndDummy.is lost.0 lost.1,
    )
