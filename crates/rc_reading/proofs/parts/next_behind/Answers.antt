use Rattle.std.proofs.Common.{arith, sym, subst}
use Rattle.lsa_tree.specs.Search.{IsFound}
use Rattle.rc_partition.specs.Versions.{IsVersionOf}
use Rattle.rc_reading.specs.calls.Gaps.{IsNextBehind}
use Rattle.rc_reading.proofs.Nearest.{next-after, next-before, next-none}
use Rattle.rc_reading.proofs.parts.next_behind.Goals as goal

pub next-requires : goal.next-requires
next-requires g c = let f = c.in-Here.ensures c.requires.0 c.requires.2.tree in (omega arith, (f.0, f.1, (subst (λ l. IsVersionOf c.args.region.now c.args.v l c.requires.1) f.2 c.requires.2).tree))

pub returns-in-Here : goal.returns-in-Here
returns-in-Here g c = λ refs d h.
    let f = c.in-Here.ensures refs h.tree in let k = subst (λ l. IsVersionOf c.args.region.now c.args.v l d) f.2 h in
    subst (IsNextBehind c.args.region.now c.args.x.now d.entries) (sym (c.next.ensures f.0 f.1 k.tree)) (next-after c.args.region.now c.args.v c.args.x.now f.0 c.in-Here.e f.1 d k f.3)

pub returns-in-Before : goal.returns-in-Before
returns-in-Before g c = λ refs d h. next-before c.args.region.now c.args.v c.args.x.now refs d h c.in-Before.next (c.in-Before.ensures refs h.tree)

pub returns-in-Last : goal.returns-in-Last
returns-in-Last g c = λ refs d h. next-none c.args.region.now c.args.v c.args.x.now refs d h (subst (IsFound c.args.region.now refs c.args.x.now) c.in-Last.is (c.locate.ensures refs h.tree))
