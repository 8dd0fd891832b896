use Rattle.std.proofs.Common.{arith, sym, subst}
use Rattle.lsa_tree.specs.Search.{IsFound}
use Rattle.rc_version.specs.Versions.{IsVersionOf}
use Rattle.rc_agreement.specs.calls.Gaps.{IsNextEntry}
use Rattle.rc_agreement.proofs.Nexts.{entry-after, entry-before, entry-none}
use Rattle.rc_agreement.proofs.gaps.next_entry.Goals as goal

pub next-requires : goal.next-requires
next-requires g c = let f = c.in-Here.ensures c.requires.0 c.requires.2.tree in (omega arith, (f.0, f.1, (subst (λ l. IsVersionOf c.args.region.now c.args.v l c.requires.1) f.2 c.requires.2).tree))

pub returns-in-Here : goal.returns-in-Here
returns-in-Here g c = λ refs d h.
    let f = c.in-Here.ensures refs h.tree in let k = subst (λ l. IsVersionOf c.args.region.now c.args.v l d) f.2 h in
    subst (IsNextEntry c.args.region.now c.args.x.now d.entries) (sym (c.next.ensures f.0 f.1 k.tree)) (entry-after c.args.region.now c.args.v c.args.x.now f.0 c.in-Here.e f.1 d k f.3)

pub returns-in-Before : goal.returns-in-Before
returns-in-Before g c = λ refs d h. entry-before c.args.region.now c.args.v c.args.x.now refs d h c.in-Before.next (c.in-Before.ensures refs h.tree)

pub returns-in-Last : goal.returns-in-Last
returns-in-Last g c = λ refs d h. entry-none c.args.region.now c.args.v c.args.x.now refs d h (subst (IsFound c.args.region.now refs c.args.x.now) c.in-Last.is (c.locate.ensures refs h.tree))
