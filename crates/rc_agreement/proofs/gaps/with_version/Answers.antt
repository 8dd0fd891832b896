use Rattle.std.proofs.Common.{arith, sym, subst}
use Rattle.lsa_region.specs.Region.{View}
use Rattle.rc_version.specs.Versions.{IsVersionOf}
use Rattle.rc_memory.specs.laws.At.{found-version}
use Rattle.rc_agreement.proofs.gaps.with_version.Goals as goal

pub gap_in-requires : goal.gap_in-requires
gap_in-requires g c =
    let a = found-version c.args.chains.now c.args.id c.args.number c.requires in
    let refs = c.versions_stand.ensures c.args.id c.args.number c.version.result c.version.ensures a.0 a.1 a.2 a.3 in
    (omega arith, (refs.0, a.1, subst (λ (view : View). IsVersionOf view c.version.result refs.0 a.1) (sym c.region.ensures) refs.1))

pub returns : goal.returns
returns g c = λ k v there at.
    let refs = c.versions_stand.ensures c.args.id c.args.number c.version.result c.version.ensures k v there at in
    let says = c.in_ok-mark.ensures refs.0 v (subst (λ (view : View). IsVersionOf view c.version.result refs.0 v) (sym c.region.ensures) refs.1) in
    (c.in_ok-mark.mark, c.in_ok-mark.next, says, c.over_gap.ensures)
