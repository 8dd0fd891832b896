use Rattle.std.proofs.Common.{sym, subst, arith}
use Rattle.lsa_region.specs.Region.{View}
use Rattle.rc_version.specs.Versions.{IsVersionOf}
use Rattle.rc_census.proofs.Numbered.{version-of}
use Rattle.rc_census.proofs.counting.sorts_of_version.Goals as goal

pub sorts_of-requires : goal.sorts_of-requires
sorts_of-requires g c =
    let a = version-of c.args.chains.now c.args.id c.args.number c.requires in
    let refs = c.versions_stand.ensures c.args.id c.args.number c.version.result c.version.ensures a.0 a.1 a.2 a.3 in
    (omega arith, (refs.0, a.1, subst (λ (view : View). IsVersionOf view c.version.result refs.0 a.1) (sym c.region.ensures) refs.1))

pub returns-clause-rows : goal.returns-clause-rows
returns-clause-rows g c = λ k v there at.
    let refs = c.versions_stand.ensures c.args.id c.args.number c.version.result c.version.ensures k v there at in
    c.sorts_of.ensures.rows refs.0 v (subst (λ (view : View). IsVersionOf view c.version.result refs.0 v) (sym c.region.ensures) refs.1)

pub returns-clause-dummies : goal.returns-clause-dummies
returns-clause-dummies g c = λ k v there at.
    let refs = c.versions_stand.ensures c.args.id c.args.number c.version.result c.version.ensures k v there at in
    c.sorts_of.ensures.dummies refs.0 v (subst (λ (view : View). IsVersionOf view c.version.result refs.0 v) (sym c.region.ensures) refs.1)
