use Rattle.std.proofs.Common.{sym, subst}
use Rattle.lsa_region.specs.Region.{View}
use Rattle.rc_version.specs.Versions.{IsVersionOf}
use Rattle.rc_recency.specs.Holding.{IsHeldVersion}
use Rattle.rc_recency.specs.laws.Held.{standing-as, stands}
use Rattle.rc_chain.proofs.Reading.{memory-now}
use Rattle.rc_chain.proofs.chains.Chains.places_stand.Goals as goal

pub returns : goal.returns
returns g c =
    let s = c.self.inside in let n = memory-now g.row.S s.recency s.region s.registry s.counts s.memory c.args.self.now c.self.view_is c.self.invariant.0 c.self.invariant.1 in
    λ id j r object k v there at.
    let h : IsHeldVersion s.recency s.region s.registry s.counts c.args.self.now id j k v r = record { held = n.held; chain = there; number = at; object = object } in
    (standing-as s.recency s.region s.registry s.counts c.args.self.now id j k v r h, subst (λ (view : View). IsVersionOf view r (standing-as s.recency s.region s.registry s.counts c.args.self.now id j k v r h).entries v) (sym n.held.region) (stands s.recency s.region s.registry s.counts c.args.self.now id j k v r h))
