use Rattle.std.proofs.Common.{◌≡◌, ◌<◌, ◌∷◌, ℕ, Some, length, sym, ap, subst, arith}
use Rattle.std.specs.Prelude.{IsSomeAnd}
use Rattle.std.proofs.lemmas.List.{length-append}
use Rattle.lsa_region.specs.Region.{View}
use Rattle.rc_core.specs.Version.{Version}
use Rattle.rc_version.specs.Versions.{IsVersionOf}
use Rattle.rc_memory.specs.Memory.{KeptChain, Memory, HasVersion, IsVersionAt, chain_at}
use Rattle.rc_chain.proofs.Changing.{version-refs}
use Rattle.rc_chain.proofs.Reading.{memory-now}
use Rattle.rc_chain.proofs.chains.Chains.versions_stand.Goals as goal

-- a version of a number is there
has-version : (m : Memory) (id j : ℕ) (k : KeptChain) (v : Version) → chain_at m id ≡ Some k → IsVersionAt k.chain.versions j v → HasVersion m id j
has-version m id j k v there at = subst (λ o. IsSomeAnd o (λ q. j < length q.chain.versions)) (sym there) (omega (arith, at.number, ap length at.split, length-append at.older (v ∷ at.newer)))

pub returns : goal.returns
returns g c =
    let s = c.self.inside in let n = memory-now g.row.S s.recency s.region s.registry s.counts s.memory c.args.self.now c.self.view_is c.self.invariant.0 c.self.invariant.1 in
    λ id j r object k v there at.
    let refs = version-refs g.row.S s.recency s.region s.registry s.counts c.args.self.now n id j (has-version c.args.self.now id j k v there at) r object k v there at in
    (refs.0, subst (λ (view : View). IsVersionOf view r refs.0 v) (sym n.held.region) refs.1)
