use Rattle.std.proofs.Common.{[], ◌∷◌, ◌++◌, sym, ap, ◌∙◌, subst, arith}
use Rattle.std.specs.Prelude.{Contains, IsSomeAnd}
use Rattle.lsa_region.specs.Region.{View, SameObjects}
use Rattle.rc_memory.specs.Changes.{Nowhere, StandStill}
use Rattle.rc_memory.specs.laws.Still.{still-listed}
use Rattle.rc_memory.specs.Memory.{KeptChain, Member, Memory, chain_at, listed_as}
use Rattle.rc_memory.specs.Recency.{MayBeListed}
use Rattle.rc_memory.specs.laws.Keeping.{memory-pushed}
use Rattle.rc_memory.specs.laws.Listed.{unlisted-at}
use Rattle.rc_memory.specs.laws.One.{kept-is}
use Rattle.rc_memory.specs.laws.Places.{one-place}
use Rattle.rc_chain.proofs.Reading.{at-place, recency-at, memory-now}
use Rattle.rc_chain.proofs.chains.Chains.list.Goals as goal

pub push_back-requires : goal.push_back-requires
push_back-requires g c =
    let s = c.self.inside in let n = memory-now g.row.S s.recency s.region s.registry s.counts s.memory c.args.self.now c.self.view_is c.self.invariant.0 c.self.invariant.1 in
    let q = c.requires in let off = unlisted-at s.recency s.region s.registry s.counts c.args.self.now n.held c.args.r q.0 (at-place s.recency s.region s.registry s.counts c.args.self.now n.held c.args.r q.0 q.1) q.2 in
    (omega arith, ((n.held.listed, n.held.stands.list), (recency-at s.recency s.region s.registry s.counts c.args.self.now n.held c.args.r q.0 q.1, (off 0 (omega arith), off 1 (omega arith)))))

pub invariant_of-self-inside : goal.invariant_of-self-inside
invariant_of-self-inside g c =
    let s = c.self.inside in let n = memory-now g.row.S s.recency s.region s.registry s.counts s.memory c.args.self.now c.self.view_is c.self.invariant.0 c.self.invariant.1 in
    let q = c.requires in ((listed_as (c.args.self.now.recency ++ (q.0 ∷ [])) c.push_back.new.region c.args.self.now, ∣ memory-pushed g.row.S s.recency s.region c.push_back.new.region s.registry s.counts c.args.self.now n c.push_back.ensures.elsewhere c.push_back.ensures.objects c.push_back.ensures.well c.args.r q.0 (at-place s.recency s.region s.registry s.counts c.args.self.now n.held c.args.r q.0 q.1) q.2 q.3 c.push_back.ensures.pushed c.push_back.ensures.unset ∣₁), tt)

pub invariant_of-self : goal.invariant_of-self
invariant_of-self g c =
    let s = c.self.inside in let n = memory-now g.row.S s.recency s.region s.registry s.counts s.memory c.args.self.now c.self.view_is c.self.invariant.0 c.self.invariant.1 in
    let q = c.requires in (listed_as (c.args.self.now.recency ++ (q.0 ∷ [])) c.push_back.new.region c.args.self.now, memory-pushed g.row.S s.recency s.region c.push_back.new.region s.registry s.counts c.args.self.now n c.push_back.ensures.elsewhere c.push_back.ensures.objects c.push_back.ensures.well c.args.r q.0 (at-place s.recency s.region s.registry s.counts c.args.self.now n.held c.args.r q.0 q.1) q.2 q.3 c.push_back.ensures.pushed c.push_back.ensures.unset, c.self.invariant.2, c.self.invariant.3, c.self.invariant.4)

pub returns-clause-listed : goal.returns-clause-listed
returns-clause-listed g c = λ w at.
    let s = c.self.inside in let n = memory-now g.row.S s.recency s.region s.registry s.counts s.memory c.args.self.now c.self.view_is c.self.invariant.0 c.self.invariant.1 in
    let q = c.requires in let same = one-place s.recency s.region n.held.well c.args.self.now.standing n.held.listed n.held.stands c.args.r q.0 w (at-place s.recency s.region s.registry s.counts c.args.self.now n.held c.args.r q.0 q.1) (at-place s.recency s.region s.registry s.counts c.args.self.now n.held c.args.r w at) in
    let off = subst (λ (x : Member). Contains c.args.self.now.recency x → ⊥) same q.2 in
    let may = subst (λ (x : Member). IsSomeAnd (chain_at c.args.self.now x.chain) (λ (k : KeptChain). MayBeListed k.chain x.version x.position)) same q.3 in
    let is = kept-is g.row.S s.recency c.push_back.new.region s.registry s.counts c.self-1.given.0 (listed_as (c.args.self.now.recency ++ (w ∷ [])) c.push_back.new.region c.args.self.now) (memory-pushed g.row.S s.recency s.region c.push_back.new.region s.registry s.counts c.args.self.now n c.push_back.ensures.elsewhere c.push_back.ensures.objects c.push_back.ensures.well c.args.r w (at-place s.recency s.region s.registry s.counts c.args.self.now n.held c.args.r w at) off may c.push_back.ensures.pushed c.push_back.ensures.unset).held in
    is ∙ ap (λ (x : View). listed_as (c.args.self.now.recency ++ (w ∷ [])) x c.args.self.now) (sym (ap (λ (m : Memory). m.region) is))

pub returns-clause-objects : goal.returns-clause-objects
returns-clause-objects g c =
    let s = c.self.inside in let n = memory-now g.row.S s.recency s.region s.registry s.counts s.memory c.args.self.now c.self.view_is c.self.invariant.0 c.self.invariant.1 in
    let q = c.requires in let is = kept-is g.row.S s.recency c.push_back.new.region s.registry s.counts c.self-1.given.0 (listed_as (c.args.self.now.recency ++ (q.0 ∷ [])) c.push_back.new.region c.args.self.now) (memory-pushed g.row.S s.recency s.region c.push_back.new.region s.registry s.counts c.args.self.now n c.push_back.ensures.elsewhere c.push_back.ensures.objects c.push_back.ensures.well c.args.r q.0 (at-place s.recency s.region s.registry s.counts c.args.self.now n.held c.args.r q.0 q.1) q.2 q.3 c.push_back.ensures.pushed c.push_back.ensures.unset).held in
    subst (λ (m : Memory). SameObjects c.args.self.now.region m.region) (sym is) (subst (λ (v : View). SameObjects v c.push_back.new.region) (sym n.held.region) c.push_back.ensures.objects)

pub returns-clause-still : goal.returns-clause-still
returns-clause-still g c =
    let s = c.self.inside in let n = memory-now g.row.S s.recency s.region s.registry s.counts s.memory c.args.self.now c.self.view_is c.self.invariant.0 c.self.invariant.1 in
    let q = c.requires in let is = kept-is g.row.S s.recency c.push_back.new.region s.registry s.counts c.self-1.given.0 (listed_as (c.args.self.now.recency ++ (q.0 ∷ [])) c.push_back.new.region c.args.self.now) (memory-pushed g.row.S s.recency s.region c.push_back.new.region s.registry s.counts c.args.self.now n c.push_back.ensures.elsewhere c.push_back.ensures.objects c.push_back.ensures.well c.args.r q.0 (at-place s.recency s.region s.registry s.counts c.args.self.now n.held c.args.r q.0 q.1) q.2 q.3 c.push_back.ensures.pushed c.push_back.ensures.unset).held in
    subst (StandStill Nowhere c.args.self.now) (sym is) (still-listed s.recency s.region c.push_back.new.region s.registry s.counts c.args.self.now n.held c.push_back.ensures.elsewhere c.push_back.ensures.objects c.push_back.ensures.well (c.args.self.now.recency ++ (q.0 ∷ [])))
