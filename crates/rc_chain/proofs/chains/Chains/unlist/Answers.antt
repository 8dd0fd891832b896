use Rattle.std.proofs.Common.{◌++◌, sym, ap, ◌∙◌, subst, arith}
use Rattle.std.specs.Prelude.{IsSomeAnd}
use Rattle.lsa_region.specs.Region.{View, SameObjects}
use Rattle.rc_memory.specs.Changes.{Nowhere, StandStill}
use Rattle.rc_memory.specs.laws.Still.{still-listed}
use Rattle.rc_memory.specs.Memory.{KeptChain, Member, Memory, chain_at, listed_as}
use Rattle.rc_memory.specs.Recency.{MustBeListed}
use Rattle.rc_memory.specs.laws.Keeping.{memory-taken}
use Rattle.rc_memory.specs.laws.Listed.{list-at}
use Rattle.rc_memory.specs.laws.One.{kept-is}
use Rattle.rc_memory.specs.laws.Places.{one-place}
use Rattle.rc_chain.proofs.Reading.{at-place, memory-now}
use Rattle.rc_chain.proofs.chains.Chains.unlist.Goals as goal

pub remove-requires : goal.remove-requires
remove-requires g c =
    let s = c.self.inside in let n = memory-now g.row.S s.recency s.region s.registry s.counts s.memory c.args.self.now c.self.view_is c.self.invariant.0 c.self.invariant.1 in
    let q = c.requires in (omega arith, list-at s.recency s.region s.registry s.counts c.args.self.now n.held q.1 q.0 q.2 c.args.r q.3 (at-place s.recency s.region s.registry s.counts c.args.self.now n.held c.args.r q.0 q.4))

pub invariant_of-self-inside : goal.invariant_of-self-inside
invariant_of-self-inside g c =
    let s = c.self.inside in let n = memory-now g.row.S s.recency s.region s.registry s.counts s.memory c.args.self.now c.self.view_is c.self.invariant.0 c.self.invariant.1 in
    let q = c.requires in ((listed_as (q.1 ++ q.2) c.remove.new.region c.args.self.now, ∣ memory-taken g.row.S s.recency s.region c.remove.new.region s.registry s.counts c.args.self.now n c.remove.ensures.elsewhere c.remove.ensures.objects c.remove.ensures.well c.args.r q.1 q.0 q.2 q.3 (at-place s.recency s.region s.registry s.counts c.args.self.now n.held c.args.r q.0 q.4) q.5 c.remove.ensures.removed c.remove.ensures.first_unset c.remove.ensures.second_unset c.remove.ensures.unset ∣₁), tt)

pub invariant_of-self : goal.invariant_of-self
invariant_of-self g c =
    let s = c.self.inside in let n = memory-now g.row.S s.recency s.region s.registry s.counts s.memory c.args.self.now c.self.view_is c.self.invariant.0 c.self.invariant.1 in
    let q = c.requires in (listed_as (q.1 ++ q.2) c.remove.new.region c.args.self.now, memory-taken g.row.S s.recency s.region c.remove.new.region s.registry s.counts c.args.self.now n c.remove.ensures.elsewhere c.remove.ensures.objects c.remove.ensures.well c.args.r q.1 q.0 q.2 q.3 (at-place s.recency s.region s.registry s.counts c.args.self.now n.held c.args.r q.0 q.4) q.5 c.remove.ensures.removed c.remove.ensures.first_unset c.remove.ensures.second_unset c.remove.ensures.unset, c.self.invariant.2, c.self.invariant.3, c.self.invariant.4)

pub returns-clause-unlisted : goal.returns-clause-unlisted
returns-clause-unlisted g c = λ w front back e at.
    let s = c.self.inside in let n = memory-now g.row.S s.recency s.region s.registry s.counts s.memory c.args.self.now c.self.view_is c.self.invariant.0 c.self.invariant.1 in
    let q = c.requires in let same = one-place s.recency s.region n.held.well c.args.self.now.standing n.held.listed n.held.stands c.args.r q.0 w (at-place s.recency s.region s.registry s.counts c.args.self.now n.held c.args.r q.0 q.4) (at-place s.recency s.region s.registry s.counts c.args.self.now n.held c.args.r w at) in
    let free = subst (λ (x : Member). IsSomeAnd (chain_at c.args.self.now x.chain) (λ (k : KeptChain). MustBeListed k.chain x.version x.position) → ⊥) same q.5 in
    let is = kept-is g.row.S s.recency c.remove.new.region s.registry s.counts c.self-1.given.0 (listed_as (front ++ back) c.remove.new.region c.args.self.now) (memory-taken g.row.S s.recency s.region c.remove.new.region s.registry s.counts c.args.self.now n c.remove.ensures.elsewhere c.remove.ensures.objects c.remove.ensures.well c.args.r front w back e (at-place s.recency s.region s.registry s.counts c.args.self.now n.held c.args.r w at) free c.remove.ensures.removed c.remove.ensures.first_unset c.remove.ensures.second_unset c.remove.ensures.unset).held in
    is ∙ ap (λ (x : View). listed_as (front ++ back) x c.args.self.now) (sym (ap (λ (m : Memory). m.region) is))

pub returns-clause-objects : goal.returns-clause-objects
returns-clause-objects g c =
    let s = c.self.inside in let n = memory-now g.row.S s.recency s.region s.registry s.counts s.memory c.args.self.now c.self.view_is c.self.invariant.0 c.self.invariant.1 in
    let q = c.requires in let is = kept-is g.row.S s.recency c.remove.new.region s.registry s.counts c.self-1.given.0 (listed_as (q.1 ++ q.2) c.remove.new.region c.args.self.now) (memory-taken g.row.S s.recency s.region c.remove.new.region s.registry s.counts c.args.self.now n c.remove.ensures.elsewhere c.remove.ensures.objects c.remove.ensures.well c.args.r q.1 q.0 q.2 q.3 (at-place s.recency s.region s.registry s.counts c.args.self.now n.held c.args.r q.0 q.4) q.5 c.remove.ensures.removed c.remove.ensures.first_unset c.remove.ensures.second_unset c.remove.ensures.unset).held in
    subst (λ (m : Memory). SameObjects c.args.self.now.region m.region) (sym is) (subst (λ (v : View). SameObjects v c.remove.new.region) (sym n.held.region) c.remove.ensures.objects)

pub returns-clause-still : goal.returns-clause-still
returns-clause-still g c =
    let s = c.self.inside in let n = memory-now g.row.S s.recency s.region s.registry s.counts s.memory c.args.self.now c.self.view_is c.self.invariant.0 c.self.invariant.1 in
    let q = c.requires in let is = kept-is g.row.S s.recency c.remove.new.region s.registry s.counts c.self-1.given.0 (listed_as (q.1 ++ q.2) c.remove.new.region c.args.self.now) (memory-taken g.row.S s.recency s.region c.remove.new.region s.registry s.counts c.args.self.now n c.remove.ensures.elsewhere c.remove.ensures.objects c.remove.ensures.well c.args.r q.1 q.0 q.2 q.3 (at-place s.recency s.region s.registry s.counts c.args.self.now n.held c.args.r q.0 q.4) q.5 c.remove.ensures.removed c.remove.ensures.first_unset c.remove.ensures.second_unset c.remove.ensures.unset).held in
    subst (StandStill Nowhere c.args.self.now) (sym is) (still-listed s.recency s.region c.remove.new.region s.registry s.counts c.args.self.now n.held c.remove.ensures.elsewhere c.remove.ensures.objects c.remove.ensures.well (q.1 ++ q.2))
