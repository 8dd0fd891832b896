use Rattle.std.proofs.Common.{[], ◌∷◌, ◌++◌, sym, ap, subst, ◌∙◌, arith}
use Rattle.lsa_region.specs.Region.{View, SameObjects}
use Rattle.rc_memory.specs.Changes.{Nowhere, StandStill}
use Rattle.rc_memory.specs.laws.Still.{still-listed}
use Rattle.rc_memory.specs.Memory.{Memory, listed_as}
use Rattle.rc_memory.specs.laws.Keeping.{memory-touched}
use Rattle.rc_memory.specs.laws.Listed.{list-at}
use Rattle.rc_memory.specs.laws.One.{kept-is}
use Rattle.rc_chain.proofs.Reading.{at-place, memory-now}
use Rattle.rc_chain.proofs.chains.Chains.touch.Goals as goal

pub touch-requires : goal.touch-requires
touch-requires g c =
    let s = c.self.inside in let n = memory-now g.row.S s.recency s.region s.registry s.counts s.memory c.args.self.now c.self.view_is c.self.invariant.0 c.self.invariant.1 in
    let q = c.requires in (omega arith, list-at s.recency s.region s.registry s.counts c.args.self.now n.held q.1 q.0 q.2 c.args.r q.3 (at-place s.recency s.region s.registry s.counts c.args.self.now n.held c.args.r q.0 q.4))

pub invariant_of-self-inside : goal.invariant_of-self-inside
invariant_of-self-inside g c =
    let s = c.self.inside in let n = memory-now g.row.S s.recency s.region s.registry s.counts s.memory c.args.self.now c.self.view_is c.self.invariant.0 c.self.invariant.1 in
    let q = c.requires in ((listed_as ((q.1 ++ q.2) ++ (q.0 ∷ [])) c.touch.new.region c.args.self.now, ∣ memory-touched g.row.S s.recency s.region c.touch.new.region s.registry s.counts c.args.self.now n c.touch.ensures.elsewhere c.touch.ensures.objects c.touch.ensures.well c.args.r q.1 q.0 q.2 q.3 (at-place s.recency s.region s.registry s.counts c.args.self.now n.held c.args.r q.0 q.4) c.touch.ensures.touched c.touch.ensures.unset ∣₁), tt)

pub invariant_of-self : goal.invariant_of-self
invariant_of-self g c =
    let s = c.self.inside in let n = memory-now g.row.S s.recency s.region s.registry s.counts s.memory c.args.self.now c.self.view_is c.self.invariant.0 c.self.invariant.1 in
    let q = c.requires in (listed_as ((q.1 ++ q.2) ++ (q.0 ∷ [])) c.touch.new.region c.args.self.now, memory-touched g.row.S s.recency s.region c.touch.new.region s.registry s.counts c.args.self.now n c.touch.ensures.elsewhere c.touch.ensures.objects c.touch.ensures.well c.args.r q.1 q.0 q.2 q.3 (at-place s.recency s.region s.registry s.counts c.args.self.now n.held c.args.r q.0 q.4) c.touch.ensures.touched c.touch.ensures.unset, c.self.invariant.2, c.self.invariant.3, c.self.invariant.4)

pub returns-clause-touched : goal.returns-clause-touched
returns-clause-touched g c = λ w front back e at.
    let s = c.self.inside in let n = memory-now g.row.S s.recency s.region s.registry s.counts s.memory c.args.self.now c.self.view_is c.self.invariant.0 c.self.invariant.1 in
    let is = kept-is g.row.S s.recency c.touch.new.region s.registry s.counts c.self-1.given.0 (listed_as ((front ++ back) ++ (w ∷ [])) c.touch.new.region c.args.self.now) (memory-touched g.row.S s.recency s.region c.touch.new.region s.registry s.counts c.args.self.now n c.touch.ensures.elsewhere c.touch.ensures.objects c.touch.ensures.well c.args.r front w back e (at-place s.recency s.region s.registry s.counts c.args.self.now n.held c.args.r w at) c.touch.ensures.touched c.touch.ensures.unset).held in
    is ∙ ap (λ (x : View). listed_as ((front ++ back) ++ (w ∷ [])) x c.args.self.now) (sym (ap (λ (m : Memory). m.region) is))

pub returns-clause-objects : goal.returns-clause-objects
returns-clause-objects g c =
    let s = c.self.inside in let n = memory-now g.row.S s.recency s.region s.registry s.counts s.memory c.args.self.now c.self.view_is c.self.invariant.0 c.self.invariant.1 in
    let q = c.requires in let is = kept-is g.row.S s.recency c.touch.new.region s.registry s.counts c.self-1.given.0 (listed_as ((q.1 ++ q.2) ++ (q.0 ∷ [])) c.touch.new.region c.args.self.now) (memory-touched g.row.S s.recency s.region c.touch.new.region s.registry s.counts c.args.self.now n c.touch.ensures.elsewhere c.touch.ensures.objects c.touch.ensures.well c.args.r q.1 q.0 q.2 q.3 (at-place s.recency s.region s.registry s.counts c.args.self.now n.held c.args.r q.0 q.4) c.touch.ensures.touched c.touch.ensures.unset).held in
    subst (λ (m : Memory). SameObjects c.args.self.now.region m.region) (sym is) (subst (λ (v : View). SameObjects v c.touch.new.region) (sym n.held.region) c.touch.ensures.objects)

pub returns-clause-still : goal.returns-clause-still
returns-clause-still g c =
    let s = c.self.inside in let n = memory-now g.row.S s.recency s.region s.registry s.counts s.memory c.args.self.now c.self.view_is c.self.invariant.0 c.self.invariant.1 in
    let q = c.requires in let is = kept-is g.row.S s.recency c.touch.new.region s.registry s.counts c.self-1.given.0 (listed_as ((q.1 ++ q.2) ++ (q.0 ∷ [])) c.touch.new.region c.args.self.now) (memory-touched g.row.S s.recency s.region c.touch.new.region s.registry s.counts c.args.self.now n c.touch.ensures.elsewhere c.touch.ensures.objects c.touch.ensures.well c.args.r q.1 q.0 q.2 q.3 (at-place s.recency s.region s.registry s.counts c.args.self.now n.held c.args.r q.0 q.4) c.touch.ensures.touched c.touch.ensures.unset).held in
    subst (StandStill Nowhere c.args.self.now) (sym is) (still-listed s.recency s.region c.touch.new.region s.registry s.counts c.args.self.now n.held c.touch.ensures.elsewhere c.touch.ensures.objects c.touch.ensures.well ((q.1 ++ q.2) ++ (q.0 ∷ [])))
