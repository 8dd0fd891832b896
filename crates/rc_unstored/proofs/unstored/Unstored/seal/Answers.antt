use Rattle.std.proofs.Common.{◌≡◌, true, false, [], refl, sym, ◌∙◌, subst}
use Rattle.rc_unstored.specs.Memtables.{HaveWrites}
use Rattle.rc_unstored.proofs.Going.{nothing-kept}
use Rattle.rc_unstored.proofs.Keeping.{both_in, both-sealed}
use Rattle.rc_unstored.proofs.unstored.Unstored.seal.Goals as goal

pub returns-then-is_empty-clause-sealed : goal.returns-then-is_empty-clause-sealed
returns-then-is_empty-clause-sealed g c schema later h =
    subst (λ sealed. HaveWrites schema (both_in g.row.S c.args.self.now.chains sealed c.swap.new.y) later []) (sym c.swap.ensures.x_after)
    (subst (λ active. HaveWrites schema (both_in g.row.S c.args.self.now.chains c.args.self.now.active active) later []) (sym c.swap.ensures.y_after) (both-sealed schema c.args.self.now later h))

pub returns-then-is_empty-clause-swapped : goal.returns-then-is_empty-clause-swapped
returns-then-is_empty-clause-swapped g c schema later h = (c.swap.ensures.x_after, c.swap.ensures.y_after ∙ nothing-kept schema c.args.self.now.sealed c.args.self.now.chains h.sealed)

pub returns-else-is_empty-clause-swapped : goal.returns-else-is_empty-clause-swapped
returns-else-is_empty-clause-swapped g c schema later h =
    let t = (c.is_empty.ensures schema c.args.self.now.chains [] h.sealed).1 refl in
    let f : true ≡ false = sym t ∙ c.if-is_empty.false in absurd (cc)
