use Rattle.std.proofs.Common.{sym, ap, is_some, ◌∙◌}
use Rattle.std.proofs.lemmas.Bool.{eq-eqb}
use Rattle.lsa_bench.specs.Works.{length_of}
use Rattle.lsa_bench.proofs.Moved.{size-moved}
use Rattle.lsa_bench.proofs.works.stays_over_a_move.Goals as goal

pub size_of-requires : goal.size_of-requires
size_of-requires c = c.held-after.ensures.live

pub returns-clause-stays : goal.returns-clause-stays
returns-clause-stays c = let v = c.args.region.now in let w = c.compact_one.new.region in let moved = c.compact_one.ensures.renamed in
    eq-eqb c.size_of-size.result c.size_of.result
    (c.size_of-size.ensures ∙ ap (length_of v) c.held-before.ensures.held ∙ sym (size-moved v w moved.0 c.args.slot c.known.ensures.well moved.1) ∙ ap (length_of w) (sym c.held-after.ensures.held) ∙ sym c.size_of.ensures)

pub returns-clause-same : goal.returns-clause-same
returns-clause-same c = λ none. c.compact_one.ensures.same (c.compact_one.ensures.tells ∙ ap is_some none)
