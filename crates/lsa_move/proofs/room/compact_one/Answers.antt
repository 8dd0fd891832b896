use Rattle.std.proofs.Common.{sym, ◌∙◌}
use Rattle.lsa_region.specs.laws.Names.{renamed-same}
use Rattle.lsa_move.proofs.Tightness.{tight-none, tight-not}
use Rattle.lsa_move.proofs.room.compact_one.Goals as goal

pub returns-in-Some-clause-loose : goal.returns-in-Some-clause-loose
returns-in-Some-clause-loose g c = λ _ tight. tight-not g.row.S c.in-Some.n c.args.region.now.usages (sym c.sparse.ensures ∙ c.in-Some.is) tight

pub returns-in-None-clause-tight : goal.returns-in-None-clause-tight
returns-in-None-clause-tight g c = λ _. tight-none g.row.S c.args.region.now.usages (sym c.sparse.ensures ∙ c.in-None.is)

pub returns-in-Some-clause-renamed : goal.returns-in-Some-clause-renamed
returns-in-Some-clause-renamed g c = let e = c.evacuate.ensures.emptied in (e.0, e.1.renamed)

pub returns-in-None-clause-renamed : goal.returns-in-None-clause-renamed
returns-in-None-clause-renamed g c = renamed-same c.args.region.now c.known.ensures.well
