use Rattle.std.proofs.Common.{sym, ap, ◌∙◌, arith}
use Rattle.lsa_region.specs.declared.end.End.TheVariants.{Obj}
use Rattle.lsa_region.specs.Codes.{end_of}
use Rattle.lsa_region.specs.Ends.{named_in}
use Rattle.lsa_region.specs.laws.Exchanges.{exchanged-unset}
use Rattle.lsa_region.proofs.Movers.{links-apart}
use Rattle.lsa_region.proofs.mover.carry_link.Goals as goal

pub exchange-requires : goal.exchange-requires
exchange-requires g c = (omega arith, (c.requires.first, (c.requires.second, (links-apart c.args.r c.args.q c.args.field c.requires.differ, (c.requires.well.paired, c.requires.well.ends)))))

pub returns-then-word-eq0-2-clause-exchanged : goal.returns-then-word-eq0-2-clause-exchanged
returns-then-word-eq0-2-clause-exchanged g c =
    exchanged-unset (named_in c.args.store.now.cells c.args.roots.now) (Obj c.args.r c.args.field) (Obj c.args.q c.args.field) c.requires.well.paired
    (ap end_of (sym c.word.ensures ∙ c.if-word-eq0.true)) (ap end_of (sym c.word-then-word-eq0.ensures ∙ c.if-word-eq0-2.true))
