use Rattle.std.proofs.Common.{sym, ◌∙◌, arith}
use Rattle.lsa_region.specs.Ends.{named_in, IsEndIn}
use Rattle.lsa_region.specs.laws.Exchanges.{exchanged, exchanged-tied, all-some}
use Rattle.lsa_region.proofs.links.exchange.Goals as goal

pub point-requires : goal.point-requires
point-requires g c = (
  omega arith,
  (
    c.requires.first,
    (
      all-some (IsEndIn c.args.store.now.cells c.args.roots.now) c.named-second.result (λ e is. c.requires.mates c.args.b e (sym c.named-second.ensures ∙ is)),
      (λ e. c.names.ensures.no c.if-not-names.true (c.named-first.ensures ∙ c.requires.paired.mates c.args.b c.args.a (sym c.named-second.ensures ∙ e))),
    ),
  ),
)

pub point-requires-then-not-names : goal.point-requires-then-not-names
point-requires-then-not-names g c = (
  omega arith,
  (
    c.point.ensures.ends c.args.b c.requires.second,
    (
      all-some (IsEndIn c.point.new.store.cells c.point.new.roots) c.named-first.result (λ e is. c.point.ensures.ends e (c.requires.mates c.args.a e (sym c.named-first.ensures ∙ is))),
      (λ e. c.names.ensures.no c.if-not-names.true e),
    ),
  ),
)

pub returns-then-not-names-clause-exchanged : goal.returns-then-not-names-clause-exchanged
returns-then-not-names-clause-exchanged g c =
    let old = named_in c.args.store.now.cells c.args.roots.now in let a = c.args.a in let b = c.args.b in let one = c.named-first.ensures in let two = c.named-second.ensures in let p = c.point.ensures in let q = c.point-then-not-names.ensures in
    exchanged old (named_in c.point.new.store.cells c.point.new.roots) (named_in c.point-then-not-names.new.store.cells c.point-then-not-names.new.roots) a b c.requires.paired c.requires.differ (λ e. c.names.ensures.no c.if-not-names.true (one ∙ e))
    (p.here ∙ two) (λ m e. p.mates m (two ∙ e)) (λ e ne free. p.others e ne (λ is. free (sym two ∙ is)))
    (q.here ∙ one) (λ m e. q.mates m (one ∙ e)) (λ e ne free. q.others e ne (λ is. free (sym one ∙ is)))

pub returns-else-not-names-clause-exchanged : goal.returns-else-not-names-clause-exchanged
returns-else-not-names-clause-exchanged g c =
    exchanged-tied (named_in c.args.store.now.cells c.args.roots.now) c.args.a c.args.b c.requires.paired c.requires.differ (sym c.named-first.ensures ∙ c.names.ensures.yes c.if-not-names.false)
