use Rattle.std.proofs.Common.{◌≢◌, sym, subst, arith}
use Rattle.lsa_region.specs.declared.end.End.TheVariants.{Obj}
use Rattle.lsa_region.specs.Paired.{IsExchanged}
use Rattle.lsa_region.specs.Region.{link_of, IsEnd}
use Rattle.lsa_tree.proofs.Severed.{loosened-door, cut-asks, cut-unlink, cut-is}
use Rattle.lsa_tree.proofs.removal.cut.Goals as goal

pub door-at-requires : goal.door-at-requires
door-at-requires g c = (omega arith, loosened-door c.args.region.now c.known.ensures.well c.args.side c.args.r c.requires)

pub exchange-requires : goal.exchange-requires
exchange-requires g c =
    let v = c.args.region.now in let at = c.door-at.result in
    (omega arith, subst (λ f. IsEnd v at × (IsEnd v (Obj c.args.r f) × (at ≢ Obj c.args.r f))) (sym c.near.ensures) (cut-asks v c.known.ensures.well c.args.side c.args.r c.requires at c.door-at.ensures))

pub unlink-requires : goal.unlink-requires
unlink-requires g c =
    let v = c.args.region.now in let at = c.door-at.result in let m = c.exchange.new.self in
    let exchanged = subst (λ f. IsExchanged (link_of v) (link_of m) at (Obj c.args.r f)) c.near.ensures c.exchange.ensures.exchanged in
    (omega arith, cut-unlink v c.known.ensures.well c.args.side c.args.r c.requires at c.door-at.ensures m c.exchange.ensures.well exchanged c.exchange.ensures.objects)

pub returns-clause-cut : goal.returns-clause-cut
returns-clause-cut g c = λ l.
    let v = c.args.region.now in let at = c.door-at.result in let m = c.exchange.new.self in
    let exchanged = subst (λ f. IsExchanged (link_of v) (link_of m) at (Obj c.args.r f)) c.near.ensures c.exchange.ensures.exchanged in
    cut-is v c.known.ensures.well c.args.side c.args.r l at c.door-at.ensures m c.exchange.ensures.well exchanged c.exchange.ensures.objects c.unlink.new.self c.unlink.result c.unlink.ensures.mate c.unlink.ensures.parted c.unlink.ensures.objects
