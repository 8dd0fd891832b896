use Rattle.lsa_region.specs.Region.{link_of}
use Rattle.lsa_tree.proofs.Traded.{turned-is}
use Rattle.lsa_tree.proofs.links.turn.Goals as goal

pub returns-clause-turned : goal.returns-clause-turned
returns-clause-turned g c = turned-is (link_of c.args.region.now) (link_of c.exchange.new.self) (link_of c.exchange-2.new.self) c.args.side c.args.at c.args.y c.args.x
    c.near.result c.far.result c.near.ensures c.far.ensures c.exchange.ensures.exchanged c.exchange-2.ensures.exchanged
