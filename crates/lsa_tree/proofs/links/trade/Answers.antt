use Rattle.lsa_tree.proofs.Traded.{traded-is}
use Rattle.lsa_tree.proofs.links.trade.Goals as goal

pub returns-clause-traded : goal.returns-clause-traded
returns-clause-traded g c = traded-is c.args.region.now c.exchange.new.self c.exchange-2.new.self c.exchange-3.new.self c.set_balance.new.region c.set_balance-2.new.region c.args.r c.args.q c.requires.differ
    c.exchange.ensures.exchanged c.exchange-2.ensures.exchanged c.exchange-3.ensures.exchanged c.exchange.ensures.objects c.exchange-2.ensures.objects c.exchange-3.ensures.objects
    c.balance-second.result c.balance-first.result c.balance-second.ensures c.balance-first.ensures c.set_balance.ensures.written c.set_balance-2.ensures.written
