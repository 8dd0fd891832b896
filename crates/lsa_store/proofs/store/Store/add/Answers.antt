use Rattle.std.proofs.Common.{subst, arith}
use Rattle.lsa_store.specs.Stock.{IsTaken}
use Rattle.lsa_store.specs.laws.Books.{taken}
use Rattle.lsa_store.proofs.store.Store.add.Goals as goal

pub returns-clause-taken : goal.returns-clause-taken
returns-clause-taken g c =
    let us = c.args.self.now.usages in let m = c.make_room.ensures in let size = c.object_size-size.ensures in
    subst (λ k. IsTaken g.row.S us c.put.new.self.usages k) size
    (taken g.row.S c.object_size-size.result c.put.result.segment us c.make_room.new.self.usages c.put.new.self.usages c.self.invariant.0.even (omega (arith, c.requires.fits, size)) m.turned m.budget m.live m.closed c.put.ensures.credited)
