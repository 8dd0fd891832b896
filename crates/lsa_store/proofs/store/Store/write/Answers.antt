use Rattle.std.proofs.Common.{◌∙◌}
use Rattle.lsa_store.proofs.Calls.{written-store}
use Rattle.lsa_store.proofs.store.Store.write.Goals as goal

pub invariant_of-self : goal.invariant_of-self
invariant_of-self g c =
    let i = c.self.inside in
    let r = written-store g.row.S i.yards i.pool c.args.self.now c.self.invariant.0 c.self.view_is c.args.r c.args.from c.args.bytes.now c.write.new.self c.requires c.write.ensures in
    (r.0, c.self.invariant.1, c.self.invariant.2 ∙ r.1)
