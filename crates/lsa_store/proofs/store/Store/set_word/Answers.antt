use Rattle.std.proofs.Common.{◌∙◌}
use Rattle.lsa_store.proofs.Calls.{linked-store}
use Rattle.lsa_store.proofs.store.Store.set_word.Goals as goal

pub invariant_of-self : goal.invariant_of-self
invariant_of-self g c =
    let i = c.self.inside in
    let r = linked-store g.row.S i.yards i.pool c.args.self.now c.self.invariant.0 c.self.view_is c.args.r c.args.field c.args.value c.set_link.new.self c.requires c.set_link.ensures in
    (r.0, c.self.invariant.1, c.self.invariant.2 ∙ r.1)
