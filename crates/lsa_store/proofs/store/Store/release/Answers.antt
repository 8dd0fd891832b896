use Rattle.std.proofs.Common.{ap, ◌∙◌}
use Rattle.lsa_pool.specs.Room.{active_room}
use Rattle.lsa_store.specs.Stored.{Stored}
use Rattle.lsa_store.proofs.Calls.{released-store, released-room}
use Rattle.lsa_store.proofs.store.Store.release.Goals as goal

pub invariant_of-self : goal.invariant_of-self
invariant_of-self g c =
    let i = c.self.inside in let e = c.give.ensures in
    let r = released-store g.row.S i.yards i.pool c.args.self.now c.self.invariant.0 c.self.view_is c.args.n c.clear.new.self c.requires.closed c.requires.empty c.clear.ensures c.give.new.self e.after e.active e.sound in
    (r.0, e.active ∙ c.self.invariant.1, c.self.invariant.2 ∙ r.1)

pub returns-clause-room : goal.returns-clause-room
returns-clause-room g c =
    let i = c.self.inside in let e = c.give.ensures in
    released-room g.row.S i.yards i.pool c.args.self.now c.self.invariant.0 c.self.view_is c.args.n c.requires.closed c.give.new.self e.after e.active ∙ ap (λ (v : Stored). active_room g.row.S v.usages) c.self.view_is
