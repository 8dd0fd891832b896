use Rattle.std.proofs.Common.{◌-◌, ap, ◌∙◌}
use Rattle.lsa_store.proofs.Calls.{killed-store, killed-count, killed-given}
use Rattle.lsa_store.proofs.store.Store.kill.Goals as goal

pub invariant_of-self : goal.invariant_of-self
invariant_of-self g c =
    let i = c.self.inside in let e = c.debit.ensures in (
      killed-store g.row.S i.yards i.pool c.args.self.now c.self.invariant.0 c.self.view_is c.args.r c.kill.new.self c.requires c.kill.ensures c.debit.new.self c.size_at-size.result c.size_at-size.ensures
          e.after e.active e.free e.live e.sound,
      e.active ∙ c.self.invariant.1,
      ap (λ k. k - 1) c.self.invariant.2
          ∙ killed-count g.row.S i.yards i.pool c.args.self.now c.self.invariant.0 c.self.view_is c.args.r c.kill.new.self c.requires c.kill.ensures c.debit.new.self c.size_at-size.result c.size_at-size.ensures
          e.after e.active e.free e.live e.sound,
    )

pub returns-clause-given : goal.returns-clause-given
returns-clause-given g c =
    let i = c.self.inside in let e = c.debit.ensures in
    killed-given g.row.S i.yards i.pool c.args.self.now c.self.invariant.0 c.self.view_is c.args.r c.kill.new.self c.requires c.kill.ensures c.debit.new.self c.size_at-size.result c.size_at-size.ensures
    e.after e.active e.free e.live e.sound
