use Rattle.std.proofs.Common.{◌+◌, ap, ◌∙◌, arith}
use Rattle.lsa_store.proofs.Stores.{few-objects}
use Rattle.lsa_store.proofs.Calls.{put-store, put-count}
use Rattle.lsa_store.proofs.store.Store.put.Goals as goal

pub overflow_add-self : goal.overflow_add-self
overflow_add-self g c = let i = c.self.inside in omega (arith, c.self.invariant.2, few-objects g.row.S (record { cells = i.yards; usages = i.pool }) c.self.invariant.0)

pub invariant_of-self : goal.invariant_of-self
invariant_of-self g c =
    let i = c.self.inside in let s = c.self.invariant.0 in let kind = c.args.kind in let bytes = c.args.bytes.now in
    let pushed = c.push-offset.ensures.after in (
      put-store g.row.S i.yards i.pool c.args.self.now s c.self.view_is i.active c.push-offset.new.self kind bytes c.args.size c.self.invariant.1 c.requires.size c.requires.fits pushed c.credit.new.self c.credit.ensures.after c.credit.ensures.active c.credit.ensures.sound,
      c.credit.ensures.active ∙ c.self.invariant.1,
      ap (λ k. k + 1) c.self.invariant.2
          ∙ put-count g.row.S i.yards i.pool c.args.self.now s c.self.view_is i.active c.push-offset.new.self kind bytes c.args.size c.self.invariant.1 c.requires.size c.requires.fits pushed c.credit.new.self c.credit.ensures.after c.credit.ensures.active c.credit.ensures.sound,
    )
