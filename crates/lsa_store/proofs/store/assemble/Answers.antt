use Rattle.std.proofs.Common.{length, refl, sym, ap, ◌∙◌}
use Rattle.lsa_store.specs.Objects.{object_count}
use Rattle.lsa_store.proofs.Stores.{stored-open, none-counted}
use Rattle.lsa_store.proofs.store.assemble.Goals as goal

pub invariant_of-result : goal.invariant_of-result
invariant_of-result g c =
    let r = c.requires in (
      stored-open g.row.S (length c.args.pool) c.args.yards c.args.pool r.small r.even refl r.few r.some r.usages r.active r.sound r.yards,
      r.active,
      sym (ap object_count r.yards ∙ none-counted (length c.args.pool)),
    )
