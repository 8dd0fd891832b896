use Rattle.std.proofs.Common.{ℕ, List, ap, ◌∙◌}
use Rattle.rc_entries.specs.Found.{entry_number}
use Rattle.rc_entries.specs.Invalidated.{partition_keys}
use Rattle.rc_entries.proofs.Invalidating.{relabelled-leaves, without-found}
use Rattle.rc_entries.proofs.Leaving.{leaves-entries, leaves-settled}
use Rattle.rc_entries.proofs.entries.Entries.invalidate.Goals as goal

pub returns-clause-gone : goal.returns-clause-gone
returns-clause-gone g c = c.detach_each.ensures.gone

pub returns-clause-found : goal.returns-clause-found
returns-clause-found g c = λ q. ap (λ (es : List (List ℕ × ℕ)). entry_number es q) c.detach_each.ensures.gone ∙ without-found (partition_keys c.args.parts.now) c.args.self.now q c.known.ensures.ascend

pub returns-clause-invalidated : goal.returns-clause-invalidated
returns-clause-invalidated g c = record { between = c.detach_each.new.chains; gone = c.detach_each.ensures.detached; others = c.relabel.ensures.relabelled }

pub returns-clause-entries : goal.returns-clause-entries
returns-clause-entries g c = λ a. leaves-entries c.detach_each.new.self c.detach_each.new.chains c.relabel.new.self (relabelled-leaves c.args.phase c.detach_each.new.chains c.relabel.new.self c.relabel.ensures.relabelled) (c.detach_each.ensures.entries a)

pub returns-clause-settled : goal.returns-clause-settled
returns-clause-settled g c = λ a. leaves-settled c.detach_each.new.self c.detach_each.new.chains c.relabel.new.self c.relabel.ensures.relabelled.dropped (c.detach_each.ensures.settled a)

pub returns-clause-spare : goal.returns-clause-spare
returns-clause-spare g c = c.relabel.ensures.spare ∙ c.detach_each.ensures.spare
