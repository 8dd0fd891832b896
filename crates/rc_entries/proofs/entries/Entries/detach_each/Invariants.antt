-- The entries of the partitions so far are taken out, and their chains detached.
use Rattle.rc_entries.proofs.Invalidating.{IsTakingOut}
use Rattle.rc_entries.proofs.entries.Entries.detach_each.Given as goal

abbrev pub invariant-loop-part : goal.invariant-loop-part
invariant-loop-part g l = IsTakingOut g.row.S l.parts l.part-index l.fn.self l.self l.fn.chains l.chains
