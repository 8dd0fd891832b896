-- The chain loses its versions one by one.
use Rattle.std.specs.Prelude.{◌≡◌}
use Rattle.lsa_pool.specs.Room.{spare_of}
use Rattle.rc_memory.specs.Memory.{chain_at}
use Rattle.rc_chain.proofs.Idle.{IsDroppingIdle, versions_of}
use Rattle.rc_chain.proofs.chains.Chains.drop_idle.Given as goal

abbrev pub invariant-loop-self : goal.invariant-loop-self
invariant-loop-self g l = IsDroppingIdle l.id l.fn.self l.self × (spare_of g.row.S l.self.region.usages ≡ spare_of g.row.S l.fn.self.region.usages)

abbrev pub decreases-loop-self : goal.decreases-loop-self
decreases-loop-self g l = versions_of (chain_at l.self l.id)
