use Rattle.lsa_region.specs.calls.Moves.{view_in, IsCarrying}
use Rattle.lsa_region.specs.Region.{IsWell}
use Rattle.lsa_region.proofs.mover.carry_links.Given as goal

abbrev pub invariant-loop-field : goal.invariant-loop-field
invariant-loop-field g l = record { carried : IsCarrying (view_in l.fn.store l.fn.roots) (view_in l.store l.roots) l.r l.q l.field; well : IsWell (view_in l.store l.roots) }
