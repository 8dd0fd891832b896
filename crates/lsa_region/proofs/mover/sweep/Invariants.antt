use Rattle.std.proofs.Common.{◌≡◌, ◌-◌}
use Rattle.lsa_store.specs.Cells.{extent}
use Rattle.lsa_store.specs.declared.place.Ref.{Ref}
use Rattle.lsa_store.specs.Objects.{cells_of}
use Rattle.lsa_region.specs.calls.Moves.{view_in, IsSweeping}
use Rattle.lsa_region.specs.Region.{IsWell}
use Rattle.lsa_region.proofs.mover.sweep.Given as goal

abbrev pub invariant-loop-offset : goal.invariant-loop-offset
invariant-loop-offset g l = record {
  well : IsWell (view_in l.store l.roots);
  end : l.end ≡ extent (cells_of l.fn.store.cells l.n);
  sweeping : (there : Ref → Ref) × (back : Ref → Ref) × IsSweeping g.row.S (view_in l.fn.store l.fn.roots) (view_in l.store l.roots) l.n l.offset l.moved there back;
}

abbrev pub decreases-loop-offset : goal.decreases-loop-offset
decreases-loop-offset g l = l.end - l.offset
