use Rattle.std.proofs.Common.{◌≡◌, List}
use Rattle.std.specs.Prelude.{Contains}
use Rattle.lsa_store.specs.declared.place.Ref.{Ref}
use Rattle.lsa_region.specs.declared.end.End.{End}
use Rattle.lsa_region.specs.Region.{link_of, IsWell}
use Rattle.rc_core.specs.declared.entries.Entry.{Entry}
use Rattle.rc_core.specs.Version.{Version}
use Rattle.rc_version.specs.Versions.{IsKeptBeside, mark_after}
use Rattle.rc_version.specs.calls.Stretch.{IsMarking}
use Rattle.rc_version.proofs.stretch.mark_stretch.Given as goal

abbrev pub invariant-loop-steps : goal.invariant-loop-steps
invariant-loop-steps g l = record {
  marking : (all : List Ref) (c : Version) (target : List Entry) → IsMarking l.fn.region l.v l.fn.first l.last (mark_after l.marking) all c target 0 → IsMarking l.region l.v l.passed l.last (mark_after l.marking) all c target l.steps;
  kept : (all : List Ref) (c : Version) (target : List Entry) → IsMarking l.fn.region l.v l.fn.first l.last (mark_after l.marking) all c target 0 → IsKeptBeside (Contains all) l.v l.fn.region l.region;
  usages : l.region.usages ≡ l.fn.region.usages;
  links : (e : End) → link_of l.region e ≡ link_of l.fn.region e;
  well : IsWell l.region;
}
