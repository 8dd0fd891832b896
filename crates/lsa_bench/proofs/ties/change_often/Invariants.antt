use Rattle.std.proofs.Common.{◌≡◌}
use Rattle.lsa_region.specs.declared.end.End.{End}
use Rattle.lsa_region.specs.Region.{link_of, IsEnd}
use Rattle.lsa_bench.proofs.ties.change_often.Given as goal

abbrev pub invariant-loop-changed : goal.invariant-loop-changed
invariant-loop-changed l = record {
  links : (e : End) → link_of l.region e ≡ link_of l.fn.region e;
  first : IsEnd l.region l.a;
  second : IsEnd l.region l.b;
}
