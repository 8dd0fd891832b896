use Rattle.std.proofs.Common.{◌≡◌, ◌+◌}
use Rattle.lsa_region.specs.Region.{slots_of}
use Rattle.lsa_bench.proofs.works.keep_slots.Given as goal

abbrev pub invariant-loop-made : goal.invariant-loop-made
invariant-loop-made l = (slots_of l.region).there ≡ (slots_of l.fn.region).there + l.made
