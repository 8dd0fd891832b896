-- The slot is there, and so many steps were done.
use Rattle.lsa_region.specs.declared.end.End.TheVariants.{Slot}
use Rattle.lsa_region.specs.Region.{IsEnd}
use Rattle.lsa_bench.specs.Works.{StepsDone}
use Rattle.lsa_bench.proofs.works.move_all.Given as goal

abbrev pub invariant-loop-made : goal.invariant-loop-made
invariant-loop-made l = IsEnd l.region (Slot l.slot) × StepsDone l.made l.fn.region l.region
