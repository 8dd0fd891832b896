-- Each time or never there was no room.
use Rattle.lsa_bench.proofs.Moved.{IsAsked}
use Rattle.lsa_bench.proofs.works.ask.Given as goal

abbrev pub invariant-loop-asked : goal.invariant-loop-asked
invariant-loop-asked l = IsAsked 4096 3584 l.fn.region l.region l.asked l.full
