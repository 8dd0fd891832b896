use Rattle.std.proofs.Common.{arith}
use Rattle.rc_filler.proofs.Leaving.{done-budget, done-counts}
use Rattle.rc_filler.proofs.laws.a_fill_takes_no_segment.Goals as goal

pub returns : goal.returns
returns c =
    let fill = c.a_fill_changes_the_newest_version_alone.ensures in
    record {
      budget = λ S f g m n did. done-budget fill.others fill.here fill.older S f.chain f.pin m n did.done;
      counts = λ S f g m n did evicted skipped. done-counts fill.others fill.here fill.older S f.chain f.pin m n did.done (record { evicted = omega (arith, evicted); skipped = omega (arith, skipped) });
    }
