-- As many slots are there as before, and if one was made, their bound is as great as one more slot makes it.
use Rattle.std.proofs.Common.{◌≡◌, ◌+◌, ◌<◌}
use Rattle.std.specs.Prelude.{max}
use Rattle.lsa_region.specs.Region.{slots_of}
use Rattle.lsa_bench.proofs.works.change_slots.Given as goal

abbrev pub invariant-loop-changed : goal.invariant-loop-changed
invariant-loop-changed l =
    let old = slots_of l.fn.region in let new = slots_of l.region in
    (new.there ≡ old.there) × (max new.bound (old.there + 1) ≡ max old.bound (old.there + 1)) × (0 < l.changed → new.bound ≡ max old.bound (old.there + 1))
