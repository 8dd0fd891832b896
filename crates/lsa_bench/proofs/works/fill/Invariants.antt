-- So many dummies were made, of 88 bytes each.
use Rattle.std.proofs.Common.{◌≡◌, ◌+◌, ◌*◌}
use Rattle.lsa_region.specs.Region.{live_bytes, objects}
use Rattle.lsa_bench.proofs.works.fill.Given as goal

abbrev pub invariant-loop-made : goal.invariant-loop-made
invariant-loop-made l = (objects l.region ≡ objects l.fn.region + l.made) × (live_bytes l.region ≡ live_bytes l.fn.region + 88 * l.made)
