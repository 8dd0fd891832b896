use Rattle.std.proofs.Common.{◌≡◌, take}
use Rattle.lsa_segment.specs.calls.Places.{written_places}
use Rattle.lsa_segment.proofs.block.put.Given as goal

abbrev pub invariant-loop-index : goal.invariant-loop-index
invariant-loop-index l = record {
  start : l.bytes.at ≡ l.fn.bytes.at;
  after : l.bytes.bytes ≡ written_places l.fn.bytes.bytes l.from (take l.index l.source);
}
