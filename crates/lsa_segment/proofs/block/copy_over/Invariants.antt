use Rattle.std.proofs.Common.{◌≡◌, take, drop}
use Rattle.circular_buffer.specs.Places.{somes}
use Rattle.lsa_segment.specs.calls.Places.{written_places}
use Rattle.lsa_segment.proofs.block.copy_over.Given as goal

abbrev pub invariant-loop-index : goal.invariant-loop-index
invariant-loop-index l = record {
  start : l.bytes.at ≡ l.fn.bytes.at;
  after : l.bytes.bytes ≡ written_places l.fn.bytes.bytes l.to (take l.index (somes (take l.len (drop l.from l.fn.bytes.bytes))));
}
