-- What is left spells what is left of the fragments, and what was read spells the rest.
use Rattle.std.proofs.Common.{◌≡◌, ◌++◌, length}
use Rattle.std.specs.List.{flat_map, AllByRecursion}
use Rattle.rc_tables.specs.calls.Rebuilt.{IsSpellable, frag_code}
use Rattle.rc_tables.proofs.Spelled.{Going}
use Rattle.rc_tables.proofs.decoding.read_fragments.Given as goal

abbrev pub invariant-loop-left : goal.invariant-loop-left
invariant-loop-left l = record {
  going : Going l.fn.bytes l.made.items l.left;
  spelled : AllByRecursion IsSpellable l.made.items;
  text : l.fn.bytes ≡ flat_map frag_code l.made.items ++ l.left;
}

abbrev pub decreases-loop-left : goal.decreases-loop-left
decreases-loop-left l = length l.left
