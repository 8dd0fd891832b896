use Rattle.std.proofs.Common.{get_or, [], ◌≡◌, ◌-◌, ◌≤◌, ◌⊎◌, Some}
use Rattle.std.specs.Prelude.{IsSome}
use Rattle.lsa_yard.specs.Cells.{Cell, cell_at, extent}
use Rattle.lsa_yard.proofs.yards.Yards.has.Given as goal

abbrev pub invariant-loop-at : goal.invariant-loop-at
invariant-loop-at g l = record {
  stands : (l.at ≡ extent (get_or l.self l.n [])) ⊎ IsSome (cell_at (get_or l.self l.n []) l.at);
  end : l.end ≡ extent (get_or l.self l.n []);
  passed : (c : Cell) → cell_at (get_or l.self l.n []) l.offset ≡ Some c → l.at ≤ l.offset;
}

abbrev pub decreases-loop-at : goal.decreases-loop-at
decreases-loop-at g l = l.end - l.at
