-- The orders of tombstones and of cells, of which the greater wins.
use Rattle.std.specs.Prelude.{ℕ, ℤ, Bool, true, false, List, []}
use Rattle.std.specs.declared.cmp.Ordering.{Ordering}
use Rattle.std.specs.Ordering.{nat_cmp, int_cmp, on, then_cmp}
use Rattle.std.specs.Cmp.{IsTotalOrder, on_total, then_total, nat_cmp_total, int_cmp_total}
use Rattle.std.specs.Cmp.Lexicographic.{slice_cmp, nat_list_cmp_total}
use Rattle.rc_cell.specs.declared.writes.Cell.{Cell}
use Rattle.rc_cell.specs.declared.writes.Cell.TheVariants.{Live, Dead}
use Rattle.rc_cell.specs.declared.writes.Tomb.{Tomb}

-- the write timestamp of a cell
abbrev pub timestamp_of : Cell → ℤ
timestamp_of (Live ts value) = ts
timestamp_of (Dead ts dt) = ts

-- whether a cell has a value
abbrev pub is_live_cell : Cell → Bool
is_live_cell (Live ts value) = true
is_live_cell (Dead ts dt) = false

-- the value of a live cell, and no bytes of a dead one
abbrev pub bytes_of : Cell → List ℕ
bytes_of (Live ts value) = value
bytes_of (Dead ts dt) = []

-- the deletion time of a dead cell, and 0 of a live one
abbrev pub deletion_time_of : Cell → ℕ
deletion_time_of (Live ts value) = 0
deletion_time_of (Dead ts dt) = dt

-- a dead cell stands above a live one
abbrev pub rank_of : Cell → ℕ
rank_of (Live ts value) = 0
rank_of (Dead ts dt) = 1

-- tombstones go by timestamp, then by deletion time
abbrev pub tomb_cmp : Tomb → Tomb → Ordering
tomb_cmp = then_cmp (on (λ t. t.ts) int_cmp) (on (λ t. t.dt) nat_cmp)

pub tomb_cmp_total : IsTotalOrder tomb_cmp
tomb_cmp_total = then_total (on_total (λ t. t.ts) int_cmp_total) (on_total (λ t. t.dt) nat_cmp_total)

-- cells go by timestamp; at equal timestamps live before dead, live ones by value and dead ones by deletion time
abbrev pub cell_cmp : Cell → Cell → Ordering
cell_cmp = then_cmp (then_cmp (then_cmp (on timestamp_of int_cmp) (on rank_of nat_cmp)) (on bytes_of (slice_cmp nat_cmp))) (on deletion_time_of nat_cmp)

pub cell_cmp_total : IsTotalOrder cell_cmp
cell_cmp_total =
    then_total (then_total (then_total (on_total timestamp_of int_cmp_total) (on_total rank_of nat_cmp_total)) (on_total bytes_of nat_list_cmp_total)) (on_total deletion_time_of nat_cmp_total)
