-- Lists of a column's number and what is kept of it.
use Rattle.std.specs.Prelude.{ℕ, Bool, List}
use Rattle.std.specs.Ordering.{nat_cmp}
use Rattle.std.specs.FinMap.{is_sorted}

-- whether the columns strictly ascend
abbrev pub ascending : {X : Type 0} → List (ℕ × X) → Bool
ascending cells = is_sorted nat_cmp cells
