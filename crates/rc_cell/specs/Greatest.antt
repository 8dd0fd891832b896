-- What `greatest` gives in a total order in which only equal values tie.
use Rattle.std.specs.Prelude.{Option, Some, None, cond}
use Rattle.std.specs.declared.cmp.Ordering.{Ordering}
use Rattle.std.specs.Ordering.{is_lt}

-- the greater of two values, where there are any
abbrev pub greater : {K : Type 0} → (K → K → Ordering) → Option K → Option K → Option K
greater R None y = y
greater R (Some x) None = Some x
greater R (Some x) (Some y) = Some (cond (is_lt (R x y)) y x)
