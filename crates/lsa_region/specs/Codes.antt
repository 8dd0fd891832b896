-- How a link tells in one number which end it names.
use Rattle.std.specs.Prelude.{ℕ, zero, suc, ◌*◌, ◌/◌, ◌%◌, cond, nat_eq, Option, Some, None}
use Rattle.lsa_region.specs.declared.end.End.{End}
use Rattle.lsa_region.specs.declared.end.End.TheVariants.{Obj, Slot}

-- the end that the two halves of a number tell
abbrev pub end_in : ℕ → ℕ → Option End
end_in zero low = None
end_in (suc n) low = cond (nat_eq (suc n) 4294967295) (Some (Slot (record { number = low }))) (Some (Obj (record { segment = n; offset = low / 256 * 8 }) (low % 256)))

-- the end that a number tells
abbrev pub end_of : ℕ → Option End
end_of code = end_in (code / 4294967296) (code % 4294967296)
