-- Counts of calls and of faults, kept in 64 bits.
use Rattle.std.specs.Prelude.{ℕ, ◌+◌, ◌-◌, ◌^◌, ◌≤◌, min, ⊤, Result, IfErr, OnErr}
use Rattle.rc_outside.specs.declared.sources.Failed.{Failed}
use Rattle.rc_outside.specs.declared.stores.StoreErr.{StoreErr}
use Rattle.rc_outside.specs.declared.stores.StoreErr.TheVariants.{Fault, NoMemory}

-- one more than the count, which stays at its end, 2^64 - 1
abbrev pub raised_count : ℕ → ℕ
raised_count count = min (count + 1) (2 ^ 64 - 1)

-- the count of faults rose: it is greater than before, or stands at its end, 2^64 - 1
abbrev pub Rose : ℕ → ℕ → Type 0
Rose before now = raised_count before ≤ now

-- the count of faults of an end that never fails
abbrev pub no_faults : ℕ
no_faults = 0

-- the count of faults does not fall, and rose where the call failed
abbrev pub RisesIfFailed : {T : Type 0} → Result T Failed → (before now : ℕ) → Type 0
RisesIfFailed result before now = (before ≤ now) × OnErr result (Rose before now)

-- so much holds of an error that is a fault
abbrev pub OnFault : StoreErr → Type 0 → Type 0
OnFault Fault P = P
OnFault NoMemory _ = ⊤

-- the count of faults does not fall, and rose where the call answers an error that is a fault, as the first argument says of its kind of error
abbrev pub RisesIfFault : {T E : Type 0} → (E → Type 0 → Type 0) → Result T E → (before now : ℕ) → Type 0
RisesIfFault IfFault result before now = (before ≤ now) × IfErr result (λ e. IfFault e (Rose before now))
