-- What the host answers of one file, as it is heard.
use Rattle.std.specs.Prelude.{◌≡◌, ◌≢◌, ℕ, true, Result, Ok, Err}
use Rattle.std.specs.IoError.{error_kind}
use Rattle.std.specs.Fs.{new_options, with_write, with_create, with_truncate}
use Rattle.std.specs.declared.fs.options.OpenOptions.{OpenOptions}
use Rattle.std.specs.declared.io.Error.{Error}
use Rattle.std.specs.declared.io.ErrorKind.TheVariants.{OutOfMemory}
use Rattle.rc_outside.specs.declared.sources.Failed.{Failed}
use Rattle.rc_outside.specs.declared.stores.StoreErr.{StoreErr}
use Rattle.rc_outside.specs.declared.stores.StoreErr.TheVariants.{Fault, NoMemory}
use Rattle.rc_outside.specs.Faults.{raised_count}

-- to be written from its start: made where it is not there, and emptied where it is
abbrev pub made_afresh : OpenOptions
made_afresh = with_truncate (with_create (with_write new_options true) true) true

-- The host's error as a store tells it: want of memory exactly where the host says so, and a fault else, which is counted.
abbrev pub IsToldAs : Error → StoreErr → (before now : ℕ) → Type 0
IsToldAs error NoMemory before now = (error_kind error ≡ OutOfMemory) × (now ≡ before)
IsToldAs error Fault before now = (error_kind error ≢ OutOfMemory) × (now ≡ raised_count before)

-- what the host answered, as a store tells it, with its count of faults
abbrev pub Heard : {T : Type 0} → Result T Error → Result T StoreErr → (before now : ℕ) → Type 0
Heard (Ok value) answer before now = (answer ≡ Ok value) × (now ≡ before)
Heard (Err error) (Err told) before now = IsToldAs error told before now
Heard (Err error) (Ok _) before now = ⊥

-- what the host answered, where each of its errors is told as a fault, with the count of faults
abbrev pub HeardOrFailed : {T : Type 0} → Result T Error → Result T Failed → (before now : ℕ) → Type 0
HeardOrFailed (Ok value) answer before now = (answer ≡ Ok value) × (now ≡ before)
HeardOrFailed (Err error) (Err _) before now = now ≡ raised_count before
HeardOrFailed (Err error) (Ok _) before now = ⊥
