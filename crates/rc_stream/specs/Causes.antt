-- Why a call of a stream was refused, and what that says of its store.
use Rattle.std.specs.Prelude.{◌≡◌, ℕ, ◌≤◌, Option, None, Result, Ok, Err}
use Rattle.rc_outside.specs.Faults.{Rose}
use Rattle.rc_outside.specs.Files.{Files}
use Rattle.rc_stream.specs.declared.streams.StreamErr.{StreamErr}
use Rattle.rc_stream.specs.declared.streams.StreamErr.TheVariants.{Fault, Damaged, NoMemory}

-- the count of the store's faults does not fall; at Fault it rose; Damaged comes only where the store does not tell its files
abbrev pub Caused : {T : Type 0} → Result T StreamErr → Option Files → (before now : ℕ) → Type 0
Caused (Ok _) files before now = before ≤ now
Caused (Err Fault) files before now = (before ≤ now) × Rose before now
Caused (Err (Damaged file offset)) files before now = (before ≤ now) × (files ≡ None)
Caused (Err NoMemory) files before now = before ≤ now
