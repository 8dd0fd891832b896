-- What a push of a piece did to the bytes that a sink has written, where it tells them, and to its count of faults.
use Rattle.std.specs.Prelude.{◌≡◌, ℕ, List, ◌++◌, Option, Result, Ok, Err}
use Rattle.std.specs.Io.KnownBytes.{Appends, Keeps}
use Rattle.rc_outside.specs.declared.sinks.SinkErr.{SinkErr}
use Rattle.rc_outside.specs.declared.sinks.SinkErr.TheVariants.{Failed, NoMemory}
use Rattle.rc_outside.specs.Faults.{Rose}

-- the written bytes grew by a front of the piece, maybe none or all of it
abbrev pub AppendsFront : (old new : Option (List ℕ)) (piece : List ℕ) → Type 0
AppendsFront old new piece = (front : List ℕ) × (back : List ℕ) × (piece ≡ front ++ back) × Appends old new front

-- at Ok the written bytes grew by the piece; at Failed by a front of it, and the count of faults rose; at NoMemory they stay
abbrev pub Pushed : (old new : Option (List ℕ)) (before now : ℕ) (piece : List ℕ) → Result (Unit {0}) SinkErr → Type 0
Pushed old new before now piece (Ok _) = Appends old new piece × (now ≡ before)
Pushed old new before now piece (Err Failed) = AppendsFront old new piece × Rose before now
Pushed old new before now piece (Err NoMemory) = Keeps old new × (now ≡ before)
