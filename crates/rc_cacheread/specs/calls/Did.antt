-- What one step of a reader leaves.
use Rattle.std.specs.Prelude.{◌≡◌, Result, Ok, Err, IsTrue, ⊤}
use Rattle.rc_position.specs.declared.positions.Pos.{Pos}
use Rattle.rc_stream.specs.Stream.{Stream, first_upto, is_upto, took}
use Rattle.rc_stream.specs.declared.streams.StreamErr.{StreamErr}
use Rattle.std.specs.Prelude.{Some, None}
use Rattle.rc_cacheread.specs.declared.spots.Step.{Step}
use Rattle.rc_cacheread.specs.declared.spots.Step.TheVariants as step

-- what a step leaves, where this holds of the stream: nothing stands up to x; or something was read; or the first was given, which stands there
abbrev pub ReaderStepSays : Result Step StreamErr → Pos → Stream → (Stream → Type 0) → Type 0
ReaderStepSays (Ok step.Nothing) x s now = now s × (first_upto x s.left ≡ None)
ReaderStepSays (Ok step.Passed) x s now = now s
ReaderStepSays (Ok (step.Given f)) x s now = now (took (Some f) s) × (first_upto x s.left ≡ Some f)
ReaderStepSays (Err e) x s now = now s

-- what a step gave stands at x or before it
abbrev pub IsReaderStepUpto : Pos → Step → Type 0
IsReaderStepUpto x step.Nothing = ⊤
IsReaderStepUpto x step.Passed = ⊤
IsReaderStepUpto x (step.Given f) = IsTrue (is_upto x f)
