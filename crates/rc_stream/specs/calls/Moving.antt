-- What a step leaves of what is held, and of the stream of a merge.
use Rattle.std.specs.Prelude.{◌≡◌, ⊤, Option, Some, None, Result, Ok, Err}
use Rattle.rc_position.specs.declared.positions.Pos.{Pos}
use Rattle.rc_mutation.specs.declared.fragments.Frag.{Frag}
use Rattle.rc_stream.specs.declared.holding.Look.{Look}
use Rattle.rc_stream.specs.declared.holding.Look.TheVariants as look
use Rattle.rc_stream.specs.declared.holding.Step.{Step}
use Rattle.rc_stream.specs.declared.holding.Step.TheVariants as step
use Rattle.rc_stream.specs.Stream.{Stream, first_upto, took}
use Rattle.rc_stream.specs.declared.streams.StreamErr.{StreamErr}
use Rattle.rc_stream.specs.calls.Holding.{StepReaches}

-- what was looked at, after a fragment was taken from the stream, if one was
abbrev pub look_after : Option Frag → Look → Look
look_after None l = l
look_after (Some f) look.Open = look.Next f
look_after (Some f) (look.Over z) = look.Past z f
look_after (Some f) (look.Next g) = look.Next f
look_after (Some f) (look.Past z g) = look.Past z f

-- what a step makes of the stream of a merge: nothing stands up to x; a change was passed over; or the first was taken, which stands there
abbrev pub StepSays : Step → Pos → Stream → Stream → Type 0
StepSays step.Nothing x s now = (now ≡ s) × (first_upto x s.left ≡ None)
StepSays step.Passed x s now = now ≡ s
StepSays (step.Given f) x s now = (first_upto x s.left ≡ Some f) × (now ≡ took (Some f) s)

-- what a step leaves of the stream of a merge, where this holds of what is left; a refused one leaves it as it was
abbrev pub StepLeaves : Result Step StreamErr → Pos → Stream → (Stream → Type 0) → Type 0
StepLeaves (Ok step.Nothing) x s now = now s × (first_upto x s.left ≡ None)
StepLeaves (Ok step.Passed) x s now = now s
StepLeaves (Ok (step.Given f)) x s now = now (took (Some f) s) × (first_upto x s.left ≡ Some f)
StepLeaves (Err e) x s now = now s

-- x is not before the fragment that a step gave, if it gave one; any x where it was refused
abbrev pub RoundReaches : Result Step StreamErr → Pos → Type 0
RoundReaches (Ok s) x = StepReaches s x
RoundReaches (Err e) x = ⊤
