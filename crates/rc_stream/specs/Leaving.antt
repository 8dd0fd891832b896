-- What a call leaves of a stream.
use Rattle.std.specs.Prelude.{Option, Result, Ok, Err}
use Rattle.rc_position.specs.declared.positions.Pos.{Pos}
use Rattle.rc_mutation.specs.declared.fragments.Frag.{Frag}
use Rattle.rc_stream.specs.declared.streams.StreamErr.{StreamErr}
use Rattle.rc_stream.specs.Stream.{Stream, sought_stream, took}

-- what a call for the next leaves: the stream without what was given, and the same stream where it was refused
abbrev pub left_by : Result (Option Frag) StreamErr → Stream → Stream
left_by (Ok got) stream = took got stream
left_by (Err e) stream = stream

-- what a seek leaves: the stream sought to the position, and the same stream where it was refused
abbrev pub sought_by : Result (Unit {0}) StreamErr → Pos → Stream → Stream
sought_by (Ok _) x stream = sought_stream x stream
sought_by (Err e) x stream = stream
