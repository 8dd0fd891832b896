-- What calls keep, and what a reply tells.
use Rattle.std.specs.Prelude.{◌≡◌, Option}
use Rattle.rc_outside.specs.Files.{Files}
use Rattle.rc_stream.specs.declared.streams.StreamErr.{StreamErr}
use Rattle.rc_stream.specs.declared.streams.StreamErr.TheVariants as stream_err
use Rattle.rc_lines.specs.declared.commands.Refusal.TheVariants.{Damaged, ReadFault}
use Rattle.rc_lines.specs.declared.commands.Reply.{Reply}
use Rattle.rc_lines.specs.declared.commands.Reply.TheVariants as replies
use Rattle.rc_lookup.specs.LetGo.{NoCountFell}
use Rattle.rc_machine.specs.State.{State}
use Rattle.rc_shard.specs.declared.shard.Shard.{Shard}

-- what stood for a state stands for it
abbrev pub StandsForTheSame : {K : Type 0} → (Option Files → K → State → Type 0) → K → K → Type 0
StandsForTheSame stands old new = (files : Option Files) (m : State) → stands files old m → stands files new m

-- the counts of answers are as they were, and so is the budget; no count of the chains fell
pub record CountsStay (old new : Shard) : Type 0 where
  pub answered : new.answered ≡ old.answered
  pub segments : new.segments ≡ old.segments
  pub asked : new.asked ≡ old.asked
  pub none_fell : NoCountFell old.unstored.chains new.unstored.chains

-- a reply tells why what the tables say could not be read
abbrev pub TellsOf : StreamErr → Reply → Type 0
TellsOf stream_err.Fault reply = reply ≡ replies.Refused ReadFault
TellsOf (stream_err.Damaged file offset) reply = reply ≡ replies.Refused (Damaged file offset)
TellsOf stream_err.NoMemory reply = ⊥
