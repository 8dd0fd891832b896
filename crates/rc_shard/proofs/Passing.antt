-- What a read passed is known to its reader's snapshot.
use Rattle.std.proofs.Common.{◌≡◌, ℕ, Bool, List, Option, Some, None, get_or, sym, subst}
use Rattle.std.specs.Prelude.{IfSome, drop, ⊤}
use Rattle.rc_position.specs.declared.positions.Pos.{Pos}
use Rattle.rc_query.specs.declared.lines.OutLine.{OutLine}
use Rattle.rc_memory.specs.Memory.{Member, Memory, listed_as}
use Rattle.rc_chain.specs.declared.chains.Snap.{Snap}
use Rattle.rc_folder.specs.declared.counts.Answered.{Answered}
use Rattle.rc_lines.specs.declared.commands.Command.{Command}
use Rattle.rc_lines.specs.declared.commands.Command.TheVariants as commands
use Rattle.rc_lines.specs.declared.commands.Command.TheVariants.{Read}
use Rattle.rc_lines.specs.declared.commands.Reply.{Reply}
use Rattle.rc_lines.specs.declared.commands.Reply.TheVariants as replies
use Rattle.rc_machine.specs.State.{Reader, State, reader_of, rest_of}
use Rattle.rc_paging.specs.declared.forms.PartReader.{PartReader}
use Rattle.rc_paging.specs.declared.forms.PartReader.TheVariants.{Cached, Past}
use Rattle.rc_paging.specs.Forms.{ByForm}
use Rattle.rc_paging.specs.Pages.{IsPageKnown, IsStretchKnown, page_end}
use Rattle.rc_shard.specs.declared.readers.PartitionReader.{PartitionReader}
use Rattle.rc_shard.specs.declared.shard.Shard.{Shard}
use Rattle.rc_shard.specs.Filling.{IsPassedAsTold}
use Rattle.rc_shard.specs.Knowing.{IsReadCached}
use Rattle.rc_shard.specs.calls.Reading.{IsTouchedPast}
use Rattle.rc_shard.proofs.Given.{IsGiven}
use Rattle.rc_shard.proofs.Places.{IsPlace}
use Rattle.rc_shard.proofs.Rereading.{reader-at, same-some}

-- ---- what a page passed

-- over chains of which only the recency list and the region are others
moved : (old new : Memory) (recency : List Member) (x y : Pos) (s : Snap) → new ≡ listed_as recency new.region old → IsStretchKnown old x y s → IsStretchKnown new x y s
moved old new recency x y s same h = subst (λ (m : Memory). IsStretchKnown m x y s) (sym same) (record { static_row = h.static_row; each = h.each })

module _ (old new : Memory) (recency : List Member) (same : new ≡ listed_as recency new.region old) where
  by-snap : (x y : Pos) (h : Option Snap) → IfSome h (IsStretchKnown old x y) → IfSome h (IsStretchKnown new x y)
  by-snap x y None p = tt
  by-snap x y (Some s) p = moved old new recency x y s same p

  by-form : (count : ℕ) (lines : List OutLine) (p : PartReader) → ByForm (λ c. IsPageKnown old c count lines) (λ _. ⊤) p → ByForm (λ c. IsPageKnown new c count lines) (λ _. ⊤) p
  by-form count lines (Cached c) h = by-snap c.remainder.slice.from (page_end (drop count lines) c.remainder.slice) c.held.cached h
  by-form count lines (Past c) h = tt

-- a page was given, and its rows became the most recent ones
pub passed-given : (id count at : ℕ) (d : ℕ × PartitionReader) (lines : List OutLine) (more : Bool) (reply : Reply) (m : State) (k k' : Shard) → IsPlace id k.readers.items at → get_or k.readers.items at d ≡ d → reply ≡ replies.Given lines more → IsGiven d lines k k' →
    ((r : Reader) → reader_of id m ≡ Some r → IsReadCached k count d.1 r) → IsPassedAsTold m (Read id count) reply k k'
passed-given id count at d lines more reply m k k' p here is given passed = subst (λ (x : Reply). IsPassedAsTold m (Read id count) x k k') (sym is) (λ o r found entry over.
    let same : o ≡ d.1 = same-some o d.1 _ found (reader-at id at d k.readers.items p here) in
    subst (λ (x : PartitionReader). IsReadCached k' count x r) (sym same)
    (by-form k.unstored.chains k'.unstored.chains k'.unstored.chains.recency given.touched.same count (rest_of r) d.1.reader (passed r entry)))

-- past the row cache nothing is said
pub passed-past : (id count : ℕ) (x : PartitionReader) (reply : Reply) (m : State) (k k' : Shard) → IsTouchedPast id x reply k' → IsPassedAsTold m (Read id count) reply k k'
passed-past id count x replies.Nothing m k k' t = tt
passed-past id count x replies.Fine m k k' t = tt
passed-past id count x replies.Going m k k' t = tt
passed-past id count x replies.Done m k k' t = tt
passed-past id count x (replies.Stats f) m k k' t = tt
passed-past id count x (replies.Refused r) m k k' t = tt
passed-past id count x (replies.Given lines more) m k k' t = λ o r found entry over. absurd (over t.0)

-- what is told of answers is told of the same shard
pub passed-counted : (m : State) (k l : Shard) (answered : Answered) (command : Command) (reply : Reply) → IsPassedAsTold m command reply k l → IsPassedAsTold m command reply k (record l { answered = answered })
passed-counted m k l answered commands.Nothing reply h = tt
passed-counted m k l answered (commands.SetSchema schema) reply h = tt
passed-counted m k l answered (commands.Put w) reply h = tt
passed-counted m k l answered (commands.OpenRead id key slice) reply h = tt
passed-counted m k l answered (commands.Read id count) replies.Nothing h = tt
passed-counted m k l answered (commands.Read id count) replies.Fine h = tt
passed-counted m k l answered (commands.Read id count) replies.Going h = tt
passed-counted m k l answered (commands.Read id count) replies.Done h = tt
passed-counted m k l answered (commands.Read id count) (replies.Stats f) h = tt
passed-counted m k l answered (commands.Read id count) (replies.Refused r) h = tt
passed-counted m k l answered (commands.Read id count) (replies.Given lines more) h = h
passed-counted m k l answered (commands.Close id) reply h = tt
passed-counted m k l answered commands.Flush reply h = tt
passed-counted m k l answered commands.FlushBegin reply h = tt
passed-counted m k l answered (commands.FlushStep count) reply h = tt
passed-counted m k l answered (commands.Evict count) reply h = tt
passed-counted m k l answered (commands.Compact count) reply h = tt
passed-counted m k l answered (commands.Clean count) reply h = tt
passed-counted m k l answered commands.Stats reply h = tt
