-- What a machine counts, and the figures that it tells.
--     is_answered     a command read from a partition, and was answered
--     counted_answer  the counts of answers after one more
--     figures_in      the figures that a reply tells
--     NoneFell        no counter fell
--     AreFresh        the figures of a machine that was opened just now
--     AreCounted      what a command does to the figures
use Rattle.std.specs.Prelude.{◌≡◌, ◌-◌, ◌≤◌, ℕ, Bool, true, false, cond, nat_eq, Option, Some, None, IfSome}
use Rattle.rc_outside.specs.Faults.{raised_count}
use Rattle.rc_lines.specs.declared.commands.Command.{Command}
use Rattle.rc_lines.specs.declared.commands.Command.TheVariants.{OpenRead, Read, Stats}
use Rattle.rc_lines.specs.declared.commands.Figures.{Figures}
use Rattle.rc_lines.specs.declared.commands.Reply.{Reply}
use Rattle.rc_lines.specs.declared.commands.Reply.TheVariants as replies
use Rattle.rc_folder.specs.declared.counts.Answered.{Answered}

-- whether a command read from a partition, and its reply is no refusal
abbrev pub is_answered : Command → Reply → Bool
is_answered (OpenRead id key slice) replies.Fine = true
is_answered (Read id count) (replies.Given lines more) = true
is_answered command reply = false

-- the counts after a reply to a command for which the store was asked so often before and after it: a hit where an answer asked the store for nothing, else a miss
abbrev pub counted_answer : Command → Reply → ℕ → ℕ → Answered → Answered
counted_answer command reply before after a =
    cond (is_answered command reply) (cond (nat_eq before after) (record a { hits = raised_count a.hits }) (record a { misses = raised_count a.misses })) a

-- the counts of answers among figures
abbrev pub answered_of : Figures → Answered
answered_of f = record { hits = f.hits; misses = f.misses }

-- no counter is less than it was
pub record NoneFell (old new : Figures) : Type 0 where
  pub hits : old.hits ≤ new.hits
  pub misses : old.misses ≤ new.misses
  pub evicted : old.evicted ≤ new.evicted
  pub moved : old.moved ≤ new.moved
  pub skipped : old.skipped ≤ new.skipped

-- the figures that a reply to `stats` tells
abbrev pub figures_in : Command → Reply → Option Figures
figures_in Stats (replies.Stats figures) = Some figures
figures_in command reply = None

-- What a machine tells of itself, by how often the store was asked. Of one that was opened when it had been asked so often: no answer is counted yet, and asks are counted from there.
pub record AreFresh (opened : ℕ) (figures : ℕ → Figures) : Type 0 where
  pub hits : (figures opened).hits ≡ 0
  pub misses : (figures opened).misses ≡ 0
  pub asks : (n : ℕ) → (figures n).asks ≡ n - opened

-- A command was answered, before and after which the store had been asked so often: its answer is counted, no counter fell, asks are counted from where they were, and `stats` tells the figures as they stood.
pub record AreCounted (command : Command) (reply : Reply) (before after : ℕ) (old new : ℕ → Figures) : Type 0 where
  pub answered : answered_of (new after) ≡ counted_answer command reply before after (answered_of (old before))
  pub none_fell : NoneFell (old before) (new after)
  pub asks : (n : ℕ) → (new n).asks ≡ (old n).asks
  pub told : IfSome (figures_in command reply) (λ figures. figures ≡ old before)
