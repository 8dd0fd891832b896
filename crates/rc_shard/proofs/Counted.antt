-- What a shard counts and tells.
use Rattle.std.proofs.Common.{◌≡◌, ◌+◌, ◌-◌, ◌≤◌, ℕ, List, length, Result, Ok, Err, IfOk, IfSome, refl, ap, subst, ◌∙◌, arith}
use Rattle.std.specs.Global.{Vec}
use Rattle.std.proofs.lemmas.List.Sums.{count_by-le-length}
use Rattle.lsa_pool.specs.declared.Usage.{Usage}
use Rattle.lsa_pool.specs.Room.{free_count, is_state_free}
use Rattle.rc_lines.specs.declared.commands.Command.{Command}
use Rattle.rc_lines.specs.declared.commands.Reply.{Reply}
use Rattle.rc_lookup.specs.NoMore.{counts-same}
use Rattle.rc_folder.specs.Counting.{AreCounted, counted_answer, figures_in}
use Rattle.rc_folder.specs.declared.counts.Answered.{Answered}
use Rattle.rc_shard.specs.declared.readers.PartitionReader.{PartitionReader}
use Rattle.rc_shard.specs.declared.shard.Shard.{Shard}
use Rattle.rc_shard.specs.Counting.{figures_of}
use Rattle.rc_shard.specs.calls.Keeping.{CountsStay}

pub if-ok-all : {A E : Type 0} (r : Result A E) (Q : A → Type 0) → ((x : A) → Q x) → IfOk r Q
if-ok-all (Ok x) Q all = all x
if-ok-all (Err e) Q all = tt

-- nothing is counted where nothing is done
pub counts-itself : (k : Shard) → CountsStay k k
counts-itself k = record { answered = refl; segments = refl; asked = refl; none_fell = counts-same k.unstored.chains k.unstored.chains refl refl }

-- what is counted is counted whether there is room for one more reader or not
pub counts-reserved : (k : Shard) (readers : Vec (ℕ × PartitionReader)) (l : Shard) → CountsStay (record k { readers = readers }) l → CountsStay k l
counts-reserved k readers l c = record { answered = c.answered; segments = c.segments; asked = c.asked; none_fell = c.none_fell }

-- no more segments are free than there are
pub make-budget : (us : List Usage) (segments budget : ℕ) → budget ≡ segments → length us ≡ budget → (segments - free_count us) + free_count us ≡ budget
make-budget us segments budget same many = let le : free_count us ≤ length us = count_by-le-length (λ (u : Usage). is_state_free u.state) us in omega (arith, same, many, le)

-- an answer is counted behind a step
pub are-counted : (command : Command) (reply : Reply) (before after : ℕ) (k mid : Shard) (a : Answered) → CountsStay k mid → a ≡ counted_answer command reply before after mid.answered → mid.answered.hits ≤ a.hits → mid.answered.misses ≤ a.misses →
    IfSome (figures_in command reply) (λ figures. figures ≡ figures_of k before) → AreCounted command reply before after (figures_of k) (figures_of (record mid { answered = a }))
are-counted command reply before after k mid a stay is hits misses told = record {
  answered = is ∙ ap (counted_answer command reply before after) stay.answered;
  none_fell = record {
    hits = subst (λ (x : Answered). x.hits ≤ a.hits) stay.answered hits;
    misses = subst (λ (x : Answered). x.misses ≤ a.misses) stay.answered misses;
    evicted = stay.none_fell.evicted;
    moved = stay.none_fell.moved;
    skipped = stay.none_fell.skipped;
  };
  asks = λ n. ap (λ m. n - m) stay.asked;
  told = told;
}
