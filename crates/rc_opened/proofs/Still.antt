-- Where what the parts of a merge stand for stays, what the merge stands for stays, and what is left to a reader of it.
use Rattle.std.proofs.Common.{◌≡◌, Option, Some, None, MatchOption, refl}
use Rattle.std.specs.Option.{IfSome}
use Rattle.rc_position.specs.declared.positions.Pos.{Pos}
use Rattle.rc_stream.specs.declared.merges.Merge.{Merge}
use Rattle.rc_stream.specs.Both.{AfterDue, HoldBoth, SoughtBoth}
use Rattle.rc_stream.specs.Stream.{Stream}

-- what stands for a stream over one home and store does over others
abbrev pub Stays : {X H W : Type 0} → (X → H → W → Stream → Type 0) → X → H → W → H → W → Type 0
Stays seen x h w g v = (s : Stream) → seen x h w s → seen x g v s

module _ {A B H W : Type 0} (seen : A → H → W → Stream → Type 0) (seen' : B → H → W → Stream → Type 0) (m : Merge A B) (h : H) (w : W) (g : H) (v : W) (ours : Stays seen m.ours.stream h w g v) (theirs : Stays seen' m.theirs.stream h w g v) where
  hold : (s : Stream) → HoldBoth seen seen' m h w s → HoldBoth seen seen' m g v s
  hold s b = record {
    ours = b.ours;
    theirs = b.theirs;
    first = record { stream = b.first.stream; stands = ours b.first.stream b.first.stands; fits = b.first.fits; same = b.first.same };
    second = record { stream = b.second.stream; stands = theirs b.second.stream b.second.stands; fits = b.second.fits; same = b.second.same };
    joins = b.joins;
  }

  after : (due : Option Pos) (P Q : Stream → Type 0) → ((s : Stream) → P s → Q s) → (s : Stream) → AfterDue due P s → AfterDue due Q s
  after None P Q h s d = h s d
  after (Some x) P Q h s d = (d.0, h d.0 d.1, d.2)

  pub sought : Stays (SoughtBoth seen seen') m h w g v
  sought s d = after m.due (HoldBoth seen seen' m h w) (HoldBoth seen seen' m g v) hold s d

-- where there is one, what holds of it stays
pub some_stays : {X : Type 0} (P Q : X → Type 0) (o : Option X) → ((x : X) → o ≡ Some x → P x → Q x) → IfSome o P → IfSome o Q
some_stays P Q None h p = p
some_stays P Q (Some x) h p = h x refl p

pub match_stays : {X : Type 0} (A : Type 0) (P Q : X → Type 0) (o : Option X) → ((x : X) → o ≡ Some x → P x → Q x) → MatchOption o A P → MatchOption o A Q
match_stays A P Q None h p = p
match_stays A P Q (Some x) h p = h x refl p
