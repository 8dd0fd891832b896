-- A memtable's stream is still that of its snapshot; and what stands for streams stays, with them what is merged of them.
use Rattle.std.proofs.Common.{◌≡◌, inl, inr, Option, Some, None, MatchOption, refl, sym, subst, ◌∙◌}
use Rattle.std.specs.Option.{IfSome}
use Rattle.rc_position.specs.declared.positions.Pos.{Pos}
use Rattle.rc_memory.specs.Memory.{Memory}
use Rattle.rc_chain.specs.declared.chains.Snap.{Snap}
use Rattle.rc_stream.specs.declared.merges.Merge.{Merge}
use Rattle.rc_stream.specs.Both.{AfterDue, HoldBoth, SoughtBoth}
use Rattle.rc_stream.specs.Did.{ReachesEnd}
use Rattle.rc_stream.specs.Stream.{Stream}
use Rattle.rc_cursor.specs.declared.readers.SnapshotReader.{SnapshotReader}
use Rattle.rc_cacheread.specs.declared.readers.CacheReader.{CacheReader}
use Rattle.rc_snapshots.specs.declared.fillers.NoFiller.{NoFiller}
use Rattle.rc_snapshots.specs.Seeing.{HasSnap, StillSees}
use Rattle.rc_snapshots.specs.Streams.{IsOf}
use Rattle.rc_paging.specs.declared.memtables.MemtableStream.{MemtableStream}
use Rattle.rc_paging.specs.Memtables.{IsOfMemtable}

pub still_of : (r : MemtableStream) (t : CacheReader SnapshotReader Stream NoFiller) (m n : Memory) → n ≡ m → ((s : Snap) → IsOf s r.stream → IsOf s t) → IsOfMemtable m r → IsOfMemtable n (record { stream = t })
still_of r t m n home did is = (let of = did r.stream.known.snap is.of in record {
  there = subst (HasSnap n) (sym of.snap) (subst (λ k. HasSnap k r.stream.known.snap) (sym home) is.there);
  of = subst (λ s. IsOf s t) (sym of.snap) of;
})

-- an end that is reached of what this stands for is reached of what that does
pub reached : (P Q : Stream → Type 0) (x y : Pos) → ((s : Stream) → P s → Q s) → ReachesEnd P x y → ReachesEnd Q x y
reached P Q x y h (inl r) = inl r
reached P Q x y h (inr r) = inr (r.0, h r.0 r.1, r.2)

-- a snapshot that sees what it saw is of a memtable's chain still
pub stays_of : (r : MemtableStream) (m n : Memory) → StillSees r.stream.known.snap m n → IsOfMemtable m r → IsOfMemtable n r
stays_of r m n same is = record { there = record { pin = same.pin; kind = same.kind ∙ is.there.kind }; of = is.of }

-- what stands for a stream over one home and store does over others
abbrev pub Stays : {X H W : Type 0} → (X → H → W → Stream → Type 0) → X → H → W → H → W → Type 0
Stays seen x h w g v = (s : Stream) → seen x h w s → seen x g v s

module _ {A B H W : Type 0} (seen : A → H → W → Stream → Type 0) (seen' : B → H → W → Stream → Type 0) (m : Merge A B) (h : H) (w : W) (g : H) (v : W) (ours : Stays seen m.ours.stream h w g v) (theirs : Stays seen' m.theirs.stream h w g v) where
  hold : (s : Stream) → HoldBoth seen seen' m h w s → HoldBoth seen seen' m g v s
  hold s b = record {
    ours = b.ours;
    theirs = b.theirs;
    first = record { stream = b.first.stream; stands = ours b.first.stream b.first.stands; fits = b.first.fits; same = b.first.same };
    second = record { stream = b.second.stream; stands = theirs b.second.stream b.second.stands; fits = b.second.fits; same = b.second.same };
    joins = b.joins;
  }

  after : (due : Option Pos) (P Q : Stream → Type 0) → ((s : Stream) → P s → Q s) → (s : Stream) → AfterDue due P s → AfterDue due Q s
  after None P Q h s d = h s d
  after (Some x) P Q h s d = (d.0, h d.0 d.1, d.2)

  pub sought : Stays (SoughtBoth seen seen') m h w g v
  sought s d = after m.due (HoldBoth seen seen' m h w) (HoldBoth seen seen' m g v) hold s d

-- where there is one, what holds of it stays
pub some_stays : {X : Type 0} (P Q : X → Type 0) (o : Option X) → ((x : X) → o ≡ Some x → P x → Q x) → IfSome o P → IfSome o Q
some_stays P Q None h p = p
some_stays P Q (Some x) h p = h x refl p

pub match_stays : {X : Type 0} (N : Type 0) (P Q : X → Type 0) (o : Option X) → ((x : X) → o ≡ Some x → P x → Q x) → MatchOption o N P → MatchOption o N Q
match_stays N P Q None h p = p
match_stays N P Q (Some x) h p = h x refl p
