-- A stream that is still that of its snapshot.
use Rattle.std.proofs.Common.{◌≡◌, inl, inr, MatchOption, Option, Some, None, subst}
use Rattle.rc_position.specs.declared.positions.Pos.{Pos}
use Rattle.rc_chain.specs.declared.chains.Snap.{Snap}
use Rattle.rc_stream.specs.Did.{ReachesEnd}
use Rattle.rc_stream.specs.Stream.{Stream}
use Rattle.rc_snapshots.specs.Streams.{IsOf}
use Rattle.rc_opened.specs.Written.{IsStreamOf, OfSnapshot}

pub same : (r t : OfSnapshot) → ((s : Snap) → IsOf s r → IsOf s t) → (snap : Option Snap) → IsStreamOf snap (Some r) → IsStreamOf snap (Some t)
same r t h None is = absurd is
same r t h (Some s) is = h s is

-- what holds where there is one holds of it
pub at_some : {X : Type 0} (A : Type 0) (P : X → Type 0) (o : Option X) (x : X) → o ≡ Some x → MatchOption o A P → P x
at_some A P o x e h = subst (λ p. MatchOption p A P) e h

-- an end that is reached of a stream of something is reached of that
pub reached : (P Q : Stream → Type 0) (x y : Pos) → ((s : Stream) → P s → Q s) → ReachesEnd P x y → ReachesEnd Q x y
reached P Q x y h (inl r) = inl r
reached P Q x y h (inr r) = inr (r.0, h r.0 r.1, r.2)
