-- How a stream and what is held of it go together over a home and a store.
use Rattle.std.specs.Prelude.{◌≡◌, ◌⊎◌, ℕ, zero, suc, None}
use Rattle.rc_position.specs.declared.positions.Pos.{Pos}
use Rattle.rc_stream.specs.declared.holding.Look.TheVariants as look
use Rattle.rc_stream.specs.declared.lists.Front.TheVariants as front
use Rattle.rc_stream.specs.Places.{Reaches}
use Rattle.rc_stream.specs.Stream.{Stream}
use Rattle.rc_stream.specs.declared.holding.Held.{Held}
use Rattle.rc_stream.specs.declared.parts.Peeked.{Peeked}
use Rattle.rc_stream.specs.Holding.{HeldFits, IsFrom, whole}

-- nothing is held
abbrev pub nothing_held : Held
nothing_held = record { front = front.Passed None; look = look.Open }

-- a stream of which nothing is held
abbrev pub unpeeked_stream : {A : Type 0} → A → Peeked A
unpeeked_stream a = record { stream = a; held = nothing_held }

-- a home and a store are as they were, or as a call made them
abbrev pub Once : {H W : Type 0} → (H → W → H → W → Type 0) → H → W → H → W → Type 0
Once {H} {W} moves h w g v = ((h ≡ g) × (w ≡ v)) ⊎ moves h w g v

-- each position from x on that is not before what was taken is ahead of the stream
abbrev pub MaySeek : {A : Type 0} → (A → Pos → Type 0) → Peeked A → Pos → Type 0
MaySeek ahead p x = (y : Pos) → Reaches x y → IsFrom p.held.look y → ahead p.stream y

-- one of these streams, with what is held put back before it, is this whole one
pub record IsPutBack (P : Stream → Type 0) (h : Held) (all : Stream) : Type 0 where
  pub stream : Stream
  pub stands : P stream
  pub fits : HeldFits h stream
  pub same : all ≡ whole h stream

-- a stream with what is held of it stands for this whole one
abbrev pub Holds : {A H W : Type 0} → (A → H → W → Stream → Type 0) → Peeked A → H → W → Stream → Type 0
Holds seen p h w all = IsPutBack (seen p.stream h w) p.held all

-- a step of one of two kinds
abbrev pub Either : {H W : Type 0} → (P Q : H → W → H → W → Type 0) → H → W → H → W → Type 0
Either P Q h w g v = P h w g v ⊎ Q h w g v

-- so many calls, one after another
abbrev pub Moves : {H W : Type 0} → (H → W → H → W → Type 0) → ℕ → H → W → H → W → Type 0
Moves moves zero h w g v = (h ≡ g) × (w ≡ v)
Moves {H} {W} moves (suc n) h w g v = (k : H) × (u : W) × moves h w k u × Moves moves n k u g v

-- what any number of calls of two parts may make of a home and a store
abbrev pub Moved : {H W : Type 0} → (P Q : H → W → H → W → Type 0) → H → W → H → W → Type 0
Moved P Q h w g v = (n : ℕ) × Moves (Either P Q) n h w g v

-- what calls of one part may make of home and store leaves another one standing
abbrev pub Keeps : {H W X : Type 0} → (H → W → H → W → Type 0) → (X → H → W → Type 0) → Type 0
Keeps {H} {W} {X} moves stands = (t : X) (h : H) (w : W) (g : H) (v : W) → moves h w g v → stands t h w → stands t g v

-- what calls of one part may make of home and store leaves each stream that another one stands for
abbrev pub KeepsSeen : {H W X : Type 0} → (H → W → H → W → Type 0) → (X → H → W → Stream → Type 0) → Type 0
KeepsSeen {H} {W} {X} moves seen = (t : X) (s : Stream) (h : H) (w : W) (g : H) (v : W) → moves h w g v → seen t h w s → seen t g v s
