-- What says one thing before a position and another from there on.
--     IsSpliced             a mutation that says before a position what one says, and from there on what another says
--     SameSourceBefore      two lists of writes say the same before a position
--     SameSourceFrom        two lists of writes say the same from a position on
use Rattle.std.specs.Prelude.{◌≡◌, List, [], ◌∷◌}
use Rattle.rc_position.specs.declared.positions.Pos.{Pos}
use Rattle.rc_position.specs.Position.{IsBefore}
use Rattle.rc_mutation.specs.declared.mutations.Mutation.{Mutation}
use Rattle.rc_mutation.specs.Source.{IsMutation, source_at, source_at_head, source_at_static}
use Rattle.rc_stream.specs.Places.{Reaches}

-- A mutation is spliced of two at x: its partition tombstone and its static row are those of the first; at each position before x it says what the
-- first says there, and at x and each position behind it what the second says there.
pub record IsSpliced (x : Pos) (first second spliced : Mutation) : Type 0 where
  pub is_mutation : IsMutation spliced
  pub pt : spliced.pt ≡ first.pt
  pub statics : spliced.statics ≡ first.statics
  pub before : (y : Pos) → IsBefore y x → source_at (spliced ∷ []) y ≡ source_at (first ∷ []) y
  pub from : (y : Pos) → Reaches x y → source_at (spliced ∷ []) y ≡ source_at (second ∷ []) y

-- a mutation with the partition tombstone and the static row of another in place of its own
abbrev pub with_head_of : Mutation → Mutation → Mutation
with_head_of other m = record m { pt = other.pt; statics = other.statics }

-- two lists of writes say the same at the head, at the static row, and at each position before x
pub record SameSourceBefore (x : Pos) (changes others : List Mutation) : Type 0 where
  pub head : source_at_head changes ≡ source_at_head others
  pub statics : source_at_static changes ≡ source_at_static others
  pub clustered : (y : Pos) → IsBefore y x → source_at changes y ≡ source_at others y

-- two lists of writes say the same at the head, whose tombstone covers each row, and at x and each position behind it
pub record SameSourceFrom (x : Pos) (changes others : List Mutation) : Type 0 where
  pub head : source_at_head changes ≡ source_at_head others
  pub clustered : (y : Pos) → Reaches x y → source_at changes y ≡ source_at others y
