-- The places of a block, each unset or a byte, in equal parts: the segments.
use Rattle.std.specs.Prelude.{◌≡◌, ℕ, ◌*◌, ◌≤◌, ◌^◌, List, [], ◌∷◌, length, map, take, drop, slice_index_or, Option, Some}
use Rattle.circular_buffer.specs.Places.{somes}

-- the used places of segment n, where size is a segment's
abbrev pub used_places : ℕ → List ℕ → List (Option ℕ) → ℕ → List (Option ℕ)
used_places size used places n = take (slice_index_or used n 0) (drop (n * size) places)

-- the bytes of each segment, of which so many of the first ones are used
abbrev pub used_bytes : ℕ → List ℕ → List (Option ℕ) → List (List ℕ)
used_bytes size [] places = []
used_bytes size (count ∷ more) places = somes (take count places) ∷ used_bytes size more (drop size places)

-- the block is the segments, and each used place of theirs is set
pub record AreLaid (size : ℕ) (used : List ℕ) (places : List (Option ℕ)) : Type 0 where
  pub total : length places ≡ length used * size
  pub most : (n : ℕ) → slice_index_or used n 0 ≤ size
  pub set : (n : ℕ) → used_places size used places n ≡ map Some (somes (used_places size used places n))
  pub few : length used ≤ 4096
  pub small : size ≤ 2 ^ 27
