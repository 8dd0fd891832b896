-- A block once bytes are written into it.
use Rattle.std.specs.Prelude.{ℕ, ◌+◌, List, ◌++◌, length, map, take, drop, Option, Some}

-- the places with these bytes in as many of them, from the index on
abbrev pub written_places : List (Option ℕ) → ℕ → List ℕ → List (Option ℕ)
written_places places from bytes = take from places ++ (map Some bytes ++ drop (from + length bytes) places)
