-- Parts of a list of bytes.
use Rattle.std.specs.Prelude.{ℕ, ◌+◌, List, ◌++◌, length, take, drop}

-- the bytes from the offset on
abbrev pub part : ℕ → ℕ → List ℕ → List ℕ
part offset len bytes = take len (drop offset bytes)

-- the list with these bytes in the place of as many from the offset on
abbrev pub overwritten : List ℕ → ℕ → List ℕ → List ℕ
overwritten old offset bytes = take offset old ++ (bytes ++ drop (offset + length bytes) old)
