-- What is read of a file that is looked at from its start on.
use Rattle.std.specs.Prelude.{◌≡◌, ℕ, ◌+◌, ◌-◌, ◌/◌, ◌≤◌, List, ◌++◌, length, drop, Option, ◌⊎◌}
use Rattle.rc_outside.specs.Files.{Files, IsFile, IsSizeOf}
use Rattle.rc_tfile.specs.Checking.{IsContent}

-- a file's number and length, how many of its bytes are read, and those of them that are not yet looked at
pub record ReadAhead : Type 0 where
  pub number : ℕ
  pub size : ℕ
  pub read : ℕ
  pub ahead : List ℕ

-- at least as many bytes as an item has
abbrev pub largest : ℕ
largest = 65541

-- an item, or all that is left of the file, is ahead
abbrev pub IsItemAhead : ReadAhead → Type 0
IsItemAhead w = (w.read ≡ w.size) ⊎ (largest ≤ length w.ahead)

-- of a file with these bytes the front was looked at, and what is ahead follows it
pub record IsAhead (content front : List ℕ) (w : ReadAhead) : Type 0 where
  pub unread : List ℕ
  pub whole : content ≡ front ++ (w.ahead ++ unread)
  pub size : w.size ≡ length content
  pub read : w.read ≡ length front + length w.ahead

-- the same of the file that a store tells
abbrev pub IsAheadIn : Option Files → List ℕ → ReadAhead → Type 0
IsAheadIn files front w = (content : List ℕ) → IsContent files w.number content → IsAhead content front w

-- a file that is there, and its length, where the files are told
abbrev pub IsOpen : Option Files → ReadAhead → Type 0
IsOpen files w = IsFile files w.number × IsSizeOf files w.number w.size

-- the same file, of whose bytes ahead so many more were looked at
abbrev pub looked_past : ℕ → ReadAhead → ReadAhead
looked_past count w = record { number = w.number; size = w.size; read = w.read; ahead = drop count w.ahead }

-- how many bytes are not yet looked at
abbrev pub bytes_left : ReadAhead → ℕ
bytes_left w = w.size - w.read + length w.ahead

-- how many reads are left: each takes 65541 bytes, and the last one what is left
unfoldable pub reads_left : ReadAhead → ℕ
reads_left w = (w.size - w.read + 65540) / 65541
