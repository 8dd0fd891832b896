-- What a store keeps, where it tells it: its files by number, and the file that is being built.
use Rattle.std.specs.Prelude.{◌≡◌, ℕ, ◌+◌, ◌≤◌, List, [], ◌++◌, length, take, drop, Option, None, Some, Result, Ok, Err, ⊤, option_map, IsSome, IsSomeAnd}
use Rattle.std.specs.Ordering.{nat_cmp}
use Rattle.std.specs.List.Sorted.{IsStrictlyIncreasing}
use Rattle.std.specs.FinMap as map

-- files by number
abbrev pub Files : Type 0
Files = map.FinMap nat_cmp (List ℕ)

-- a file that is being built: its number, and its bytes so far
abbrev pub Draft : Type 0
Draft = ℕ × List ℕ

-- a store is as it was, but for its counts: the files that it tells are the same, and what is being built is
abbrev pub HoldsSameFiles : {W F D : Type 0} → (W → F) → (W → D) → (before now : W) → Type 0
HoldsSameFiles files building before now = (files now ≡ files before) × (building now ≡ building before)

-- n is a file, where the files are told
abbrev pub IsFile : Option Files → ℕ → Type 0
IsFile None n = ⊤
IsFile (Some files) n = IsSome (map.get files n)

-- n is no file, where the files are told
abbrev pub IsNoFile : Option Files → ℕ → Type 0
IsNoFile None n = ⊤
IsNoFile (Some files) n = map.get files n ≡ None

-- the bytes from an offset on, so many, lie in file n, where the files are told
abbrev pub LiesInFile : Option Files → (n off count : ℕ) → Type 0
LiesInFile None n off count = ⊤
LiesInFile (Some files) n off count = IsSomeAnd (map.get files n) (λ bytes. off + count ≤ length bytes)

-- ascending numbers, and those of the files where these are told
abbrev pub AreNumbers : Option Files → List ℕ → Type 0
AreNumbers None numbers = IsStrictlyIncreasing numbers
AreNumbers (Some files) numbers = IsStrictlyIncreasing numbers × (numbers ≡ map.keys files)

-- the length of file n, where the files are told
abbrev pub IsSizeOf : Option Files → (n size : ℕ) → Type 0
IsSizeOf None n size = ⊤
IsSizeOf (Some files) n size = (bytes : List ℕ) → map.get files n ≡ Some bytes → size ≡ length bytes

-- the bytes of file n from an offset on, where the files are told
abbrev pub AreBytesOf : Option Files → (n off : ℕ) → List ℕ → Type 0
AreBytesOf None n off piece = ⊤
AreBytesOf (Some files) n off piece = (bytes : List ℕ) → map.get files n ≡ Some bytes → piece ≡ take (length piece) (drop off bytes)

-- what is being built after `begin`: file n with no bytes, told where the files are
abbrev pub new_draft : Option Files → ℕ → Option (Option Draft)
new_draft files n = Some (option_map (λ _. (n, [])) files)

-- what is being built after `append`: it grew by the piece
abbrev pub grown_draft : Option (Option Draft) → List ℕ → Option (Option Draft)
grown_draft building piece = option_map (option_map (λ draft. (draft.0, draft.1 ++ piece))) building

-- the files after `finish`: what was being built is among them, told where both were
abbrev pub with_draft : Option Files → Option (Option Draft) → Option Files
with_draft (Some files) (Some (Some draft)) = Some (map.insert files draft.0 draft.1)
with_draft _ _ = None

-- what is being built after a call that leaves this where it answers Ok, and nothing where it is refused
abbrev pub unless_refused : {T E X : Type 0} → Result T E → Option X → Option X
unless_refused (Ok _) building = building
unless_refused (Err _) _ = None
