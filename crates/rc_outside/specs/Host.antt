-- What is said of one file of the host, by what it tells of its bytes and of where it stands, and of what the host answers.
use Rattle.std.specs.Prelude.{◌≡◌, ℕ, List, length, take, drop, Option, None, Some, IfSome, IsSome}
use Rattle.rc_outside.specs.declared.folder.Draft.{Draft}

-- wherever a file stands, it has left what its bytes are from there on; where it tells where it stands, and its bytes
abbrev pub ReadsFromItsPlace : {F : Type 0} → (left : F → Option (List ℕ)) (place : F → Option ℕ) (bytes : F → Option (List ℕ)) → Type 0
ReadsFromItsPlace {F} left place bytes = (f : F) → IfSome (place f) (λ at. IfSome (bytes f) (λ xs. left f ≡ Some (drop at xs)))

-- the piece stands in the bytes from an offset on, where they are told
abbrev pub IsAtOffset : Option (List ℕ) → ℕ → List ℕ → Type 0
IsAtOffset bytes off piece = IfSome bytes (λ xs. piece ≡ take (length piece) (drop off xs))

-- the piece stands in the file from an offset on, where the file tells where it stands, and its bytes, and reads from its place
abbrev pub StandsIn : {F : Type 0} → (left : F → Option (List ℕ)) (place : F → Option ℕ) (bytes : F → Option (List ℕ)) → F → ℕ → List ℕ → Type 0
StandsIn left place bytes file off piece = ReadsFromItsPlace left place bytes → IsSome (place file) → IsAtOffset (bytes file) off piece

-- what a draft has so far, where its file tells it
abbrev pub bytes_of_draft : {F : Type 0} → (contents : F → Option (List ℕ)) → Option (Draft F) → Option (List ℕ)
bytes_of_draft contents None = None
bytes_of_draft contents (Some draft) = contents draft.file
