-- What reading the front of bytes answers.
use Rattle.std.specs.Prelude.{◌≡◌, ℕ, List, ◌++◌, length, drop, Option, Some, None}
use Rattle.rc_items.specs.declared.reading.Part.{Part}
use Rattle.rc_items.specs.Items.{Item, PartItem}

-- the value whose spelling the bytes begin with, and its length; none where they begin with no value's spelling
abbrev pub Starts : {X : Type 0} → (X → List ℕ) → (X → Type 0) → List ℕ → Option (X × ℕ) → Type 0
Starts {X} code is bytes None = (x : X) (more : List ℕ) → is x → bytes ≡ code x ++ more → ⊥
Starts code is bytes (Some found) = is found.0 × (bytes ≡ code found.0 ++ drop found.1 bytes) × (found.1 ≡ length (code found.0))

-- a part's item, and what it has behind its first byte
abbrev pub part_item : Part → Item
part_item p = PartItem p.key p.head.pt p.head.statics
