-- Numbers in the bytes of an object.
use Rattle.std.specs.Prelude.{◌≡◌, ℕ, zero, suc, ◌+◌, ◌*◌, ◌/◌, ◌%◌, ◌≤◌, ◌⊎◌, List, [], ◌∷◌, take, drop}

-- the number that bytes spell, the least significant byte first
abbrev pub number : List ℕ → ℕ
number [] = 0
number (byte ∷ bytes) = byte + 256 * number bytes

-- the bytes that spell a number in so many bytes, the least significant one first
abbrev pub spelled_number : ℕ → ℕ → List ℕ
spelled_number zero value = []
spelled_number (suc width) value = value % 256 ∷ spelled_number width (value / 256)

-- the number in the field of this width at this offset
abbrev pub number_at : ℕ → ℕ → List ℕ → ℕ
number_at offset width bytes = number (take width (drop offset bytes))

-- two fields have no byte in common
abbrev pub IsApart : ℕ → ℕ → ℕ → ℕ → Type 0
IsApart offset width other other_width = (other + other_width ≤ offset) ⊎ (offset + width ≤ other)

-- the field holds the value now, and every other byte and field is as it was
pub record IsPut (old new : List ℕ) (offset width value : ℕ) : Type 0 where
  pub written : number_at offset width new ≡ value
  pub before : take offset new ≡ take offset old
  pub behind : drop (offset + width) new ≡ drop (offset + width) old
  pub others : (other other_width : ℕ) → IsApart offset width other other_width → number_at other other_width new ≡ number_at other other_width old
