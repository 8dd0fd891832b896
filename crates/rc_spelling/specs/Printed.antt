-- How bytes and the components of a clustering key are printed.
use Rattle.std.specs.Prelude.{ℕ, ◌+◌, ◌/◌, ◌%◌, ◌<◌, Bool, ◌||◌, ◌==◌, nat_lt, List, [], ◌∷◌, flat_map, map, codes, if◌then◌else◌}
use Rattle.std.specs.Char.{is_ascii_alphanumeric}
use Rattle.std.specs.Fmt.{signed_decimal}
use Rattle.std.specs.Int.{w64}
use Rattle.std.specs.Int.RustNames.{FitsSigned}
use Rattle.std.specs.List.{AllByRecursion, join_with_byte}
use Rattle.rc_position.specs.declared.comps.Comp.{Comp}
use Rattle.rc_position.specs.declared.comps.Comp.TheVariants.{Int, Text}

-- the bytes that are printed as themselves: letters, digits, `_`, `.` and `-`
abbrev pub stands_for_itself : ℕ → Bool
stands_for_itself byte = is_ascii_alphanumeric byte || (byte == 95 || (byte == 46 || byte == 45))

-- a hexadecimal digit, in upper case
abbrev pub hexadecimal : ℕ → ℕ
hexadecimal n = if nat_lt n 10 then 48 + n else 55 + n

-- a byte as it is printed: itself, or `%` and two hexadecimal digits
abbrev pub spelled_byte : ℕ → List ℕ
spelled_byte byte = if stands_for_itself byte then byte ∷ [] else 37 ∷ hexadecimal (byte / 16) ∷ hexadecimal (byte % 16) ∷ []

-- bytes as they are printed
abbrev pub printed_bytes : List ℕ → List ℕ
printed_bytes bytes = flat_map spelled_byte bytes

-- a component: a decimal number, or a text, of which `''` stands for the empty one
abbrev pub component_text : Comp → List ℕ
component_text (Int number) = signed_decimal number
component_text (Text []) = codes "''"
component_text (Text (byte ∷ bytes)) = printed_bytes (byte ∷ bytes)

-- the components of a key, with commas between them
abbrev pub key_text : List Comp → List ℕ
key_text components = join_with_byte 44 (map component_text components)

-- the bytes that a printed component spells: an int's decimal number, or a text
abbrev pub bytes_of_component : Comp → List ℕ
bytes_of_component (Int number) = signed_decimal number
bytes_of_component (Text bytes) = bytes

-- bytes are numbers below 256
abbrev pub AreBytes : List ℕ → Type 0
AreBytes bytes = AllByRecursion (λ byte. byte < 256) bytes

-- a number within 64 bits, or bytes
abbrev pub IsComponent : Comp → Type 0
IsComponent (Int number) = FitsSigned w64 number
IsComponent (Text bytes) = AreBytes bytes
