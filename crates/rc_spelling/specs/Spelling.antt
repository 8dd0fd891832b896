-- How bytes and the components of a clustering key are spelled in a word.
use Rattle.std.specs.Prelude.{ℕ, ◌+◌, ◌*◌, Bool, ◌&&◌, ◌||◌, not, ◌==◌, nat_lt, List, [], ◌∷◌, codes, Option, Some, None, option_and_then, if◌then◌else◌}
use Rattle.std.specs.Char.{digit_value, is_ascii_hexdigit}
use Rattle.std.specs.List.{slice_split}
use Rattle.std.specs.Option.{option_map}
use Rattle.rc_spelling.specs.Words.{is_word, each_of}

-- a byte that may stand for itself: above the space, not the delete byte, and no mark of the grammar, `%`, `,`, `'`, `(`, `)`, `[` and `]`
abbrev pub stands_alone : ℕ → Bool
stands_alone byte = nat_lt 32 byte && not (byte == 127 || ((byte == 37 || (byte == 44 || byte == 39)) || ((byte == 40 || byte == 41) || (byte == 91 || byte == 93))))

-- the byte that `%` and two hexadecimal digits, in either case, stand for
abbrev pub escaped_byte : ℕ → ℕ → Option ℕ
escaped_byte high low = if is_ascii_hexdigit high && is_ascii_hexdigit low then Some (digit_value high * 16 + digit_value low) else None

-- a byte that stands for itself, before what else is spelled
abbrev pub lone_byte : ℕ → Option (List ℕ) → Option (List ℕ)
lone_byte byte more = if stands_alone byte then option_map (λ bytes. byte ∷ bytes) more else None

-- a byte that two digits stand for, before what else is spelled
abbrev pub escape : ℕ → ℕ → Option (List ℕ) → Option (List ℕ)
escape high low more = option_and_then (λ byte. option_map (λ bytes. byte ∷ bytes) more) (escaped_byte high low)

-- the bytes that a word spells: nothing, or a byte that stands for itself and a spelling, or `%`, two digits and a spelling
abbrev pub bytes_spelled : List ℕ → Option (List ℕ)
bytes_spelled [] = Some []
bytes_spelled (byte ∷ []) = lone_byte byte (Some [])
bytes_spelled (byte ∷ next ∷ []) = lone_byte byte (bytes_spelled (next ∷ []))
bytes_spelled (byte ∷ next ∷ other ∷ rest) =
    if byte == 37 then escape next other (bytes_spelled rest) else lone_byte byte (bytes_spelled (next ∷ other ∷ rest))

-- the bytes of a component: `''` for none, or a spelling that is not empty
abbrev pub component_spelled : List ℕ → Option (List ℕ)
component_spelled [] = None
component_spelled (byte ∷ rest) = if is_word (byte ∷ rest) (codes "''") then Some [] else bytes_spelled (byte ∷ rest)

-- the bytes of one component and more, with commas between them
unfoldable pub components_spelled : List ℕ → Option (List (List ℕ))
components_spelled word = each_of component_spelled (slice_split (λ byte. byte == 44) word)
