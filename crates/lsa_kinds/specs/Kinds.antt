-- The layout of each kind of object: a header of 8 bytes, the links, each of 8 bytes, then the kind's own fields.
use Rattle.std.specs.Prelude.{ℕ, ◌+◌, ◌*◌, ◌/◌, ◌≤◌, List, [], ◌∷◌, All, AllPairs}
use Rattle.lsa_kinds.specs.declared.kind.Kind.{Kind}
use Rattle.lsa_kinds.specs.Fields.{IsApart}
use Rattle.lsa_kinds.specs.declared.kind.Kind.TheVariants.{Version, RowEntry, Dummy, Static}

-- n rounded up to a multiple of 8
abbrev pub up8 : ℕ → ℕ
up8 n = (n + 7) / 8 * 8

-- the number of a kind in an object's first byte
abbrev pub kind_code : Kind → ℕ
kind_code Version = 1
kind_code RowEntry = 2
kind_code Dummy = 3
kind_code Static = 4

-- how many links an object of a kind has
abbrev pub links_of : Kind → ℕ
links_of Version = 4
links_of RowEntry = 5
links_of Dummy = 5
links_of Static = 3

-- how many bytes an object of a kind has at least: header, links and fixed fields
abbrev pub fixed_size_of : Kind → ℕ
fixed_size_of Version = 64
fixed_size_of RowEntry = 80
fixed_size_of Dummy = 80
fixed_size_of Static = 32

-- where a link lies in its object
abbrev pub link_offset : ℕ → ℕ
link_offset field = 8 + 8 * field

-- where each of an entry's own fields begins behind the links, and how many bytes it takes
abbrev pub entry_fields : List (ℕ × ℕ)
entry_fields = (0, 1) ∷ (1, 1) ∷ (4, 4) ∷ (8, 8) ∷ (16, 8) ∷ (24, 4) ∷ (28, 4) ∷ []

-- where each of a kind's own fields begins behind the links, and how many bytes it takes
abbrev pub fields_of : Kind → List (ℕ × ℕ)
fields_of Version = (0, 1) ∷ (4, 4) ∷ (8, 8) ∷ (16, 8) ∷ []
fields_of RowEntry = entry_fields
fields_of Dummy = entry_fields
fields_of Static = []

-- no two of these fields have a byte in common
abbrev pub AreApart : List (ℕ × ℕ) → Type 0
AreApart fields = AllPairs (λ f g. IsApart f.0 f.1 g.0 g.1) fields

-- each of these fields lies behind the links of an object of the kind, however short that is
abbrev pub AreInside : Kind → List (ℕ × ℕ) → Type 0
AreInside kind fields = All (λ f. 8 + 8 * links_of kind + f.0 + f.1 ≤ fixed_size_of kind) fields
