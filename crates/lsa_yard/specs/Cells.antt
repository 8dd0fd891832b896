-- What stands in a segment, one after the other.
use Rattle.std.specs.Prelude.{◌≡◌, ℕ, zero, suc, ◌+◌, ◌-◌, ◌*◌, ◌/◌, cond, nat_lt, List, [], ◌∷◌, ◌++◌, length, drop, replicate, slice_index_or, slice_set, Option, Some, None, IsSomeAnd}
use Rattle.std.specs.Option.{option_map, option_and_then}
use Rattle.lsa_kinds.specs.declared.kind.Kind.{Kind}
use Rattle.lsa_kinds.specs.Kinds.{up8, links_of}
use Rattle.lsa_kinds.specs.Fields.{number_at, spelled_number}
use Rattle.lsa_segment.specs.Bytes.{overwritten}

-- an object, or the gap that a freed one left, which has no kind: the bytes behind its header, links first
pub record Cell : Type 0 where
  pub kind : Option Kind
  pub rest : List ℕ

-- how many bytes a cell takes: a header of 8 bytes and the rest, rounded up
abbrev pub size_of : Cell → ℕ
size_of c = up8 (8 + length c.rest)

-- how many bytes cells take
abbrev pub extent : List Cell → ℕ
extent [] = 0
extent (c ∷ cells) = size_of c + extent cells

-- the cell that begins at the offset; None where none does
abbrev pub cell_at : List Cell → ℕ → Option Cell
cell_at [] offset = None
cell_at (c ∷ cells) zero = Some c
cell_at (c ∷ cells) (suc offset) = cond (nat_lt (suc offset) (size_of c)) None (cell_at cells (suc offset - size_of c))

-- how many bytes the links of a cell take; a gap has none
abbrev pub links_size : Option Kind → ℕ
links_size None = 0
links_size (Some kind) = 8 * links_of kind

-- the kind of an object, and the bytes that follow its links; None for a gap
abbrev pub body_of : Cell → Option (Kind × List ℕ)
body_of c = option_map (λ kind. (kind, drop (8 * links_of kind) c.rest)) c.kind

-- the kind and the bytes of the object that begins at the offset; None where none does
abbrev pub body_at : List Cell → ℕ → Option (Kind × List ℕ)
body_at cells offset = option_and_then body_of (cell_at cells offset)

-- the number in a link of a cell
abbrev pub link_in : ℕ → Cell → ℕ
link_in field c = number_at (8 * field) 8 c.rest

-- an object of this kind with these bytes behind its links, which are all 0
abbrev pub fresh : Kind → List ℕ → Cell
fresh kind bytes = record { kind = Some kind; rest = replicate (8 * links_of kind) 0 ++ bytes }

-- a cell with this number in the link
abbrev pub with_link : ℕ → ℕ → Cell → Cell
with_link field value c = record c { rest = overwritten c.rest (8 * field) (spelled_number 8 value) }

-- a cell with these bytes over those behind its links, from the offset on
abbrev pub with_bytes : ℕ → List ℕ → Cell → Cell
with_bytes from bytes c = record c { rest = overwritten c.rest (links_size c.kind + from) bytes }

-- the gap that an object leaves
abbrev pub gap_of : Cell → Cell
gap_of c = record c { kind = None }

-- one cell, which begins at the offset, is another one of the same size now; those before it and behind it are as they were
pub record IsReplaced (old new : List Cell) (offset : ℕ) (was is : Cell) : Type 0 where
  pub before : List Cell
  pub behind : List Cell
  pub old_is : old ≡ before ++ was ∷ behind
  pub new_is : new ≡ before ++ is ∷ behind
  pub here : extent before ≡ offset
  pub size : size_of is ≡ size_of was

-- the cell that begins at the offset is changed so; the others are as they were
abbrev pub IsChanged : List Cell → List Cell → ℕ → (Cell → Cell) → Type 0
IsChanged old new offset change = IsSomeAnd (cell_at old offset) (λ c. IsReplaced old new offset c (change c))

-- the cell that begins at the offset in segment n is changed so; all else is as it was
pub record IsChangedAt (old new : List (List Cell)) (n offset : ℕ) (change : Cell → Cell) : Type 0 where
  pub after : List Cell
  pub is : new ≡ slice_set old n after
  pub changed : IsChanged (slice_index_or old n []) after offset change
