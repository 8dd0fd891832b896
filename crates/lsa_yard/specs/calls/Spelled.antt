-- The header of a cell, read from its first bytes.
use Rattle.std.specs.Prelude.{ℕ, ◌+◌, ◌*◌, List, ◌∷◌, ◌++◌, replicate}
use Rattle.lsa_kinds.specs.declared.kind.Kind.{Kind}
use Rattle.lsa_kinds.specs.Kinds.{kind_code, links_of}
use Rattle.lsa_yard.specs.Spelled.{size_field}

-- the header of an object with so many bytes behind its links, and the links, which are all 0
abbrev pub head_of : Kind → ℕ → List ℕ
head_of kind len = kind_code kind ∷ 0 ∷ 0 ∷ 0 ∷ (size_field (8 + 8 * links_of kind + len) ++ replicate (8 * links_of kind) 0)
