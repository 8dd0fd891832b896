-- What a search within the crate looks for.
use Rattle.std.specs.Prelude.{◌≡◌}
use Rattle.rc_position.specs.declared.positions.Pos.{Pos}
use Rattle.rc_position.specs.Position.{row_pos}
use Rattle.rc_rowcode.specs.Spelling.{pos_code, IsPos}
use Rattle.lsa_tree.specs.declared.search.Sought.{Sought}
use Rattle.lsa_tree.specs.declared.search.Sought.TheVariants as sought

-- the position that is looked for
abbrev pub IsSought : Sought → Pos → Type 0
IsSought (sought.Bound at) x = at.now ≡ x
IsSought (sought.Row key) x = row_pos key.now ≡ x
IsSought (sought.Code code) x = IsPos x × (code.now ≡ pos_code x)
