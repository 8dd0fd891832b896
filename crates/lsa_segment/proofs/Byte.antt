-- The laws of a byte in a block, for the lemmas on rows of places.
use mathlib.Core.Path.{refl}
use denote.Struct.Field.{u8-field}
use denote.Struct.Laws.{u8-laws, u8-copy}
use denote.Param.Laws.{of_field}
use denote.Param.Shared.{copy_shared}
use Rattle.core.proofs.mem.Param.{El}

abbrev pub byte : El
byte = record { row = u8-field.row; laws = of_field u8-field u8-laws refl (copy_shared u8-field u8-copy) }
