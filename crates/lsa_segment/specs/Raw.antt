-- The logic's description of a byte in a block.
use denote.RattleType.{RattleType}
use denote.Param.{param}
use denote.Builtin.{u8}

-- one byte, as the logic describes it
abbrev pub byte_row : RattleType
byte_row = param 0 u8
