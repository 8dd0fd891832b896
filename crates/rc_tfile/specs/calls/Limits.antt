-- What can be spelt of a fragment: the limits of its key and row, or of its bound.
use Rattle.std.specs.Prelude.{⊤}
use Rattle.rc_mutation.specs.declared.fragments.Frag.{Frag}
use Rattle.rc_mutation.specs.declared.fragments.Frag.TheVariants as frag
use Rattle.rc_rowcode.specs.Spelling.{KeyFits, RowFits}

-- a fragment within the limits
abbrev pub FragFits : Frag → Type 0
FragFits (frag.Start tomb) = ⊤
FragFits (frag.Static row) = ⊤
FragFits (frag.Row key row) = KeyFits key × RowFits row
FragFits (frag.Change x tomb) = KeyFits x.prefix
FragFits frag.End = ⊤
