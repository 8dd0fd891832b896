-- What a line means by its shape it means by its form.
use Rattle.std.proofs.Common.{subst, sym}
use Rattle.std.specs.Option.{option_copied}
use Rattle.rc_lines.specs.Grammar.{ReadsLine}
use Rattle.rc_lines.specs.laws.ByShape.{by_shape}
use Rattle.rc_lines.proofs.reading.read_line.Goals as goal

pub returns : goal.returns
returns c = subst (ReadsLine c.read_by_shape.result) (sym (by_shape (option_copied c.args.schema) c.args.line.now)) c.read_by_shape.ensures
