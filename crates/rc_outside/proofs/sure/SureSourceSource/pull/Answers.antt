use Rattle.std.proofs.Common.{arith, length}
use Rattle.std.proofs.lemmas.Grind.{common_steps}
use Rattle.rc_outside.proofs.Taken.{drop-as_front, drop-is_nil}
use Rattle.rc_outside.proofs.sure.SureSourceSource.pull.Goals as goal

-- src/sure.rt:42:5
pub returns-clause-taken : goal.returns-clause-taken
returns-clause-taken c =
    rw (← c.self.view_is) (
      drop-as_front c.self.inside.bytes.items c.fill_front-count.new.into c.self.inside.taken c.fill_front-count.result (grind (arith, common_steps)),
      λ none some. drop-is_nil c.self.inside.bytes.items c.self.inside.taken c.fill_front-count.result (length c.fill_front-count.new.into) (grind (arith, common_steps)) none some,
    )
