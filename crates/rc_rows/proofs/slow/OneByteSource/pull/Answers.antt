-- The one byte that was taken is the one that is given.
use Rattle.std.proofs.Common.{◌≡◌, ℕ, ◌≤◌, ◌++◌, List, length, take, get_or, sym, ap, ◌∙◌, arith}
use Rattle.rc_rows.proofs.Bytes.{take_one, take_written}
use Rattle.rc_rows.proofs.slow.OneByteSource.pull.Goals as goal

pub returns-in-Ok-clause-taken : goal.returns-in-Ok-clause-taken
returns-in-Ok-clause-taken c =
    let whole : length c.pull.new.into ≡ 1 = omega arith in
    let within : c.in-Ok.field-0 ≤ length c.pull.new.into = c.in-Ok.ensures.within in
    let one : c.in-Ok.field-0 ≡ 1 = omega (arith, c.in-Ok.field-0-test) in (
      c.in-Ok.ensures.taken.0
          ∙ ap (λ (l : List ℕ). l ++ c.pull.new.self) (ap (λ (k : ℕ). take k c.pull.new.into) one ∙ take_one c.pull.new.into whole ∙ sym (take_written c.args.into.now (get_or c.pull.new.into 0 0) c.requires)),
      λ e h. absurd (omega (arith, e)),
    )
