use Rattle.std.proofs.Common.{◌≡◌, true, false, sym, ◌∙◌}
use Rattle.rc_unstored.proofs.Keeping.{first-none}
use Rattle.rc_unstored.proofs.unstored.Unstored.is_empty.Goals as goal

pub returns-else-is_empty : goal.returns-else-is_empty
returns-else-is_empty g c schema writes later h =
    (λ t. let f : true ≡ false = sym t ∙ c.if-is_empty.false in absurd (cc), λ e. (c.is_empty.ensures schema c.args.self.now.chains writes h.sealed).1 (first-none writes later e))
