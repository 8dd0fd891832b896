use Rattle.std.proofs.Common.{◌≡◌, ℕ, List, length, sym, ap, ◌∙◌, subst}
use Rattle.rc_memtable.specs.Writes.{HasWrites}
use Rattle.rc_memtable.proofs.Applied.{empty-of, none-kept, none-written}
use Rattle.rc_memtable.proofs.memtable.Memtable.is_empty.Goals as goal

pub returns : goal.returns
returns c schema m writes h =
    let seen : c.args.self.now ≡ c.self.inside.chains.entries = sym c.self.view_is in (
      (λ t. none-written schema m writes (subst (λ (cs : List (List ℕ × ℕ)). HasWrites schema cs m writes) (seen ∙ empty-of c.self.inside.chains.entries (c.is_empty.ensures.0 t)) h)),
      (λ e. c.is_empty.ensures.1 (ap length (sym seen ∙ none-kept schema m c.args.self.now (subst (HasWrites schema c.args.self.now m) e h)))),
    )
