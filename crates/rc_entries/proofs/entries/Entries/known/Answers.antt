use Rattle.std.proofs.Common.{◌≡◌, ℕ, List, Some, subst}
use Rattle.rc_entries.specs.Found.{entry_number}
use Rattle.rc_entries.proofs.Ways.{index-apart}
use Rattle.rc_entries.proofs.entries.Entries.known.Goals as goal

pub returns-clause-apart : goal.returns-clause-apart
returns-clause-apart c =
    subst (λ (es : List (List ℕ × ℕ)). (key other : List ℕ) (id : ℕ) → entry_number es key ≡ Some id → entry_number es other ≡ Some id → key ≡ other) c.self.view_is (index-apart c.self.inside.numbers.entries c.self.inside.keys.entries c.self.invariant)
