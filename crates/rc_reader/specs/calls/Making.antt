-- How far the lines of a reader are made.
use Rattle.std.specs.Prelude.{◌≡◌, ◌⊎◌, ℕ, List, length, nat_lt, IsTrue}
use Rattle.rc_query.specs.declared.lines.OutLine.{OutLine}

-- of the lines that are left more than so many are made, or all
abbrev pub AreEnough : ℕ → (List OutLine → Type 0) → List OutLine → Type 0
AreEnough count left made = IsTrue (nat_lt count (length made)) ⊎ ((lines : List OutLine) → left lines → lines ≡ made)
