-- What a scratch space is: the bytes put into it, and how many fit.
use Rattle.std.specs.Prelude.{ℕ, ◌≤◌, ◌+◌, List, length}

-- a buffer as a contract sees it: what was written, and how much it may hold
pub record Space : Type 0 where
  pub bytes : List ℕ
  pub size : ℕ

-- bytes of this length fit behind those that are there
abbrev pub HasRoom : Space → ℕ → Type 0
HasRoom space n = length space.bytes + n ≤ space.size
