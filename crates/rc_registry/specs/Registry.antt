-- Which chains of versions are there, by number, and what is known of the use of each.
use Rattle.std.specs.Prelude.{◌≡◌, ◌<◌, ◌⊎◌, ℕ, zero, suc, Bool, true, false, List, [], ◌∷◌, Option, Some, None, IsSome, IsSomeAnd, option_map, slice_index_or, map as list_map}
use Rattle.lsa_region.specs.declared.end.Root.{Root}
use Rattle.rc_core.specs.declared.entries.ChainKind.{ChainKind}
use Rattle.rc_core.specs.Chains.{IsPinned}
use Rattle.rc_core.specs.Steps.{number_after_removal, pins_with, pins_without}
pub use Rattle.rc_registry.specs.declared.uses.Use.{Use}

-- by its number each chain; and the numbers of chains that are gone and were not yet told, the first one first
pub record Registry : Type 0 where
  pub uses : List (Option Use)
  pub dropped : List ℕ

-- the chain of a number; None where there is none
abbrev pub use_at : List (Option Use) → ℕ → Option Use
use_at uses id = slice_index_or uses id None

-- a list with something else at a number, longer where it did not reach it
abbrev pub put_at_number : {X : Type 0} → ℕ → Option X → List (Option X) → List (Option X)
put_at_number zero x [] = x ∷ []
put_at_number zero x (y ∷ ys) = x ∷ ys
put_at_number (suc n) x [] = None ∷ put_at_number n x []
put_at_number (suc n) x (y ∷ ys) = y ∷ put_at_number n x ys

-- a chain that is found by its key, not under update, and pinned by nobody
abbrev pub new_use : Root → ChainKind → Use
new_use root kind = record { root = root; kind = kind; attached = true; updating = false; passed = false; pins = [] }

-- a chain of this number is there
abbrev pub IsThere : Registry → ℕ → Type 0
IsThere r id = IsSome (use_at r.uses id)

-- a chain of this number is there, and its versions stand behind this root slot
abbrev pub HasRoot : Registry → Root → ℕ → Type 0
HasRoot r root id = IsSomeAnd (use_at r.uses id) (λ u. u.root ≡ root)

-- the chain of a number is another one, or its use another; all else is as it was
abbrev pub with_use : ℕ → Option Use → Registry → Registry
with_use id u r = record { uses = put_at_number id u r.uses; dropped = r.dropped }

-- something done to the use of the chain of a number; all else is as it was
abbrev pub on_use : ℕ → (Use → Use) → Registry → Registry
on_use id f r = with_use id (option_map f (use_at r.uses id)) r

-- ---- what is done to a use

-- no longer found by its key, and not under update
abbrev pub detached_use : Use → Use
detached_use u = record { root = u.root; kind = u.kind; attached = false; updating = false; passed = u.passed; pins = u.pins }

-- under update or not
abbrev pub set_updating : Bool → Use → Use
set_updating updating u = record { root = u.root; kind = u.kind; attached = u.attached; updating = updating; passed = u.passed; pins = u.pins }

-- with the cleaner's mark or without it
abbrev pub set_passed : Bool → Use → Use
set_passed passed u = record { root = u.root; kind = u.kind; attached = u.attached; updating = u.updating; passed = passed; pins = u.pins }

-- with other pins
abbrev pub set_pins : List (Option ℕ) → Use → Use
set_pins pins u = record { root = u.root; kind = u.kind; attached = u.attached; updating = u.updating; passed = u.passed; pins = pins }

-- with one snapshot of a version more
abbrev pub with_pin : ℕ → Use → Use
with_pin version u = set_pins (pins_with version u.pins) u

-- with the snapshot of a number taken back
abbrev pub without_pin : ℕ → Use → Use
without_pin pin u = set_pins (pins_without pin u.pins) u

-- with the pins as they are once the version of a number is gone
abbrev pub without_version : ℕ → Use → Use
without_version version u = set_pins (list_map (option_map (number_after_removal version)) u.pins) u

-- nobody pins a version
abbrev pub AreFree : List (Option ℕ) → Type 0
AreFree pins = (version : ℕ) → IsPinned pins version → ⊥

-- ---- numbers

-- the number is one of a list
abbrev pub IsNumberIn : List ℕ → ℕ → Type 0
IsNumberIn [] n = ⊥
IsNumberIn (m ∷ ms) n = (m ≡ n) ⊎ IsNumberIn ms n

-- each number of a list stands there once
abbrev pub AreOnce : List ℕ → Type 0
AreOnce [] = Unit {0}
AreOnce (m ∷ ms) = (IsNumberIn ms m → ⊥) × AreOnce ms

-- the number is greater than another one, where that is given
abbrev pub IsAfter : Option ℕ → ℕ → Type 0
IsAfter None n = Unit {0}
IsAfter (Some after) n = after < n

-- this is the least number of a chain after the given one
pub record IsNext (r : Registry) (after : Option ℕ) (id : ℕ) : Type 0 where
  pub there : IsThere r id
  pub behind : IsAfter after id
  pub least : (n : ℕ) → IsAfter after n → n < id → use_at r.uses n ≡ None
