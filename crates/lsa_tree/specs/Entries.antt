-- Entries of a version, and what stands in the bytes behind their links: their position, and their balance in a tree.
use Rattle.std.specs.Prelude.{◌≡◌, ℕ, ◌+◌, ◌≤◌, ◌⊎◌, List, [], ◌∷◌, length, take, drop, Option, Some, None, IsSomeAnd, ⊤}
use Rattle.std.specs.Option.{option_map}
use Rattle.std.specs.List.{AllByRecursion}
use Rattle.rc_position.specs.declared.positions.Pos.{Pos}
use Rattle.rc_position.specs.Position.{IsBefore}
use Rattle.rc_rowcode.specs.Spelling.{pos_code, IsPos}
use Rattle.lsa_kinds.specs.declared.kind.Kind.{Kind}
use Rattle.lsa_kinds.specs.declared.kind.Kind.TheVariants.{RowEntry, Dummy}
use Rattle.lsa_kinds.specs.Fields.{number_at}
use Rattle.lsa_region.specs.Ref.{Ref}
use Rattle.lsa_region.specs.Region.{View, body}

-- a row entry or a dummy
abbrev pub IsEntryKind : Kind → Type 0
IsEntryKind kind = (kind ≡ RowEntry) ⊎ (kind ≡ Dummy)

-- the code of an entry's position: the field of 4 bytes at 28 tells how long it is, and it begins at 32
abbrev pub position_in : List ℕ → List ℕ
position_in bytes = take (number_at 28 4 bytes) (drop 32 bytes)

-- the kind and the bytes behind the links are those of an entry at this position
pub record SpellsEntryAt (entry : Kind × List ℕ) (x : Pos) : Type 0 where
  pub kind : IsEntryKind entry.0
  pub inside : 32 + number_at 28 4 entry.1 ≤ length entry.1
  pub place : IsPos x
  pub code : position_in entry.1 ≡ pos_code x

-- the object is an entry at this position
abbrev pub IsEntryAtPosition : View → Ref → Pos → Type 0
IsEntryAtPosition v r x = IsSomeAnd (body v r) (λ b. SpellsEntryAt b x)

-- the object is an entry before this position
abbrev pub StandsEarlier : View → Ref → Pos → Type 0
StandsEarlier v r x = (at : Pos) × IsEntryAtPosition v r at × IsBefore at x

-- the object is an entry behind this position
abbrev pub StandsLater : View → Ref → Pos → Type 0
StandsLater v r x = (at : Pos) × IsEntryAtPosition v r at × IsBefore x at

-- these entries stand before the position, and those behind it
pub record BelongsBetween (v : View) (x : Pos) (front back : List Ref) : Type 0 where
  pub before : AllByRecursion (λ r. StandsEarlier v r x) front
  pub behind : AllByRecursion (λ r. StandsLater v r x) back

-- these are entries, each before those that follow it
abbrev pub AreAscending : View → List Ref → Type 0
AreAscending v [] = ⊤
AreAscending v (r ∷ refs) = ((x : Pos) × IsEntryAtPosition v r x × AllByRecursion (λ q. StandsLater v q x) refs) × AreAscending v refs

-- the balance in the body of an entry: the byte at 1
abbrev pub balance_in : Option (Kind × List ℕ) → ℕ
balance_in None = 0
balance_in (Some b) = number_at 1 1 b.1

-- the balance of an entry
abbrev pub balance_of : View → Ref → ℕ
balance_of v r = balance_in (body v r)

-- the kind and all bytes but the balance
abbrev pub but_balance : Kind × List ℕ → Kind × (List ℕ × List ℕ)
but_balance b = (b.0, (take 1 b.1, drop 2 b.1))

-- two bodies are the same but for the balance
abbrev pub IsAlike : Option (Kind × List ℕ) → Option (Kind × List ℕ) → Type 0
IsAlike old new = option_map but_balance new ≡ option_map but_balance old

-- what a tree reads of an entry: its kind, its balance, and the bytes from the length of its position on
abbrev pub tree_part : Kind × List ℕ → Kind × (ℕ × List ℕ)
tree_part b = (b.0, (number_at 1 1 b.1, drop 28 b.1))

-- a tree reads the same of two bodies: they are the same but for flags and tombstones
abbrev pub IsReadAlike : Option (Kind × List ℕ) → Option (Kind × List ℕ) → Type 0
IsReadAlike old new = option_map tree_part new ≡ option_map tree_part old
