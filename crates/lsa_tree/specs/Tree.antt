-- The entries of a version in order. How they are linked is known to this crate alone: its users go by the laws.
use Rattle.std.specs.Prelude.{◌≡◌, ◌≢◌, ◌⊎◌, ℕ, List, None, IsSomeAnd, Contains}
use Rattle.lsa_kinds.specs.declared.kind.Kind.TheVariants.{Version}
use Rattle.lsa_region.specs.Ref.{Ref}
use Rattle.lsa_region.specs.declared.end.End.{End}
use Rattle.lsa_region.specs.declared.end.End.TheVariants.{Obj, Slot}
use Rattle.lsa_region.specs.Ends.{end_as}
use Rattle.lsa_region.specs.Region.{View, body, link_of, IsEnd, location_of, slots_of}
use Rattle.lsa_shape.specs.Roles.{Role, role_at, Parent, Left, Right, Entries}
use Rattle.lsa_shape.specs.Shapes.{TreeShape, HangsAt, inorder}
use Rattle.lsa_shape.specs.Levels.{IsLevel}
use Rattle.lsa_tree.specs.declared.tree.Tree.{Tree}
use Rattle.lsa_tree.specs.Entries.{IsEntryKind, AreAscending, IsAlike, balance_of}

-- the end is the link of a version to its entries
abbrev pub IsTop : View → End → Type 0
IsTop v (Obj r field) = (field ≡ 2) × IsSomeAnd (body v r) (λ b. b.0 ≡ Version)
IsTop v (Slot root) = ⊥

-- the tree holds these entries, in ascending order of their positions: a balanced tree hangs at its top
pub record IsTree (tree : Tree) (v : View) (refs : List Ref) : Type 0 where
  pub top : IsTop v tree.top
  pub ascending : AreAscending v refs
  pub form : (shape : TreeShape) × (depth : ℕ) × HangsAt (link_of v) tree.top shape × IsLevel (balance_of v) shape depth × (inorder shape ≡ refs)

-- an entry that is in no tree, and that can be put into one: none of its links to entries is set, and its balance is 0
pub record IsLoose (v : View) (r : Ref) : Type 0 where
  pub entry : IsSomeAnd (body v r) (λ b. IsEntryKind b.0)
  pub parent : link_of v (Obj r 2) ≡ None
  pub left : link_of v (Obj r 3) ≡ None
  pub right : link_of v (Obj r 4) ≡ None
  pub level : balance_of v r ≡ 0

-- the role is that of no link of a tree
abbrev pub IsOffRole : Role → Type 0
IsOffRole role = (role ≢ Parent) × (role ≢ Left) × (role ≢ Right) × (role ≢ Entries)

-- the end is no link of any tree: none of an entry to entries, and none of a version to its entries
abbrev pub IsOffTree : View → End → Type 0
IsOffTree v e = IsOffRole (role_at v e)

-- the role is that of a link of a tree
abbrev pub IsTreeRole : Role → Type 0
IsTreeRole role = (role ≡ Parent) ⊎ ((role ≡ Left) ⊎ ((role ≡ Right) ⊎ (role ≡ Entries)))

-- the end is a link of some tree: one of an entry to entries, or that of a version to its entries
abbrev pub IsOfTree : View → End → Type 0
IsOfTree v e = IsTreeRole (role_at v e)

-- all but the links is as it was, though these entries may have other balances
pub record SameButBalances (old new : View) (refs : List Ref) : Type 0 where
  pub alike : (r : Ref) → Contains refs r → IsAlike (body old r) (body new r)
  pub bodies : (r : Ref) → (Contains refs r → ⊥) → body new r ≡ body old r
  pub ends : (e : End) → IsEnd old e → IsEnd new e
  pub gone : (e : End) → IsEnd new e → IsEnd old e
  pub spots : (r : Ref) → location_of new r ≡ location_of old r
  pub slots : slots_of new ≡ slots_of old
  pub usages : new.usages ≡ old.usages
  pub epoch : new.epoch ≡ old.epoch
  pub moved : new.moved ≡ old.moved
  pub compacted : new.compacted ≡ old.compacted

-- the tree, with the new name of its version
abbrev pub tree_as : List (Ref × Ref) → Tree → Tree
tree_as names tree = record { top = end_as names tree.top }
