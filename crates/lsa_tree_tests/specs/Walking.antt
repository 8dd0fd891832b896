-- What the tests promise each other: a version that a root slot names, and an entry that is found, if one is.
use Rattle.std.specs.Prelude.{◌≡◌, List, ◌∷◌, ◌++◌, Option, Some, IfSome}
use Rattle.lsa_store.specs.declared.place.Ref.{Ref}
use Rattle.lsa_region.specs.declared.end.Root.{Root}
use Rattle.lsa_region.specs.declared.end.End.TheVariants.{Obj, Slot}
use Rattle.lsa_region.specs.Region.{View, link_of}
use Rattle.lsa_tree.specs.declared.tree.Tree.{Tree}
use Rattle.lsa_tree.specs.Tree.{IsTree}

-- the slot names the version of a tree with these entries
pub record HoldsTree (slot : Root) (v : View) (tree : Tree) (refs : List Ref) : Type 0 where
  pub version : Ref
  pub named : link_of v (Slot slot) ≡ Some (Obj version 1)
  pub top : tree.top ≡ Obj version 2
  pub holds : IsTree tree v refs

-- the slot names the version of some tree
abbrev pub IsHome : Root → View → Type 0
IsHome slot v = (tree : Tree) × (refs : List Ref) × HoldsTree slot v tree refs

-- the object is one of the entries, if it is an object
abbrev pub IsTreeEntry : Tree → View → Option Ref → Type 0
IsTreeEntry tree v found = IfSome found (λ r. (front : List Ref) × (back : List Ref) × IsTree tree v (front ++ (r ∷ back)))
