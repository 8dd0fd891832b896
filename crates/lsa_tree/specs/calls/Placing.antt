-- A place in the tree of a version, and what inner calls do there.
use Rattle.std.specs.Prelude.{◌≡◌, ◌≢◌, ◌⊎◌, ◌≤◌, ℕ, suc, nat_eq, cond, Bool, true, false, List, [], ◌∷◌, ◌++◌, length, Option, Some, None, IsSomeAnd, Contains}
use Rattle.std.specs.Option.{option_map}
use Rattle.lsa_kinds.specs.declared.kind.Kind.{Kind}
use Rattle.lsa_region.specs.Ref.{Ref}
use Rattle.lsa_region.specs.declared.end.End.{End}
use Rattle.lsa_region.specs.declared.end.End.TheVariants.{Obj, Slot}
use Rattle.lsa_region.specs.Ends.{swapped_end}
use Rattle.lsa_region.specs.Paired.{IsExchanged}
use Rattle.lsa_region.specs.Region.{View, body, link_of}
use Rattle.lsa_shape.specs.declared.flank.Flank.{Flank}
use Rattle.lsa_shape.specs.declared.flank.Flank.TheVariants.{Low, High}
use Rattle.lsa_shape.specs.Flanks.{near_link, far_link}
use Rattle.lsa_shape.specs.Shapes.{TreeShape, Leaf, Node, inorder, IsIn, HangsAt, StaysBeyond, node_on}
use Rattle.lsa_shape.specs.Ways.{Fork, plug, hole, way_before, way_behind}
use Rattle.lsa_shape.specs.Levels.{IsLevel, IsLevelAround}
use Rattle.lsa_tree.specs.declared.tree.Tree.{Tree}
use Rattle.lsa_tree.specs.Entries.{IsEntryKind, balance_of}
use Rattle.lsa_tree.specs.Tree.{IsTop, SameButBalances}

-- a body with a balance: that of an entry
abbrev pub IsEntryBody : Option (Kind × List ℕ) → Type 0
IsEntryBody o = IsSomeAnd o (λ b. IsEntryKind b.0 × (3 ≤ length b.1))

-- a tree of this shape hangs at the top, of these entries in this order
pub record IsFormed (tree : Tree) (v : View) (refs : List Ref) (shape : TreeShape) : Type 0 where
  pub top : IsTop v tree.top
  pub entries : (z : Ref) → IsIn z shape → IsEntryBody (body v z)
  pub hangs : HangsAt (link_of v) tree.top shape
  pub order : inorder shape ≡ refs

-- at a place of it hangs this, of the depth `here`, and the balances around the place are right where it is of the depth `there`
pub record IsPlaced (tree : Tree) (v : View) (refs : List Ref) (way : List Fork) (shape : TreeShape) (here there depth : ℕ) : Type 0 where
  pub form : IsFormed tree v refs (plug way shape)
  pub level : IsLevel (balance_of v) shape here
  pub around : IsLevelAround (balance_of v) way there depth

-- a place whose end this is, with the tree that it is in
pub record PlaceIn (v : View) (at : End) : Type 0 where
  pub tree : Tree
  pub refs : List Ref
  pub way : List Fork
  pub shape : TreeShape
  pub here : ℕ
  pub there : ℕ
  pub depth : ℕ
  pub is : IsPlaced tree v refs way shape here there depth
  pub end : hole tree.top way ≡ at

-- nothing hangs at the place, which is between these entries
pub record IsVacant (tree : Tree) (v : View) (front back : List Ref) (at : End) (way : List Fork) (depth : ℕ) : Type 0 where
  pub place : IsPlaced tree v (front ++ back) way Leaf 0 0 depth
  pub end : hole tree.top way ≡ at
  pub before : way_before way ≡ front
  pub behind : way_behind way ≡ back

-- what a change of one tree changes: its top, and links and balances of these
pub record IsTreeChanged (old new : View) (tree : Tree) (members : List Ref) : Type 0 where
  pub links : StaysBeyond (link_of old) (link_of new) tree.top (Contains members)
  pub objects : SameButBalances old new members

-- the tree is balanced, of these entries in this order
pub record IsBalanced (tree : Tree) (v : View) (refs : List Ref) (shape : TreeShape) (depth : ℕ) : Type 0 where
  pub form : IsFormed tree v refs shape
  pub level : IsLevel (balance_of v) shape depth

-- the entry of whose link 3 or 4 this end is, and the side
abbrev pub owner_of : End → Option (Flank × Ref)
owner_of (Obj r field) = cond (nat_eq field 3) (Some (Low, r)) (cond (nat_eq field 4) (Some (High, r)) None)
owner_of (Slot root) = None

-- the last object on this side of a tree; another one where there is none
abbrev pub outermost : Flank → Option Ref → TreeShape → Option Ref
outermost flank found Leaf = found
outermost Low found (Node l r t) = outermost Low (Some r) l
outermost High found (Node l r t) = outermost High (Some r) t

-- the balance of the entry is this now; all else is as it was
pub record IsRebalanced (old new : View) (r : Ref) (balance : ℕ) : Type 0 where
  pub links : (e : End) → link_of new e ≡ link_of old e
  pub written : balance_of new r ≡ balance
  pub objects : SameButBalances old new (r ∷ [])

-- the end has changed places with the near link of y, and that one then with the far link of x
pub record IsRotated (old new : End → Option End) (flank : Flank) (at : End) (y x : Ref) : Type 0 where
  pub middle : End → Option End
  pub first : IsExchanged old middle at (Obj y (near_link flank))
  pub second : IsExchanged middle new (Obj y (near_link flank)) (Obj x (far_link flank))

-- p is deeper on this side by two, with x on that side
pub record Steep (v : View) (flank : Flank) (at : End) (p x : Ref) : Type 0 where
  pub tree : Tree
  pub refs : List Ref
  pub way : List Fork
  pub there : ℕ
  pub depth : ℕ
  pub near : TreeShape
  pub between : TreeShape
  pub far : TreeShape
  pub low : ℕ
  pub form : IsFormed tree v refs (plug way (node_on flank (node_on flank near x between) p far))
  pub end : hole tree.top way ≡ at
  pub around : IsLevelAround (balance_of v) way there depth
  pub level : IsLevel (balance_of v) (node_on flank near x between) (suc (suc low))
  pub level_far : IsLevel (balance_of v) far low
  pub leans : balance_of v p ≢ 0

-- it is balanced now, as deep as before or less deep by one
pub record IsMended (old new : View) (flank : Flank) (at : End) (p x : Ref) (s : Steep old flank at p x) (same : Bool) : Type 0 where
  pub shape : TreeShape
  pub here : ℕ
  pub place : IsPlaced s.tree new s.refs s.way shape here s.there s.depth
  pub as_deep : same ≡ true → here ≡ suc (suc (suc s.low))
  pub less_deep : same ≡ false → here ≡ suc (suc s.low)
  pub even : same ≡ true → balance_of old x ≡ 0
  pub changed : IsTreeChanged old new s.tree s.refs
  pub level : balance_of old x ≢ 0 → (z : Ref) → balance_of old z ≡ 0 → balance_of new z ≡ 0

-- a tree that was put in: one entry, or one whose root is deeper on one side
abbrev pub IsTipped : View → TreeShape → ℕ → Type 0
IsTipped v shape here = (here ≡ 1) ⊎ ((l : TreeShape) (r : Ref) (t : TreeShape) → shape ≡ Node l r t → balance_of v r ≢ 0)

-- one step up: the tree is balanced, or the place above is as that one was
pub record IsStepped (old new : View) (at : End) (p : PlaceIn old at) (next : Option End) : Type 0 where
  pub changed : IsTreeChanged old new p.tree p.refs
  pub done : next ≡ None → (shape : TreeShape) × (depth : ℕ) × IsBalanced p.tree new p.refs shape depth
  pub on : (e : End) → next ≡ Some e → (way : List Fork) × (shape : TreeShape) × (here : ℕ) × (there : ℕ) × IsPlaced p.tree new p.refs way shape here there p.depth × (hole p.tree.top way ≡ e)
      × (suc (length way) ≡ length p.way) × ((p.here ≡ suc p.there → here ≡ suc there) × (p.there ≡ suc p.here → there ≡ suc here)) × ((z : Ref) → IsIn z p.shape → IsIn z shape)
      × (p.here ≡ suc p.there → IsTipped old p.shape p.here → IsTipped new shape here)
  pub level : p.here ≡ suc p.there → IsTipped old p.shape p.here → (z : Ref) → IsIn z p.shape → balance_of old z ≡ 0 → balance_of new z ≡ 0

-- the whole tree is balanced, of the same entries
pub record IsSettled (old new : View) (at : End) (p : PlaceIn old at) : Type 0 where
  pub changed : IsTreeChanged old new p.tree p.refs
  pub done : (shape : TreeShape) × (depth : ℕ) × IsBalanced p.tree new p.refs shape depth
  pub level : p.here ≡ suc p.there → IsTipped old p.shape p.here → (z : Ref) → IsIn z p.shape → balance_of old z ≡ 0 → balance_of new z ≡ 0

-- r where q was and q where r was, in each link of a tree
abbrev pub traded_end : Ref → Ref → End → End
traded_end r q e = swapped_end (Obj r 4) (Obj q 4) (swapped_end (Obj r 3) (Obj q 3) (swapped_end (Obj r 2) (Obj q 2) e))

-- two entries have changed places, with their balances
pub record IsTraded (old new : View) (r q : Ref) : Type 0 where
  pub links : (e : End) → link_of new (traded_end r q e) ≡ option_map (traded_end r q) (link_of old e)
  pub first : balance_of new r ≡ balance_of old q
  pub second : balance_of new q ≡ balance_of old r
  pub objects : SameButBalances old new (r ∷ (q ∷ []))

-- an entry of a balanced tree with nothing on its far side
pub record Loosened (v : View) (flank : Flank) (r : Ref) : Type 0 where
  pub tree : Tree
  pub refs : List Ref
  pub way : List Fork
  pub near : TreeShape
  pub depth : ℕ
  pub form : IsFormed tree v refs (plug way (node_on flank near r Leaf))
  pub level : IsLevel (balance_of v) (plug way (node_on flank near r Leaf)) depth

-- it is cut off from the tree: what was on its near side hangs in its place, which is less deep by one
pub record IsCut (old new : View) (flank : Flank) (r : Ref) (w : Loosened old flank r) (at : End) : Type 0 where
  pub here : ℕ
  pub place : IsPlaced w.tree new (way_before w.way ++ (inorder w.near ++ way_behind w.way)) w.way w.near here (suc here) w.depth
  pub end : hole w.tree.top w.way ≡ at
  pub parent : link_of new (Obj r 2) ≡ None
  pub left : link_of new (Obj r 3) ≡ None
  pub right : link_of new (Obj r 4) ≡ None
  pub changed : IsTreeChanged old new w.tree w.refs

-- an entry is out of its tree, which is balanced but for this place, less deep by one
pub record IsOut (old new : View) (tree : Tree) (refs rest : List Ref) (r : Ref) (at : End) (way : List Fork) (shape : TreeShape) (here depth : ℕ) : Type 0 where
  pub place : IsPlaced tree new rest way shape here (suc here) depth
  pub end : hole tree.top way ≡ at
  pub parent : link_of new (Obj r 2) ≡ None
  pub left : link_of new (Obj r 3) ≡ None
  pub right : link_of new (Obj r 4) ≡ None
  pub changed : IsTreeChanged old new tree refs
