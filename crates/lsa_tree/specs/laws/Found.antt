-- What is found at a position is determined by the entries.
use Rattle.std.proofs.Common.{◌≡◌, List, [], ◌∷◌, ◌++◌, inl, inr, refl, sym, ap, ◌∙◌, subst}
use Rattle.std.specs.Prelude.{Contains}
use Rattle.std.proofs.lemmas.List.Elements.{Contains-append_cases}
use Rattle.std.proofs.lemmas.List.{append-nil, append_cancel_left}
use Rattle.rc_position.specs.declared.positions.Pos.{Pos}
use Rattle.lsa_region.specs.Ref.{Ref}
use Rattle.lsa_region.specs.Region.{View, IsWell}
use Rattle.lsa_shape.specs.Members.{member-cases, member-here}
use Rattle.lsa_tree.specs.declared.tree.Tree.{Tree}
use Rattle.lsa_tree.specs.declared.tree.Place.{Place}
use Rattle.lsa_tree.specs.declared.tree.Place.TheVariants.{Here, Before, Last}
use Rattle.lsa_tree.specs.Entries.{IsEntryAtPosition, BelongsBetween}
use Rattle.lsa_tree.specs.Search.{IsFound}
use Rattle.lsa_tree.specs.Tree.{IsTree}
use Rattle.lsa_tree.specs.laws.Orders.{belongs-once, never-at}

-- of entries before and behind a position and one at it no other stands at it
pub at-once : (v : View) (x : Pos) (front back : List Ref) (r q : Ref) → Contains (front ++ (r ∷ back)) q → BelongsBetween v x front back → IsEntryAtPosition v q x → r ≡ q
at-once v x front back r q c k at = elim (Contains-append_cases front (r ∷ back) q c) [
  | inl ahead ↦ absurd (never-at v x q front ahead front [] (sym (append-nil front)) (record { before = k.before; behind = tt }) at)
  | inr later ↦ elim (member-cases r q back later) [
    | inl same ↦ same
    | inr rest ↦ absurd (never-at v x q back rest [] back refl (record { before = tt; behind = k.behind }) at)
  ]
]

module _ (tree : Tree) (v : View) (well : IsWell v) (refs : List Ref) (x : Pos) (h : IsTree tree v refs) where
  -- an entry at the position, and a place between entries
  never : (r : Ref) (front back : List Ref) → refs ≡ front ++ (r ∷ back) → IsEntryAtPosition v r x → (xs ys : List Ref) → refs ≡ xs ++ ys → BelongsBetween v x xs ys → ⊥
  never r front back is at xs ys is' k = never-at v x r refs (subst (λ l. Contains l r) (sym is) (member-here front back r)) xs ys is' k at

  same_first : (front back others rest : List Ref) (r q : Ref) → refs ≡ front ++ (r ∷ back) → refs ≡ others ++ (q ∷ rest) → front ≡ others → r ≡ q
  same_first front back others rest r q is is' same =
      let tails : r ∷ back ≡ q ∷ rest = append_cancel_left others (r ∷ back) (q ∷ rest) (ap (λ l. l ++ (r ∷ back)) (sym same) ∙ sym is ∙ is') in cc

  pub found-once : (p q : Place) → IsFound v refs x p → IsFound v refs x q → p ≡ q
  found-once (Here r) (Here q) k l = ap Here (at-once v x k.0 k.1 r q (subst (λ s. Contains s q) (sym l.2 ∙ k.2) (member-here l.0 l.1 q)) k.4 l.3)
  found-once (Here r) (Before q) k l = absurd (never r k.0 k.1 k.2 k.3 l.0 (q ∷ l.1) l.2 l.3)
  found-once (Here r) Last k l = absurd (never r k.0 k.1 k.2 k.3 refs [] (sym (append-nil refs)) l)
  found-once (Before r) (Here q) k l = absurd (never q l.0 l.1 l.2 l.3 k.0 (r ∷ k.1) k.2 k.3)
  found-once (Before r) (Before q) k l = ap Before (same_first k.0 k.1 l.0 l.1 r q k.2 l.2 (belongs-once v k.0 (r ∷ k.1) l.0 (q ∷ l.1) x (sym k.2 ∙ l.2) k.3 l.3))
  found-once (Before r) Last k l = absurd (let none = belongs-once v k.0 (r ∷ k.1) refs [] x (sym k.2 ∙ sym (append-nil refs)) k.3 l in let longer : k.0 ++ (r ∷ k.1) ≡ k.0 ++ [] = sym k.2 ∙ sym none ∙ sym (append-nil k.0) in let clash : r ∷ k.1 ≡ [] = append_cancel_left k.0 (r ∷ k.1) [] longer in cc)
  found-once Last (Here q) k l = absurd (never q l.0 l.1 l.2 l.3 refs [] (sym (append-nil refs)) k)
  found-once Last (Before q) k l = absurd (let none = belongs-once v l.0 (q ∷ l.1) refs [] x (sym l.2 ∙ sym (append-nil refs)) l.3 k in let longer : l.0 ++ (q ∷ l.1) ≡ l.0 ++ [] = sym l.2 ∙ sym none ∙ sym (append-nil l.0) in let clash : q ∷ l.1 ≡ [] = append_cancel_left l.0 (q ∷ l.1) [] longer in cc)
  found-once Last Last k l = refl
