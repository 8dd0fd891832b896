-- Entries of a version that stand at a position: their objects, and what a split there does.
use Rattle.std.proofs.Common.{◌≡◌, List, [], ◌∷◌, ◌++◌, Some, None, inl, inr, sym, ap, ◌∙◌, subst, arith}
use Rattle.std.specs.Prelude.{Contains}
use Rattle.std.specs.Cmp.{tied_itself}
use Rattle.std.specs.declared.cmp.Ordering.TheVariants.{Less}
use Rattle.std.proofs.lemmas.List.{append-nil}
use Rattle.rc_position.specs.declared.positions.Pos.{Pos}
use Rattle.rc_position.specs.Position.{pos_cmp}
use Rattle.rc_position.specs.laws.Orders.{pos_cmp_total}
use Rattle.lsa_store.specs.declared.place.Ref.{Ref}
use Rattle.lsa_region.specs.Region.{View}
use Rattle.lsa_path.specs.laws.Members.{member-cases, member-first, member-here, member-later}
use Rattle.lsa_tree.specs.declared.tree.Place.TheVariants.{Here, Before, Last}
use Rattle.lsa_tree.specs.Entries.{IsEntryAtPosition, BelongsBetween}
use Rattle.lsa_tree.specs.Search.{IsFound}
use Rattle.lsa_tree.specs.laws.Orders.{never-at, stands-once}
use Rattle.rc_core.specs.AtPlace.{HasEntryAt}
use Rattle.rc_core.specs.Change.{gap_split, split_by}
use Rattle.rc_core.specs.declared.entries.Entry.{Entry}
use Rattle.rc_core.specs.laws.Placed.{ahead_of, stands-has}
use Rattle.rc_core.specs.laws.Spots.{ascend-tail, position-reached, split-stands, turn_to, StandsAt}
use Rattle.rc_core.specs.Version.{Version, Ascend, IsVersion}
use Rattle.rc_object.specs.Objects.{HoldsEntry}
use Rattle.rc_version.specs.Versions.{HoldEntries, IsEntryFound, IsVersionOf}
use Rattle.rc_version.specs.laws.Objects.{holds-stands}

-- an object that stands at a position holds an entry there, and an entry there has an object
pub held-has : (v : View) (refs : List Ref) (es : List Entry) (x : Pos) → HoldEntries v refs es → (r : Ref) → Contains refs r → IsEntryAtPosition v r x → HasEntryAt x es
held-has v [] [] x h r k at = absurd (omega (arith, k.1))
held-has v [] (e ∷ es) x h r k at = absurd h
held-has v (q ∷ refs) [] x h r k at = absurd h
held-has v (q ∷ refs) (e ∷ es) x h r k at = elim (member-cases q r refs k) [
  | inl same ↦ inl (stands-once v r e.position x (holds-stands v r e (subst (λ p. HoldsEntry v p e) same h.0)) at)
  | inr later ↦ inr (held-has v refs es x h.1 r later at)
]

pub has-held : (v : View) (refs : List Ref) (es : List Entry) (x : Pos) → HoldEntries v refs es → HasEntryAt x es → (r : Ref) × Contains refs r × IsEntryAtPosition v r x
has-held v [] [] x h k = absurd k
has-held v [] (e ∷ es) x h k = absurd h
has-held v (q ∷ refs) [] x h k = absurd h
has-held v (q ∷ refs) (e ∷ es) x h (inl at) = (q, member-first q refs, subst (IsEntryAtPosition v q) at (holds-stands v q e h.0))
has-held v (q ∷ refs) (e ∷ es) x h (inr k) = let w = has-held v refs es x h.1 k in (w.0, member-later q w.0 refs w.1, w.2)

module _ (v : View) (n : Ref) (refs : List Ref) (c : Version) (x : Pos) (h : IsVersionOf v n refs c) where
  pub found-here : (r : Ref) → IsFound v refs x (Here r) → IsEntryFound v refs c x (Some r)
  found-here r f = let k : Contains refs r = subst (λ l. Contains l r) (sym f.2) (member-here f.0 f.1 r) in (k, f.3, held-has v refs c.entries x h.entries r k f.3)

  nowhere : (front back : List Ref) → refs ≡ front ++ back → BelongsBetween v x front back → IsEntryFound v refs c x None
  nowhere front back is fits = ((λ r k at. never-at v x r refs k front back is fits at), λ has. let w = has-held v refs c.entries x h.entries has in never-at v x w.0 refs w.1 front back is fits w.2)

  pub found-before : (r : Ref) → IsFound v refs x (Before r) → IsEntryFound v refs c x None
  found-before r f = nowhere f.0 (r ∷ f.1) f.2 f.3

  pub found-last : IsFound v refs x Last → IsEntryFound v refs c x None
  found-last f = nowhere refs [] (sym (append-nil refs)) f

-- ---- where an entry stands a split makes none

pub split-standing : (x : Pos) (es : List Entry) → Ascend es → HasEntryAt x es → gap_split x es ≡ es
split-standing x [] a h = absurd h
split-standing x (e ∷ es) a (inl at) = ap (λ r. split_by r x e es (gap_split x es)) (ap (pos_cmp x) at ∙ tied_itself pos_cmp_total x)
split-standing x (e ∷ es) a (inr h) = ap (λ r. split_by r x e es (gap_split x es)) (turn_to e.position x Less (ahead_of x e es a h)) ∙ ap (λ (l : List Entry). e ∷ l) (split-standing x es (ascend-tail e es a) h)

pub standing-split : (x : Pos) (c : Version) → IsVersion c → gap_split x c.entries ≡ c.entries → HasEntryAt x c.entries
standing-split x c is same = stands-has x c.entries (subst (StandsAt x) same (split-stands x c.entries (position-reached x c.entries is.ends)))
