-- What stands in a list of chains, and objects that stand at their places in two regions.
use Rattle.std.proofs.Common.{◌≡◌, ℕ, zero, suc, List, [], ◌∷◌, ◌++◌, Option, Some, None, inl, inr, refl, sym, ap, subst, map, slice_index_or}
use Rattle.std.specs.Prelude.{Contains}
use Rattle.std.specs.Option.{option_map}
use Rattle.lsa_store.specs.declared.place.Ref.{Ref}
use Rattle.lsa_region.specs.Region.{View}
use Rattle.rc_partition.specs.Partitions.{PartitionEntry, IsRowOfVersion, IsRowOfAny, StandingVersion}
use Rattle.rc_partition.specs.laws.Lists.{elem-first, elem-here, elem-later}
use Rattle.rc_position.specs.declared.positions.Pos.{Pos}
use Rattle.rc_memory.specs.Memory.{Member, IsObjectAt, IsOfVersion, IsVersionAt}
use Rattle.rc_memory.specs.Kept.{StandAt, present}
use Rattle.rc_memory.specs.laws.Places.{present-at}

-- ---- lists with vacant numbers

module _ {X Y : Type 0} (f : X → Y) where
  pub present-mapped : (xs : List (Option X)) → present (map (option_map f) xs) ≡ map f (present xs)
  present-mapped [] = refl
  present-mapped (None ∷ xs) = present-mapped xs
  present-mapped (Some x ∷ xs) = ap (λ l. f x ∷ l) (present-mapped xs)

  pub at-mapped : (xs : List (Option X)) (n : ℕ) → slice_index_or (map (option_map f) xs) n None ≡ option_map f (slice_index_or xs n None)
  at-mapped [] n = refl
  at-mapped (x ∷ xs) zero = refl
  at-mapped (x ∷ xs) (suc n) = at-mapped xs n

-- ---- objects at their places

-- the version of a place has the object as a row
pub row-of : (v : View) (s : StandingVersion) (at : Option Pos) (r : Ref) → IsOfVersion v s at r → IsRowOfVersion v s r
row-of v s None r h = inr h
row-of v s (Some x) r h = inl h.0

pub version-in : (ss : List StandingVersion) (j : ℕ) (s : StandingVersion) → IsVersionAt ss j s → Contains ss s
version-in ss j s h = subst (λ l. Contains l s) (sym h.split) (elem-here h.older h.newer s)

pub object-row : (v : View) (st : List (Option PartitionEntry)) (r : Ref) (w : Member) → IsObjectAt v st r w → IsRowOfAny v (present st) r
object-row v st r w h = (h.partition, h.version, present-at st w.chain h.partition h.chain, version-in h.partition.versions w.version h.version h.number, row-of v h.version w.position r h.object)

module _ (v w : View) (st new : List (Option PartitionEntry)) where
  -- each object stands at its place there too
  pub stand-each : (refs : List Ref) (ws : List Member) → ((r : Ref) (x : Member) → Contains refs r → Contains ws x → IsObjectAt v st r x → IsObjectAt w new r x) → StandAt v st refs ws → StandAt w new refs ws
  stand-each [] [] f h = tt
  stand-each [] (x ∷ ws) f h = absurd h
  stand-each (r ∷ refs) [] f h = absurd h
  stand-each (r ∷ refs) (x ∷ ws) f h = (f r x (elem-first r refs) (elem-first x ws) h.0, stand-each refs ws (λ q y a b. f q y (elem-later r q refs a) (elem-later x y ws b)) h.1)

  -- and so under other names
  pub stand-mapped : (f : Ref → Ref) → (refs : List Ref) (ws : List Member) → ((r : Ref) (x : Member) → IsObjectAt v st r x → IsObjectAt w new (f r) x) → StandAt v st refs ws → StandAt w new (map f refs) ws
  stand-mapped f [] [] each h = tt
  stand-mapped f [] (x ∷ ws) each h = absurd h
  stand-mapped f (r ∷ refs) [] each h = absurd h
  stand-mapped f (r ∷ refs) (x ∷ ws) each h = (each r x h.0, stand-mapped f refs ws each h.1)

module _ (v : View) (st : List (Option PartitionEntry)) where
  pub stand-both : (refs qs : List Ref) (ws xs : List Member) → StandAt v st refs ws → StandAt v st qs xs → StandAt v st (refs ++ qs) (ws ++ xs)
  stand-both [] qs [] xs h k = k
  stand-both [] qs (w ∷ ws) xs h k = absurd h
  stand-both (r ∷ refs) qs [] xs h k = absurd h
  stand-both (r ∷ refs) qs (w ∷ ws) xs h k = (h.0, stand-both refs qs ws xs h.1 k)
