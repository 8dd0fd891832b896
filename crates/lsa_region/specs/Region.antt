-- The region as its callers see it: what each object is, what each end names, and the numbers.
use Rattle.std.specs.Prelude.{◌≡◌, ◌≢◌, ℕ, ◌+◌, ◌-◌, ◌^◌, ◌<◌, ◌≤◌, ◌⊎◌, min, max, List, length, map, sum_by, Option, Some, None, is_some, IsSome, IsSomeAnd, Contains, AllPairs}
use Rattle.std.specs.Option.{option_map}
use Rattle.lsa_kinds.specs.declared.kind.Kind.{Kind}
use Rattle.lsa_kinds.specs.Kinds.{links_of}
use Rattle.lsa_store.specs.Usage.{Usage}
use Rattle.lsa_store.specs.State.TheVariants.{Free}
use Rattle.lsa_store.specs.Room.{nothing, usage_of, free_count, live_sum}
use Rattle.lsa_store.specs.Cells.{Cell}
use Rattle.lsa_store.specs.declared.place.Ref.{Ref}
use Rattle.lsa_store.specs.Objects.{cells_of, body_in, live_in, live_count, object_count}
use Rattle.lsa_region.specs.declared.end.Root.{Root}
use Rattle.lsa_region.specs.declared.end.End.{End}
use Rattle.lsa_region.specs.declared.end.End.TheVariants.{Obj, Slot}
use Rattle.lsa_region.specs.Ends.{SlotCounts, slots_in, named_in, IsEndIn, named_as, end_as}
use Rattle.lsa_region.specs.Layout.{Location, object_extent}
use Rattle.lsa_region.specs.Paired.{WellPaired}

-- the cells of each segment, which are the objects and their links, the root slots, the segments' books, and the counts
pub record View : Type 0 where
  pub cells : List (List Cell)
  pub roots : List (Option (Option End))
  pub usages : List Usage
  pub epoch : ℕ
  pub moved : ℕ
  pub compacted : ℕ

-- the kind of an object and the bytes that follow its links; None where there is no such object
abbrev pub body : View → Ref → Option (Kind × List ℕ)
body v r = body_in v.cells r

-- the segment and the offset at which an object lies; None where there is no such object
abbrev pub location_of : View → Ref → Option Location
location_of v r = option_map (λ b. record { segment = r.segment; offset = r.offset }) (body v r)

-- how many objects there are
abbrev pub objects : View → ℕ
objects v = object_count v.cells

-- how many bytes of objects are live
abbrev pub live_bytes : View → ℕ
live_bytes v = live_sum v.usages

-- how many root slots are there, and the bound below which the number of each lies
abbrev pub slots_of : View → SlotCounts
slots_of v = slots_in v.roots

-- how many objects lie in segment n
abbrev pub objects_in : View → ℕ → ℕ
objects_in v n = live_count (cells_of v.cells n)

-- what an end names
abbrev pub link_of : View → End → Option End
link_of v = named_in v.cells v.roots

-- the end is there: a link of the kind of a live object, or a root slot
abbrev pub IsEnd : View → End → Type 0
IsEnd v = IsEndIn v.cells v.roots

-- ends are paired, and what is named is there
pub record IsWell (v : View) : Type 0 where
  pub paired : WellPaired (link_of v)
  pub ends : (a b : End) → link_of v a ≡ Some b → IsEnd v b

-- each object lies in the used bytes of a segment that is not free, no two overlap, what is live in a segment is what its objects take, and a segment is free
pub record HasLayout (v : View) : Type 0 where
  pub placed : (r : Ref) → is_some (location_of v r) ≡ is_some (body v r)
  pub used : (r : Ref) (s : Location) → location_of v r ≡ Some s → s.offset + object_extent (body v r) ≤ (usage_of v.usages s.segment).used
  pub apart : (r q : Ref) (s t : Location) → location_of v r ≡ Some s → location_of v q ≡ Some t → r ≢ q → s.segment ≡ t.segment → (s.offset + object_extent (body v r) ≤ t.offset) ⊎ (t.offset + object_extent (body v q) ≤ s.offset)
  pub live : (n : ℕ) → live_in (cells_of v.cells n) ≡ (usage_of v.usages n).live
  pub empty : (n : ℕ) → (usage_of v.usages n).state ≡ Free → (usage_of v.usages n).used ≡ 0
  pub reserve : 0 < free_count v.usages

-- a count that has risen, or stands at its greatest value
abbrev pub Risen : ℕ → ℕ → Type 0
Risen old new = new ≡ min (old + 1) (2 ^ 64 - 1)

-- all but the links is as it was
pub record SameObjects (old new : View) : Type 0 where
  pub bodies : (r : Ref) → body new r ≡ body old r
  pub ends : (e : End) → IsEnd old e → IsEnd new e
  pub gone : (e : End) → IsEnd new e → IsEnd old e
  pub spots : (r : Ref) → location_of new r ≡ location_of old r
  pub slots : slots_of new ≡ slots_of old
  pub usages : new.usages ≡ old.usages
  pub epoch : new.epoch ≡ old.epoch
  pub moved : new.moved ≡ old.moved
  pub compacted : new.compacted ≡ old.compacted

-- what every region keeps
pub record IsRegion (v : View) : Type 0 where
  pub well : IsWell v
  pub reserve : 0 < free_count v.usages

-- a new object with its kind and bytes, and the links of its kind, all unset; all else is as it was
pub record IsAdded (old new : View) (r : Ref) (kind : Kind) (bytes : List ℕ) : Type 0 where
  pub fresh : body old r ≡ None
  pub here : body new r ≡ Some (kind, bytes)
  pub unset : (field : ℕ) → link_of new (Obj r field) ≡ None
  pub others : (q : Ref) → q ≢ r → body new q ≡ body old q
  pub spots : (q : Ref) → q ≢ r → location_of new q ≡ location_of old q
  pub links : (e : End) → link_of new e ≡ link_of old e
  pub own : (field : ℕ) → field < links_of kind → IsEnd new (Obj r field)
  pub exact : (field : ℕ) → IsEnd new (Obj r field) → field < links_of kind
  pub ends : (e : End) → IsEnd old e → IsEnd new e
  pub gone : (e : End) → ((field : ℕ) → e ≢ Obj r field) → IsEnd new e → IsEnd old e
  pub slots : slots_of new ≡ slots_of old

-- an object is gone, and its links with it; all else is as it was
pub record IsFreed (old new : View) (r : Ref) : Type 0 where
  pub here : body new r ≡ None
  pub others : (q : Ref) → q ≢ r → body new q ≡ body old q
  pub spots : (q : Ref) → q ≢ r → location_of new q ≡ location_of old q
  pub links : (e : End) → link_of new e ≡ link_of old e
  pub lost : (field : ℕ) → IsEnd new (Obj r field) → ⊥
  pub ends : (e : End) → ((field : ℕ) → e ≢ Obj r field) → IsEnd old e → IsEnd new e
  pub gone : (e : End) → IsEnd new e → IsEnd old e
  pub slots : slots_of new ≡ slots_of old

-- the bytes behind the links of an object are changed; all else is as it was
pub record IsWritten (old new : View) (r : Ref) (change : List ℕ → List ℕ) : Type 0 where
  pub here : IsSomeAnd (body old r) (λ b. body new r ≡ Some (b.0, change b.1))
  pub others : (q : Ref) → q ≢ r → body new q ≡ body old q
  pub spots : (q : Ref) → location_of new q ≡ location_of old q
  pub links : (e : End) → link_of new e ≡ link_of old e
  pub ends : (e : End) → IsEnd old e → IsEnd new e
  pub gone : (e : End) → IsEnd new e → IsEnd old e
  pub slots : slots_of new ≡ slots_of old
  pub usages : new.usages ≡ old.usages
  pub epoch : new.epoch ≡ old.epoch
  pub moved : new.moved ≡ old.moved
  pub compacted : new.compacted ≡ old.compacted

-- A root slot that was not there is there, and names nothing; every other end is as it was. A dropped slot is used again: the bound rises only where each slot below it was there.
pub record IsRootAdded (old new : View) (r : Root) : Type 0 where
  pub fresh : IsEnd old (Slot r) → ⊥
  pub here : IsEnd new (Slot r)
  pub unset : link_of new (Slot r) ≡ None
  pub links : (e : End) → link_of new e ≡ link_of old e
  pub ends : (e : End) → IsEnd old e → IsEnd new e
  pub gone : (e : End) → e ≢ Slot r → IsEnd new e → IsEnd old e
  pub there : (slots_of new).there ≡ (slots_of old).there + 1
  pub bound : (slots_of new).bound ≡ max (slots_of old).bound ((slots_of old).there + 1)

-- a root slot is gone; every other end is as it was
pub record IsRootDropped (old new : View) (r : Root) : Type 0 where
  pub here : IsEnd new (Slot r) → ⊥
  pub links : (e : End) → link_of new e ≡ link_of old e
  pub ends : (e : End) → e ≢ Slot r → IsEnd old e → IsEnd new e
  pub gone : (e : End) → IsEnd new e → IsEnd old e
  pub there : (slots_of new).there + 1 ≡ (slots_of old).there
  pub bound : (slots_of new).bound ≡ (slots_of old).bound

-- the objects, the segments and the counts are as they were
pub record SameButRoots (old new : View) : Type 0 where
  pub bodies : (r : Ref) → body new r ≡ body old r
  pub spots : (r : Ref) → location_of new r ≡ location_of old r
  pub usages : new.usages ≡ old.usages
  pub epoch : new.epoch ≡ old.epoch
  pub moved : new.moved ≡ old.moved
  pub compacted : new.compacted ≡ old.compacted

-- the list has exactly the references of live objects, each once
pub record AreLive (v : View) (refs : List Ref) : Type 0 where
  pub each : (r : Ref) → IsSome (body v r) → Contains refs r
  pub live : (r : Ref) → Contains refs r → IsSome (body v r)
  pub once : AllPairs ◌≢◌ refs

-- What is live is what the objects take: exactly, over a list of all of them, and at least over references each once. So with their count.
pub record IsSummed (v : View) : Type 0 where
  pub whole : (refs : List Ref) → AreLive v refs → sum_by (λ r. object_extent (body v r)) refs ≡ live_bytes v
  pub most : (refs : List Ref) → AllPairs ◌≢◌ refs → sum_by (λ r. object_extent (body v r)) refs ≤ live_bytes v
  pub all : (refs : List Ref) → AreLive v refs → length refs ≡ objects v
  pub few : (refs : List Ref) → AllPairs ◌≢◌ refs → ((r : Ref) → Contains refs r → IsSome (body v r)) → length refs ≤ objects v

-- the objects have new names, one-to-one, and each reference in links and root slots is replaced by its new name; all else is as it was
pub record Renamed (old new : View) (names : List (Ref × Ref)) : Type 0 where
  pub before : AreLive old (map (λ pair. pair.0) names)
  pub after : AreLive new (map (λ pair. pair.1) names)
  pub bodies : (r : Ref) → IsSome (body old r) → body new (named_as names r) ≡ body old r
  pub links : (r : Ref) (field : ℕ) → IsSome (body old r) → link_of new (Obj (named_as names r) field) ≡ option_map (end_as names) (link_of old (Obj r field))
  pub roots : (s : Root) → link_of new (Slot s) ≡ option_map (end_as names) (link_of old (Slot s))
  pub kept : (s : Root) → IsEnd old (Slot s) → IsEnd new (Slot s)
  pub known : (s : Root) → IsEnd new (Slot s) → IsEnd old (Slot s)
  pub slots : slots_of new ≡ slots_of old
  pub budget : length new.usages ≡ length old.usages
  pub live : live_sum new.usages ≡ live_sum old.usages

-- the objects of segment n lie elsewhere, under new names, and it is free; those of other segments lie where they lay
pub record IsEmptied (old new : View) (n : ℕ) (names : List (Ref × Ref)) : Type 0 where
  pub renamed : Renamed old new names
  pub stay : (r : Ref) (s : Location) → location_of old r ≡ Some s → s.segment ≢ n → location_of new (named_as names r) ≡ Some s
  pub gone : (r : Ref) (s : Location) → location_of new r ≡ Some s → s.segment ≢ n
  pub free : usage_of new.usages n ≡ nothing
