-- A memory after an object of a version was made, made anew, or taken out.
use Rattle.std.proofs.Common.{◌≡◌, ◌≢◌, ◌⊎◌, ℕ, List, ◌∷◌, ◌++◌, Option, Some, None, inl, inr, refl, sym, ap, ◌∙◌, subst}
use Rattle.std.specs.Prelude.{Contains}
use Rattle.rc_cell.specs.declared.rows.Row.{Row}
use Rattle.rc_position.specs.declared.positions.Pos.{Pos}
use Rattle.lsa_store.specs.declared.place.Ref.{Ref}
use Rattle.lsa_region.specs.declared.end.End.TheVariants.{Obj}
use Rattle.lsa_region.specs.Region.{View, link_of, IsSummed, IsWell}
use Rattle.lsa_list.specs.declared.recency.List.{List as Slots}
use Rattle.lsa_tree.specs.Entries.{IsEntryAtPosition}
use Rattle.rc_core.specs.Change.{drop_at, gap_split, lost_mark, with_row}
use Rattle.rc_core.specs.Continuity.{with_entries}
use Rattle.rc_core.specs.Steps.{row_joined}
use Rattle.rc_core.specs.Version.{Version}
use Rattle.rc_version.specs.Versions.{ArePutAmong, ArePutOrExchanged, IsJoined, IsKeptBut, IsSplit, IsStaticsOf, IsVersionOf, IsWeighed}
use Rattle.rc_version.specs.laws.Found.{held-has}
use Rattle.rc_memory.specs.Partitions.{standing}
use Rattle.rc_memory.specs.Lists.{elem-here, elem-split, elem-still}
use Rattle.rc_registry.specs.Registry.{Registry}
use Rattle.rc_memory.specs.declared.counts.Counts.{Counts}
use Rattle.rc_memory.specs.Memory.{KeptChain, Member, Memory, IsMemberObject, IsOfVersion}
use Rattle.rc_memory.specs.Changes.{AtAlone, IsVersionChanged, Nowhere, member_at}
use Rattle.rc_memory.specs.Kept.{HoldMemory}
use Rattle.rc_memory.specs.laws.Entries.{here-split}
use Rattle.rc_recency.specs.Holding.{IsHeldVersion}
use Rattle.rc_recency.proofs.Aligned.{IsPutAt, positions, positions-at, positions-split, positions-taken, stay-gone, stay-held, stay-joined, stay-same}
use Rattle.rc_recency.proofs.Changed.{changed-later, held-later, later, member-later}
use Rattle.rc_recency.specs.laws.Held.{own-object, standing-as, stands}

-- another memory is held, with the version changed and the same recency list
pub record IsLater (slots : Slots) (v : View) (registry : Registry) (counts : Counts) (id j : ℕ) (f : Version → Version) (these : Member → Type 0) (m : Memory) : Type 0 where
  pub memory : Memory
  pub held : HoldMemory slots v registry counts memory
  pub changed : IsVersionChanged id j f these m memory
  pub recency : memory.recency ≡ m.recency

-- and an object stands at a place
abbrev pub IsLaterWith : Slots → View → Registry → Counts → ℕ → ℕ → (Version → Version) → (Member → Type 0) → Memory → Ref → Member → Type 0
IsLaterWith slots v registry counts id j f these m r w = (l : IsLater slots v registry counts id j f these m) × IsMemberObject l.memory r w

module _ (slots : Slots) (old new : View) (registry : Registry) (counts : Counts) (m : Memory) (id j : ℕ) (k : KeptChain) (c : Version) (v : Ref) (h : IsHeldVersion slots old registry counts m id j k c v)
    (kept : IsKeptBut v old new) (summed : IsSummed old) (well : IsWell new) (summed_new : IsSummed new) where
  abbrev refs : List Ref
  refs = (standing-as slots old registry counts m id j k c v h).entries

  abbrev is_here : IsVersionOf old v (standing-as slots old registry counts m id j k c v h).entries c
  is_here = stands slots old registry counts m id j k c v h

  module _ (f : Version → Version) (now : List Ref) (is : IsVersionOf new v now (f c)) (weigh : IsWeighed old new c (f c)) where
    pub later-nowhere : ((at : Option Pos) (r : Ref) → IsOfVersion old (standing v (standing-as slots old registry counts m id j k c v h).entries c) at r → IsOfVersion new (standing v now (f c)) at r) → IsLater slots new registry counts id j f Nowhere m
    later-nowhere stay = record {
      memory = later slots old new registry counts m id j k c v h f now kept is summed well summed_new weigh Nowhere (λ at r off o. stay at r o) (λ at on t. t);
      held = held-later slots old new registry counts m id j k c v h f now kept is summed well summed_new weigh Nowhere (λ at r off o. stay at r o) (λ at on t. t);
      changed = changed-later slots old new registry counts m id j k c v h f now kept is summed well summed_new weigh Nowhere (λ at r off o. stay at r o) (λ at on t. t);
      recency = refl;
    }

    module _ (place : Option Pos) (stay : (at : Option Pos) (r : Ref) → at ≢ place → IsOfVersion old (standing v (standing-as slots old registry counts m id j k c v h).entries c) at r → IsOfVersion new (standing v now (f c)) at r)
        (off : Contains m.recency (member_at id j place) → ⊥) where
      stay_beside : (at : Option Pos) (r : Ref) → (AtAlone (member_at id j place) (member_at id j at) → ⊥) → IsOfVersion old (standing v (standing-as slots old registry counts m id j k c v h).entries c) at r → IsOfVersion new (standing v now (f c)) at r
      stay_beside at r ne o = stay at r (λ e. ne (ap (λ p. member_at id j p) e)) o

      free_there : (at : Option Pos) → Contains m.recency (member_at id j at) → AtAlone (member_at id j place) (member_at id j at) → ⊥
      free_there at on e = off (subst (Contains m.recency) e on)

      pub later-alone : IsLater slots new registry counts id j f (AtAlone (member_at id j place)) m
      later-alone = record {
        memory = later slots old new registry counts m id j k c v h f now kept is summed well summed_new weigh (AtAlone (member_at id j place)) stay_beside free_there;
        held = held-later slots old new registry counts m id j k c v h f now kept is summed well summed_new weigh (AtAlone (member_at id j place)) stay_beside free_there;
        changed = changed-later slots old new registry counts m id j k c v h f now kept is summed well summed_new weigh (AtAlone (member_at id j place)) stay_beside free_there;
        recency = refl;
      }

      pub later-alone-with : (r : Ref) → IsOfVersion new (standing v now (f c)) place r → IsLaterWith slots new registry counts id j f (AtAlone (member_at id j place)) m r (member_at id j place)
      unfolding later-alone
      later-alone-with r o = (later-alone, member-later slots old new registry counts m id j k c v h f now kept is summed well summed_new weigh (AtAlone (member_at id j place)) stay_beside free_there place r o)

    pub later-nowhere-with : (stay : (at : Option Pos) (r : Ref) → IsOfVersion old (standing v (standing-as slots old registry counts m id j k c v h).entries c) at r → IsOfVersion new (standing v now (f c)) at r)
        → (at : Option Pos) (r : Ref) → IsOfVersion new (standing v now (f c)) at r → IsLaterWith slots new registry counts id j f Nowhere m r (member_at id j at)
    unfolding later-nowhere
    later-nowhere-with stay at r o = (later-nowhere stay, member-later slots old new registry counts m id j k c v h f now kept is summed well summed_new weigh Nowhere (λ p q off a. stay p q a) (λ p on t. t) at r o)

  -- where the entries and their objects are those before
  module _ (f : Version → Version) (is : IsVersionOf new v (standing-as slots old registry counts m id j k c v h).entries (f c)) (weigh : IsWeighed old new c (f c)) (same : positions (f c).entries ≡ positions c.entries) where
    entry_stays : (y : Pos) (r : Ref) → IsOfVersion old (standing v refs c) (Some y) r → IsOfVersion new (standing v refs (f c)) (Some y) r
    entry_stays y r o = stay-same old new refs refs c.entries (f c).entries is_here.entries is.entries refl same r y o.0 o.1

    pub later-same : link_of new (Obj v 3) ≡ link_of old (Obj v 3) → IsLater slots new registry counts id j f Nowhere m
    later-same link = later-nowhere f refs is weigh stay
      where
        stay : (at : Option Pos) (r : Ref) → IsOfVersion old (standing v refs c) at r → IsOfVersion new (standing v refs (f c)) at r
        stay None r o = link ∙ o
        stay (Some y) r o = entry_stays y r o

    stay_static : (at : Option Pos) (r : Ref) → at ≢ None → IsOfVersion old (standing v refs c) at r → IsOfVersion new (standing v refs (f c)) at r
    stay_static None r ne o = absurd (ne refl)
    stay_static (Some y) r ne o = entry_stays y r o

    pub later-static : (Contains m.recency (member_at id j None) → ⊥) → IsLater slots new registry counts id j f (AtAlone (member_at id j None)) m
    later-static off = later-alone f refs is weigh None stay_static off

    pub later-static-with : (Contains m.recency (member_at id j None) → ⊥) → (r : Ref) → IsStaticsOf new v r → IsLaterWith slots new registry counts id j f (AtAlone (member_at id j None)) m r (member_at id j None)
    later-static-with off r named = later-alone-with f refs is weigh None stay_static off r named

  -- an entry made in a gap
  pub later-split : (S : ℕ) (x : Pos) (r : Ref) → IsSplit S old new v x r → IsLaterWith slots new registry counts id j (λ d. with_entries (gap_split x d.entries) d) Nowhere m r (member_at id j (Some x))
  later-split S x r s = later-nowhere-with (λ d. with_entries (gap_split x d.entries) d) one.0 one.2 (s.live refs c is_here) stay (Some x) r (here one.1, s.at)
    where
      one : (now : List Ref) × ArePutAmong old r refs now × IsVersionOf new v now (with_entries (gap_split x c.entries) c)
      one = s.entries refs c is_here

      here : ArePutAmong old r refs one.0 → Contains one.0 r
      here (inl a) = subst (λ l. Contains l r) (sym a.0) a.1
      here (inr a) = subst (λ l. Contains l r) (sym a.1.3) (elem-here a.1.0 a.1.1 r)

      still : (q : Ref) → Contains refs q → ArePutAmong old r refs one.0 → Contains one.0 q
      still q on (inl a) = subst (λ l. Contains l q) (sym a.0) on
      still q on (inr a) = subst (λ l. Contains l q) (sym a.1.3) (elem-still a.1.0 a.1.1 r q (subst (λ l. Contains l q) a.1.2 on))

      stay : (at : Option Pos) (q : Ref) → IsOfVersion old (standing v refs c) at q → IsOfVersion new (standing v one.0 (with_entries (gap_split x c.entries) c)) at q
      stay None q o = s.statics ∙ o
      stay (Some y) q o = (still q o.0 one.1, stay-held old new refs c.entries is_here.entries s.held q y o.0 o.1)

  -- a row joined at a position
  pub later-joined : (S : ℕ) (x : Pos) (row : Row) (r : Ref) → IsJoined S old new v x row r → (Contains m.recency (member_at id j (Some x)) → ⊥) → IsLaterWith slots new registry counts id j (row_joined x row) (AtAlone (member_at id j (Some x))) m r (member_at id j (Some x))
  later-joined S x row r s off = later-alone-with (row_joined x row) one.0 one.2 (s.live refs c is_here) (Some x) stay off r (subst (λ l. Contains l r) (sym one.1.2) (elem-here one.1.0 one.1.1 r), s.at)
    where
      one : (now : List Ref) × ArePutOrExchanged new r refs now × IsVersionOf new v now (row_joined x row c)
      one = s.entries refs c is_here

      was : (refs ≡ one.1.0 ++ one.1.1) ⊎ ((o : Ref) × (refs ≡ one.1.0 ++ (o ∷ one.1.1)))
      was = elim one.1.3 [ inl put ↦ inl put | inr gone ↦ inr (gone.0, gone.1) ]

      moved : (positions (row_joined x row c).entries ≡ positions c.entries) ⊎ IsPutAt x (positions c.entries) (positions (row_joined x row c).entries)
      moved = let same = positions-at (with_row row) (λ e. refl) x (gap_split x c.entries) in elim (positions-split x c.entries (here-split c x is_here.version.ends)) [
        | inl stays ↦ inl (same ∙ stays)
        | inr put ↦ inr (put.0, put.1, put.2, same ∙ put.3)
      ]

      stay : (at : Option Pos) (q : Ref) → at ≢ Some x → IsOfVersion old (standing v refs c) at q → IsOfVersion new (standing v one.0 (row_joined x row c)) at q
      stay None q ne o = s.statics ∙ o
      stay (Some y) q ne o = stay-joined old new refs one.0 c.entries (row_joined x row c).entries is_here.entries one.2.entries r x one.1.0 one.1.1 one.1.2 was s.at one.2.tree.ascending moved q y (λ e. ne (ap (λ p. Some p) e)) o.0 o.1

  -- an entry taken out
  pub later-dropped : (e : Ref) (x : Pos) → IsMemberObject m e (member_at id j (Some x))
      → ((front back : List Ref) (d : Version) (y : Pos) → IsVersionOf old v (front ++ (e ∷ back)) d → IsEntryAtPosition old e y → IsVersionOf new v (front ++ back) (with_entries (drop_at y d.entries) d))
      → ((front back : List Ref) (d : Version) (y : Pos) → IsVersionOf old v (front ++ (e ∷ back)) d → IsEntryAtPosition old e y → IsWeighed old new d (with_entries (drop_at y d.entries) d))
      → link_of new (Obj v 3) ≡ link_of old (Obj v 3) → (Contains m.recency (member_at id j (Some x)) → ⊥) → IsLater slots new registry counts id j (λ d. with_entries (drop_at x d.entries) d) (AtAlone (member_at id j (Some x))) m
  later-dropped e x place dropped live link off = later-alone (λ d. with_entries (drop_at x d.entries) d) (two.0 ++ two.1) gone (live two.0 two.1 c x there one.1) (Some x) stay off
    where
      one : Contains refs e × IsEntryAtPosition old e x
      one = own-object slots old registry counts m id j k c v h (Some x) e place

      two : (front : List Ref) × (back : List Ref) × (refs ≡ front ++ (e ∷ back))
      two = elem-split refs e one.0

      there : IsVersionOf old v (two.0 ++ (e ∷ two.1)) c
      there = subst (λ l. IsVersionOf old v l c) two.2 is_here

      gone : IsVersionOf new v (two.0 ++ two.1) (with_entries (drop_at x c.entries) c)
      gone = dropped two.0 two.1 c x there one.1

      stay : (at : Option Pos) (q : Ref) → at ≢ Some x → IsOfVersion old (standing v refs c) at q → IsOfVersion new (standing v (two.0 ++ two.1) (with_entries (drop_at x c.entries) c)) at q
      stay None q ne o = link ∙ o
      stay (Some y) q ne o = stay-gone old new refs (two.0 ++ two.1) c.entries (drop_at x c.entries) is_here.entries gone.entries e x two.0 two.1 two.2 refl one.1 is_here.tree.ascending
          (positions-taken lost_mark x c.entries (held-has old refs c.entries x is_here.entries e one.0 one.1)) q y (λ same. ne (ap (λ p. Some p) same)) o.0 o.1
