-- A unit of an update leaves a version, in which an entry stands at the next place, and none behind it but the end dummy.
use Rattle.std.specs.Prelude.{◌≡◌, List, [], ◌∷◌, Option, map as list_map, true, false, cond}
use Rattle.std.proofs.Common.{refl, sym, ap, ◌∙◌, subst}
use Rattle.std.specs.declared.cmp.Ordering.{Ordering}
use Rattle.std.specs.Cmp.{tied_itself}
use Rattle.rc_position.specs.laws.Orders.{pos_cmp_total}
use Rattle.rc_position.specs.laws.Bounds.{place_cmp_total, place_cmp_same}
use Rattle.std.specs.declared.cmp.Ordering.TheVariants.{Less, Equal, Greater}
use Rattle.std.specs.Ordering.{eq_by_cmp, ordering_reverse}
use Rattle.rc_cell.specs.declared.rows.Row.{Row}
use Rattle.rc_cell.specs.declared.writes.Tomb.{Tomb}
use Rattle.rc_position.specs.declared.positions.Pos.{Pos}
use Rattle.rc_position.specs.Position.{Place, Head, Static, Clustered, End, place_cmp, pos_cmp, row_pos}
use Rattle.rc_mutation.specs.declared.fragments.Frag.{Frag}
use Rattle.rc_mutation.specs.declared.fragments.Frag.TheVariants as frag
use Rattle.rc_core.specs.declared.entries.Entry.{Entry}
use Rattle.rc_core.specs.declared.entries.Mark.{Mark}
use Rattle.rc_core.specs.Version.{Ascend, EndsWithDummy, Version, IsVersion, end_position}
use Rattle.rc_core.specs.Change.{change, dummy, entry_changed, gap_split, join_row_at, raised_mark, split_by, with_row}
use Rattle.rc_core.specs.Continuity.{with_entries}
use Rattle.rc_core.specs.laws.Order.{change-is, split-ends, split-is}
use Rattle.rc_core.specs.laws.Spots.{StandsAt, StandsBy, split-stands, position-reached}
use Rattle.rc_core.specs.AtPlace.{EachEntry, EndsBehind, HasItsPlace, StandsAtPlace}
use Rattle.rc_core.specs.laws.Placed.{each-map, each-split, each-wider, has-stands, stands-has}
use Rattle.rc_units.specs.Update.{unit_place, Precedes, raise_upto, split_at, updated_version}
use Rattle.rc_units.proofs.Putting.{row-is}

-- ---- a version

split_at-is : (p : Place) (v : Version) → IsVersion v → IsVersion (with_entries (split_at p v.entries) v)
split_at-is Head v i = i
split_at-is Static v i = i
split_at-is (Clustered x) v i = split-is x v i
split_at-is End v i = i

raise-is : (tomb : Option Tomb) (q : Pos) (p : Place) (v : Version) → IsVersion v → IsVersion (with_entries (raise_upto tomb q p v.entries) v)
raise-is tomb q Head v i = i
raise-is tomb q Static v i = i
raise-is tomb q (Clustered x) v i = change-is (raised_mark tomb) q x v i
raise-is tomb q End v i = change-is (raised_mark tomb) q end_position v i

pub updated-version : (force : Option Tomb) (f : Frag) (next : Place) (v : Version) → IsVersion v → IsVersion (updated_version force f next v)
updated-version force (frag.Start pt) next v i = record { ascend = (split_at-is next v i).ascend; ends = (split_at-is next v i).ends }
updated-version force (frag.Static row) next v i = record { ascend = (split_at-is next v i).ascend; ends = (split_at-is next v i).ends }
updated-version force (frag.Row key row) next v i = raise-is force (row_pos key) next (with_entries (join_row_at (row_pos key) row v.entries) v) (row-is key row v i)
updated-version force (frag.Change from tomb) next v i = raise-is tomb from next v i
updated-version force frag.End next v i = i

-- ---- the next place

-- where an entry stands a split makes none
stands-split : (x : Pos) (es : List Entry) → StandsAt x es → gap_split x es ≡ es
stands-split x [] st = absurd st
stands-split x (e ∷ es) st =
    elim (pos_cmp x e.position) as (λ r. StandsBy r (StandsAt x es) → split_by r x e es (gap_split x es) ≡ e ∷ es) [
      | Less ↦ λ h. absurd h
      | Equal ↦ λ _. refl
      | Greater ↦ λ h. ap (λ xs. e ∷ xs) (stands-split x es h)
    ] st

stands-changed : (f : Mark → Mark) (q p x : Pos) (es : List Entry) → StandsAt x es → StandsAt x (list_map (entry_changed f q p) es)
stands-changed f q p x [] st = st
stands-changed f q p x (e ∷ es) st =
    elim (pos_cmp x e.position) as (λ r. StandsBy r (StandsAt x es) → StandsBy r (StandsAt x (list_map (entry_changed f q p) es))) [
      | Less ↦ λ h. h
      | Equal ↦ λ h. h
      | Greater ↦ λ h. stands-changed f q p x es h
    ] st

-- an entry stands at the place, so that a split there makes none
abbrev pub IsCut : Place → List Entry → Type 0
IsCut p entries = split_at p entries ≡ entries

pub place-cut : (p : Place) (es : List Entry) → Ascend es → HasItsPlace p es → IsCut p es
place-cut Head es a h = refl
place-cut Static es a h = refl
place-cut (Clustered x) es a h = stands-split x es (has-stands x es a h.stands)
place-cut End es a h = refl

stands_at : (p : Place) (es : List Entry) → EndsWithDummy es → StandsAtPlace p (split_at p es)
stands_at Head es d = tt
stands_at Static es d = tt
stands_at (Clustered x) es d = stands-has x (gap_split x es) (split-stands x es (position-reached x es d))
stands_at End es d = tt

stands_raised : (tomb : Option Tomb) (q : Pos) (p : Place) (es : List Entry) → EndsWithDummy es → StandsAtPlace p (raise_upto tomb q p es)
stands_raised tomb q Head es d = tt
stands_raised tomb q Static es d = tt
stands_raised tomb q (Clustered x) es d =
    stands-has x (change (raised_mark tomb) q x es)
    (stands-changed (raised_mark tomb) q x x (gap_split x (gap_split q es)) (split-stands x (gap_split q es) (position-reached x (gap_split q es) (split-ends q es d))))
stands_raised tomb q End es d = tt

-- ---- none stands behind it but the end dummy

pub turned_place : (p q : Place) → place_cmp p q ≡ Less → place_cmp q p ≡ Greater
turned_place p q l = place_cmp_total.antisymm q p ∙ ap ordering_reverse l

itself_behind : (x : Pos) (m : Mark) → EndsBehind (Clustered x) (dummy x m)
itself_behind x m l = let u : Less ≡ Equal = sym l ∙ tied_itself pos_cmp_total x in absurd (cc)

last_split : (p : Place) (es : List Entry) → EachEntry (EndsBehind p) es → EachEntry (EndsBehind p) (split_at p es)
last_split Head es h = h
last_split Static es h = h
last_split (Clustered x) es h = each-split (EndsBehind (Clustered x)) x (itself_behind x) es h
last_split End es h = h

-- a position that is not behind the place may get a dummy
not_behind : (p : Place) (q : Pos) → (place_cmp (Clustered q) p ≡ Greater → ⊥) → (m : Mark) → EndsBehind p (dummy q m)
not_behind p q off m l = absurd (off (turned_place p (Clustered q) l))

last_raised : (tomb : Option Tomb) (q : Pos) (p : Place) (es : List Entry) → (place_cmp (Clustered q) p ≡ Greater → ⊥) → EachEntry (EndsBehind p) es → EachEntry (EndsBehind p) (raise_upto tomb q p es)
last_raised tomb q Head es off h = h
last_raised tomb q Static es off h = h
last_raised tomb q (Clustered x) es off h =
    each-map (EndsBehind (Clustered x)) (entry_changed (raised_mark tomb) q x) (λ _ k. k) (gap_split x (gap_split q es))
    (each-split (EndsBehind (Clustered x)) x (itself_behind x) (gap_split q es) (each-split (EndsBehind (Clustered x)) q (not_behind (Clustered x) q off) es h))
last_raised tomb q End es off h =
    each-map (EndsBehind End) (entry_changed (raised_mark tomb) q end_position) (λ _ k. k) (gap_split end_position (gap_split q es))
    (each-split (EndsBehind End) end_position (λ _ _. refl) (gap_split q es) (each-split (EndsBehind End) q (not_behind End q off) es h))

row_joined_behind : (p : Place) (q : Pos) (row : Row) (es : List Entry) → (place_cmp (Clustered q) p ≡ Greater → ⊥) → EachEntry (EndsBehind p) es → EachEntry (EndsBehind p) (join_row_at q row es)
row_joined_behind p q row es off h =
    each-map (EndsBehind p) (λ e. cond (eq_by_cmp pos_cmp q e.position) (with_row row e) e)
    (λ e k. elim (eq_by_cmp pos_cmp q e.position) as (λ b. EndsBehind p (cond b (with_row row e) e)) [ true ↦ k | false ↦ k ])
    (gap_split q es) (each-split (EndsBehind p) q (not_behind p q off) es h)

not_greater : (r : Ordering) → r ≡ Less → r ≡ Greater → ⊥
not_greater Less e g = cc
not_greater Equal e g = cc
not_greater Greater e g = cc

pub precedes-le : (f : Frag) (p : Place) → Precedes f p → place_cmp (unit_place f) p ≡ Greater → ⊥
precedes-le (frag.Start pt) p h = not_greater (place_cmp Head p) h
precedes-le (frag.Static row) p h = not_greater (place_cmp Static p) h
precedes-le (frag.Row key row) p h = not_greater (place_cmp (unit_place (frag.Row key row)) p) h
precedes-le (frag.Change from tomb) p h = h
precedes-le frag.End p h = absurd h

-- what stands behind the next place stands behind the place
behind_next : (p q : Place) → (place_cmp p q ≡ Greater → ⊥) → (x : Place) → place_cmp q x ≡ Less → place_cmp p x ≡ Less
behind_next p q off x l = by (place_cmp p q) refl
  where
    by : (r : Ordering) → place_cmp p q ≡ r → place_cmp p x ≡ Less
    by Less e = place_cmp_total.trans p q x e l
    by Equal e = subst (λ z. place_cmp z x ≡ Less) (sym (place_cmp_same p q e)) l
    by Greater e = absurd (off e)

pub updated-place : (force : Option Tomb) (f : Frag) (next : Place) (v : Version) → Precedes f next → IsVersion v → HasItsPlace (unit_place f) v.entries → HasItsPlace next (updated_version force f next v).entries
updated-place force f next v p i h = by f p (each-wider (EndsBehind (unit_place f)) (EndsBehind next) (λ e k l. k (behind_next (unit_place f) next (precedes-le f next p) (Clustered e.position) l)) v.entries h.last)
  where
    by : (f : Frag) → Precedes f next → EachEntry (EndsBehind next) v.entries → HasItsPlace next (updated_version force f next v).entries
    by (frag.Start pt) p b = record { stands = stands_at next v.entries i.ends; last = last_split next v.entries b }
    by (frag.Static row) p b = record { stands = stands_at next v.entries i.ends; last = last_split next v.entries b }
    by (frag.Row key row) p b = record {
      stands = stands_raised force (row_pos key) next (join_row_at (row_pos key) row v.entries) (row-is key row v i).ends;
      last = last_raised force (row_pos key) next (join_row_at (row_pos key) row v.entries) (precedes-le (frag.Row key row) next p)
          (row_joined_behind next (row_pos key) row v.entries (precedes-le (frag.Row key row) next p) b);
    }
    by (frag.Change from tomb) p b = record { stands = stands_raised tomb from next v.entries i.ends; last = last_raised tomb from next v.entries p b }
    by frag.End p b = absurd p
