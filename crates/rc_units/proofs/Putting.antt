-- What a version says after the unit of a fragment.
use Rattle.std.specs.Prelude.{◌⊎◌, ◌≡◌, ◌&&◌, Bool, true, false, List, [], ◌∷◌, Option, Some, None, cond}
use Rattle.std.proofs.Common.{refl, sym, ap, ◌∙◌, subst, ⊎_elim, inl, inr}
use Rattle.std.specs.declared.cmp.Ordering.{Ordering}
use Rattle.std.specs.declared.cmp.Ordering.TheVariants.{Less, Equal, Greater}
use Rattle.std.specs.Option.{option_to_list}
use Rattle.std.specs.Ordering.{is_lt, is_le, is_gt, is_eq}
use Rattle.std.specs.Cmp.{tied_itself}
use Rattle.rc_cell.specs.declared.rows.Row.{Row}
use Rattle.rc_cell.specs.declared.writes.Tomb.{Tomb}
use Rattle.rc_position.specs.declared.comps.Comp.{Comp}
use Rattle.rc_position.specs.declared.positions.Pos.{Pos}
use Rattle.rc_position.specs.Position.{Place, Head, Static, Clustered, End, place_cmp, pos_cmp, row_pos, covers, IsBefore}
use Rattle.rc_position.specs.laws.Orders.{pos_cmp_total, pos_cmp_same}
use Rattle.rc_position.specs.laws.Bounds.{After-rows, last_pos-greatest}
use Rattle.rc_mutation.specs.declared.fragments.Frag.{Frag}
use Rattle.rc_mutation.specs.declared.fragments.Frag.TheVariants as frag
use Rattle.rc_core.specs.declared.entries.Entry.{Entry}
use Rattle.rc_core.specs.declared.entries.Flag.TheVariants.{Inherit}
use Rattle.rc_core.specs.declared.entries.Mark.{Mark}
use Rattle.rc_core.specs.SpotState.{spot_state, silent}
use Rattle.rc_core.specs.Version.{Spot, On, Behind, Finding, finding_of, finding_in, gap_ordering, entry_answers, state_of, state_at, IsBeforeEnd, EndsWithDummy, Version, IsVersion, end_position}
use Rattle.rc_core.specs.Change.{mark, change, joined_onto, raised_mark, join_row_at, position_of}
use Rattle.rc_core.specs.Continuity.{with_entries}
use Rattle.rc_core.specs.laws.Order.{join_row-is}
use Rattle.rc_core.specs.laws.Spots.{turned, turn_to, with_f, change-seen, split-seen, position-reached, gap-reached, join_row-there, join_row-elsewhere}
use Rattle.rc_core.specs.AtPlace.{IsSilentFrom}
use Rattle.rc_core.specs.Unit.{IsStretch}
use Rattle.rc_units.specs.Update.{unit_place, fragment_state_at, Precedes, split_at, raise_upto, updated_version}
use Rattle.rc_units.proofs.Onto.{nothing_found}

-- ---- orders

pub not_less : (r : Ordering) → (r ≡ Less → ⊥) → is_lt r ≡ false
not_less Less h = absurd (h refl)
not_less Equal h = refl
not_less Greater h = refl

le_of : (r : Ordering) → is_gt r ≡ false → is_le r ≡ true
le_of Less h = refl
le_of Equal h = refl
le_of Greater h = absurd (cc)

pub and_false : (b : Bool) → (b && false) ≡ false
and_false true = refl
and_false false = refl

pub at_or_behind : (x q : Pos) → (pos_cmp x q ≡ Less → ⊥) → is_le (pos_cmp q x) ≡ true
at_or_behind x q off = le_of (pos_cmp q x) (turned q x ∙ not_less (pos_cmp x q) off)

covered : (q p x : Pos) → (pos_cmp x q ≡ Less → ⊥) → pos_cmp x p ≡ Less → covers q p x ≡ true
covered q p x off l = λ i. at_or_behind x q off i && is_lt (l i)

uncovered_before : (q p x : Pos) → pos_cmp x q ≡ Less → covers q p x ≡ false
uncovered_before q p x l = ap (λ r. is_le r && is_lt (pos_cmp x p)) (turn_to x q Less l)

uncovered_behind : (q p x : Pos) → (pos_cmp x p ≡ Less → ⊥) → covers q p x ≡ false
uncovered_behind q p x off = ap (λ b. is_le (pos_cmp q x) && b) (not_less (pos_cmp x p) off) ∙ and_false (is_le (pos_cmp q x))

upto_end : (y x : Pos) (r : Ordering) → pos_cmp y end_position ≡ r → pos_cmp x y ≡ Less → pos_cmp x end_position ≡ Less
upto_end y x Less h l = pos_cmp_total.trans x y end_position l h
upto_end y x Equal h l = subst (λ z. pos_cmp x z ≡ Less) (pos_cmp_same y end_position h) l
upto_end y x Greater h l = let u : true ≡ false = sym (ap is_gt h) ∙ last_pos-greatest y in absurd (cc)

-- a position before another one is before the end
pub before_end : (y x : Pos) → pos_cmp x y ≡ Less → pos_cmp x end_position ≡ Less
before_end y x l = upto_end y x (pos_cmp y end_position) refl l

pub row_before_end : (key : List Comp) → IsBefore (row_pos key) end_position
row_before_end key = After-rows [] key

-- ---- spots that no entry of a version reaches

past_it : (r : Ordering) → (r ≡ Less → ⊥) → gap_ordering r ≡ Greater
past_it Less off = absurd (off refl)
past_it Equal off = refl
past_it Greater off = refl

past_end : (x : Pos) (es : List Entry) → (pos_cmp x end_position ≡ Less → ⊥) → finding_in (Behind x) es ≡ nothing_found
past_end x [] off = refl
past_end x (e ∷ es) off = ap (λ r. entry_answers r e (finding_in (Behind x) es)) (past_it (pos_cmp x e.position) (λ l. off (before_end e.position x l))) ∙ past_end x es off

pub less_or_not : (r : Ordering) → (r ≡ Less) ⊎ (r ≡ Less → ⊥)
less_or_not Less = inl refl
less_or_not Equal = inr (λ h. cc)
less_or_not Greater = inr (λ h. cc)

pub reached : (s : Spot) (es : List Entry) → EndsWithDummy es → IsBeforeEnd s es ⊎ ((zs : List Entry) → finding_in s zs ≡ nothing_found)
reached (On x) es d = inl (position-reached x es d)
reached (Behind x) es d = ⊎_elim (λ l. inl (gap-reached x es d l)) (λ off. inr (λ zs. past_end x zs off)) (less_or_not (pos_cmp x end_position))

-- ---- what is raised

unchanged : (f : Mark → Mark) (q p : Pos) (s : Spot) (es : List Entry) → EndsWithDummy es → covers q p (position_of s) ≡ false → finding_in s (change f q p es) ≡ finding_in s es
unchanged f q p s es d e = ⊎_elim
    (λ b. change-seen f s q p es b ∙ ap (λ c. cond c (with_f f (finding_in s es)) (finding_in s es)) e)
    (λ z. z (change f q p es) ∙ sym (z es))
    (reached s es d)

changed_in : (f : Mark → Mark) (q p : Pos) (s : Spot) (es : List Entry) → IsBeforeEnd s es → covers q p (position_of s) ≡ true → finding_in s (change f q p es) ≡ with_f f (finding_in s es)
changed_in f q p s es b e = change-seen f s q p es b ∙ ap (λ c. cond c (with_f f (finding_in s es)) (finding_in s es)) e

pub reached_inside : (s : Spot) (es : List Entry) → EndsWithDummy es → IsBefore (position_of s) end_position → IsBeforeEnd s es
reached_inside (On x) es d l = position-reached x es d
reached_inside (Behind x) es d l = gap-reached x es d l

module _ (tomb : Option Tomb) (q : Pos) (es : List Entry) (d : EndsWithDummy es) (s : Spot) where
  pub raise-before : (next : Place) → pos_cmp (position_of s) q ≡ Less → finding_in s (raise_upto tomb q next es) ≡ finding_in s es
  raise-before Head l = refl
  raise-before Static l = refl
  raise-before (Clustered y) l = unchanged (raised_mark tomb) q y s es d (uncovered_before q y (position_of s) l)
  raise-before End l = unchanged (raised_mark tomb) q end_position s es d (uncovered_before q end_position (position_of s) l)

  pub raise-within : (next : Place) → (pos_cmp (position_of s) q ≡ Less → ⊥) → IsBefore (position_of s) end_position → place_cmp (Clustered (position_of s)) next ≡ Less →
      finding_in s (raise_upto tomb q next es) ≡ with_f (raised_mark tomb) (finding_in s es)
  raise-within Head off l h = absurd (cc)
  raise-within Static off l h = absurd (cc)
  raise-within (Clustered y) off l h = changed_in (raised_mark tomb) q y s es (reached_inside s es d l) (covered q y (position_of s) off h)
  raise-within End off l h = changed_in (raised_mark tomb) q end_position s es (reached_inside s es d l) (covered q end_position (position_of s) off l)

  pub raise-behind : (next : Place) → (place_cmp (Clustered (position_of s)) next ≡ Less → ⊥) → finding_in s (raise_upto tomb q next es) ≡ finding_in s es
  raise-behind Head off = refl
  raise-behind Static off = refl
  raise-behind (Clustered y) off = unchanged (raised_mark tomb) q y s es d (uncovered_behind q y (position_of s) off)
  raise-behind End off = absurd (off refl)

  pub raise-end : (next : Place) → (pos_cmp (position_of s) end_position ≡ Less → ⊥) → finding_in s (raise_upto tomb q next es) ≡ finding_in s es
  raise-end Head off = refl
  raise-end Static off = refl
  raise-end (Clustered y) off = unchanged (raised_mark tomb) q y s es d (uncovered_behind q y (position_of s) (λ l. off (before_end y (position_of s) l)))
  raise-end End off = unchanged (raised_mark tomb) q end_position s es d (uncovered_behind q end_position (position_of s) off)

-- ---- a row

-- a joined row leaves a version
pub row-is : (key : List Comp) (row : Row) (v : Version) → IsVersion v → IsVersion (with_entries (join_row_at (row_pos key) row v.entries) v)
row-is key row v i = join_row-is (row_pos key) row v (row_before_end key) i

-- ---- a fragment

pub none_listed : {A : Type 0} (o : Option A) → option_to_list o ≡ [] → o ≡ None
none_listed None h = refl
none_listed (Some x) h = absurd (cc)

-- a spot of which nothing is said
pub state-silent : (a : Finding) → state_of a ≡ silent → a ≡ nothing_found
state-silent a h = λ i. finding_of (mark (h i).flag (none_listed a.mark.tomb (ap (λ c. c.tombs) h) i)) (none_listed a.row (ap (λ c. c.rows) h) i)

not_on : (s : Spot) (q : Pos) → (position_of s ≡ q → ⊥) → s ≡ On q → ⊥
not_on s q off e = off (ap position_of e)

less_than_itself : (x : Pos) → pos_cmp x x ≡ Less → ⊥
less_than_itself x l = let u : Less ≡ Equal = sym l ∙ tied_itself pos_cmp_total x in cc

apart : (x q : Pos) → pos_cmp x q ≡ Less → x ≡ q → ⊥
apart x q l e = less_than_itself q (subst (λ z. pos_cmp z q ≡ Less) e l)

split_seen_at : (s : Spot) (next : Place) (es : List Entry) → finding_in s (split_at next es) ≡ finding_in s es
split_seen_at s Head es = refl
split_seen_at s Static es = refl
split_seen_at s (Clustered x) es = split-seen s x es
split_seen_at s End es = refl

module _ (force : Option Tomb) (next : Place) (v : Version) (i : IsVersion v) (s : Spot) where
  pub unit-before : (f : Frag) → Precedes f next → place_cmp (Clustered (position_of s)) (unit_place f) ≡ Less → finding_in s (updated_version force f next v).entries ≡ finding_in s v.entries
  unit-before (frag.Start pt) p l = split_seen_at s next v.entries
  unit-before (frag.Static row) p l = split_seen_at s next v.entries
  unit-before (frag.Row key row) p l =
      raise-before force (row_pos key) (join_row_at (row_pos key) row v.entries) (row-is key row v i).ends s next l
      ∙ join_row-elsewhere s (row_pos key) row v.entries (not_on s (row_pos key) (apart (position_of s) (row_pos key) l))
  unit-before (frag.Change from tomb) p l = raise-before tomb from v.entries i.ends s next l
  unit-before frag.End p l = refl

  pub unit-behind : (f : Frag) → Precedes f next → (place_cmp (Clustered (position_of s)) next ≡ Less → ⊥) → finding_in s (updated_version force f next v).entries ≡ finding_in s v.entries
  unit-behind (frag.Start pt) p off = split_seen_at s next v.entries
  unit-behind (frag.Static row) p off = split_seen_at s next v.entries
  unit-behind (frag.Row key row) p off =
      raise-behind force (row_pos key) (join_row_at (row_pos key) row v.entries) (row-is key row v i).ends s next off
      ∙ join_row-elsewhere s (row_pos key) row v.entries (not_on s (row_pos key) (λ e. off (ap (λ x. place_cmp (Clustered x) next) e ∙ p)))
  unit-behind (frag.Change from tomb) p off = raise-behind tomb from v.entries i.ends s next off
  unit-behind frag.End p off = refl

  pub unit-end : (f : Frag) → Precedes f next → (pos_cmp (position_of s) end_position ≡ Less → ⊥) → finding_in s (updated_version force f next v).entries ≡ finding_in s v.entries
  unit-end (frag.Start pt) p off = split_seen_at s next v.entries
  unit-end (frag.Static row) p off = split_seen_at s next v.entries
  unit-end (frag.Row key row) p off =
      raise-end force (row_pos key) (join_row_at (row_pos key) row v.entries) (row-is key row v i).ends s next off
      ∙ join_row-elsewhere s (row_pos key) row v.entries (not_on s (row_pos key) (λ e. off (ap (λ x. pos_cmp x end_position) e ∙ row_before_end key)))
  unit-end (frag.Change from tomb) p off = raise-end tomb from v.entries i.ends s next off
  unit-end frag.End p off = refl

  -- where the version said nothing, it says what is raised
  pub raised-nothing : (tomb : Option Tomb) (q : Pos) (es : List Entry) → EndsWithDummy es → (row : Option Row) → finding_in s es ≡ finding_of (mark Inherit None) row →
      (pos_cmp (position_of s) q ≡ Less → ⊥) → IsBefore (position_of s) end_position → place_cmp (Clustered (position_of s)) next ≡ Less →
      finding_in s (raise_upto tomb q next es) ≡ finding_of (mark Inherit tomb) row
  raised-nothing tomb q es d row e off l h = raise-within tomb q es d s next off l h ∙ ap (with_f (raised_mark tomb)) e

-- the row of a fragment, where it says nothing else
row_within : (force : Option Tomb) (next : Place) (v : Version) (i : IsVersion v) (key : List Comp) (row : Row) (s : Spot) → finding_in s v.entries ≡ nothing_found →
    (pos_cmp (position_of s) (row_pos key) ≡ Less → ⊥) → IsBefore (position_of s) end_position → place_cmp (Clustered (position_of s)) next ≡ Less →
    state_at s (updated_version force (frag.Row key row) next v) ≡ fragment_state_at force (frag.Row key row) s
row_within force next v i key row (Behind x) e off l h =
    ap state_of (raised-nothing force next v i (Behind x) force (row_pos key) (join_row_at (row_pos key) row v.entries) (row-is key row v i).ends None
    (join_row-elsewhere (Behind x) (row_pos key) row v.entries (λ e. cc) ∙ e) off l h)
row_within force next v i key row (On x) e off l h =
    elim (pos_cmp x (row_pos key)) as (λ r. pos_cmp x (row_pos key) ≡ r → state_at (On x) (updated_version force (frag.Row key row) next v) ≡ spot_state Inherit (cond (is_eq r) (row ∷ []) []) (option_to_list force)) [
      | Less ↦ λ k. absurd (off k)
      | Equal ↦ λ k. ap state_of (raised-nothing force next v i (On x) force (row_pos key) (join_row_at (row_pos key) row v.entries) (row-is key row v i).ends (Some row) (there k) off l h)
      | Greater ↦ λ k. ap state_of (raised-nothing force next v i (On x) force (row_pos key) (join_row_at (row_pos key) row v.entries) (row-is key row v i).ends None (elsewhere k) off l h)
    ] refl
  where
    there : pos_cmp x (row_pos key) ≡ Equal → finding_in (On x) (join_row_at (row_pos key) row v.entries) ≡ finding_of (mark Inherit None) (Some row)
    there k =
        let same = pos_cmp_same x (row_pos key) k in
        subst (λ z. finding_in (On z) (join_row_at (row_pos key) row v.entries) ≡ finding_of (mark Inherit None) (Some row)) (sym same)
        (join_row-there (row_pos key) row v.entries i.ends ∙ ap (λ (a : Finding). finding_of a.mark (Some (joined_onto a.row row))) (subst (λ z. finding_in (On z) v.entries ≡ nothing_found) same e))

    elsewhere : pos_cmp x (row_pos key) ≡ Greater → finding_in (On x) (join_row_at (row_pos key) row v.entries) ≡ nothing_found
    elsewhere k = join_row-elsewhere (On x) (row_pos key) row v.entries (λ g. let u : Greater ≡ Equal = sym k ∙ ap (λ z. pos_cmp (position_of z) (row_pos key)) g ∙ tied_itself pos_cmp_total (row_pos key) in cc) ∙ e

module _ (force : Option Tomb) (next : Place) (v : Version) (i : IsVersion v) (s : Spot) (l : IsBefore (position_of s) end_position) where
  pub unit-within : (f : Frag) → Precedes f next → IsSilentFrom (unit_place f) v → IsStretch (unit_place f) next (Clustered (position_of s)) → state_at s (updated_version force f next v) ≡ fragment_state_at force f s
  unit-within (frag.Start pt) p quiet w = ap state_of (split_seen_at s next v.entries) ∙ quiet.clustered s w.begun ∙ nothing_said s
    where
      nothing_said : (s : Spot) → silent ≡ fragment_state_at force (frag.Start pt) s
      nothing_said (On x) = refl
      nothing_said (Behind x) = refl
  unit-within (frag.Static row) p quiet w = ap state_of (split_seen_at s next v.entries) ∙ quiet.clustered s w.begun ∙ nothing_said s
    where
      nothing_said : (s : Spot) → silent ≡ fragment_state_at force (frag.Static row) s
      nothing_said (On x) = refl
      nothing_said (Behind x) = refl
  unit-within (frag.Row key row) p quiet w = row_within force next v i key row s (state-silent (finding_in s v.entries) (quiet.clustered s w.begun)) w.begun l w.short
  unit-within (frag.Change from tomb) p quiet w =
      ap state_of (raised-nothing force next v i s tomb from v.entries i.ends None (state-silent (finding_in s v.entries) (quiet.clustered s w.begun)) w.begun l w.short) ∙ said_of s
    where
      said_of : (s : Spot) → spot_state Inherit [] (option_to_list tomb) ≡ fragment_state_at force (frag.Change from tomb) s
      said_of (On x) = refl
      said_of (Behind x) = refl
  unit-within frag.End p quiet w = absurd p
