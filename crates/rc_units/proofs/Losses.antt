-- What a unit of an update without room loses is given up: from the place on everything is Unknown.
use Rattle.std.specs.Prelude.{◌≡◌, ◌&&◌, Bool, true, false, List, [], ◌∷◌, Option, None, cond, map as list_map}
use Rattle.std.proofs.Common.{refl, sym, ap, ◌∙◌, subst, inl, inr}
use Rattle.std.specs.declared.cmp.Ordering.{Ordering}
use Rattle.std.specs.declared.cmp.Ordering.TheVariants.{Less, Equal, Greater}
use Rattle.std.specs.Ordering.{ordering_reverse, is_lt, is_le, is_gt}
use Rattle.rc_cell.specs.declared.rows.Row.{Row}
use Rattle.rc_position.specs.declared.positions.Pos.{Pos}
use Rattle.rc_position.specs.Position.{Place, Head, Static, Clustered, End, place_cmp, pos_cmp, IsBefore}
use Rattle.rc_position.specs.laws.Bounds.{place_cmp_total, place_cmp_same}
use Rattle.rc_core.specs.declared.entries.Entry.{Entry}
use Rattle.rc_core.specs.declared.entries.Flag.TheVariants.{Unknown}
use Rattle.rc_core.specs.SpotState.{lost_state}
use Rattle.rc_core.specs.Version.{Spot, On, Behind, finding_of, finding_in, spot_cmp, Version, IsVersion, EndsWithDummy, state_of, static_state, end_position}
use Rattle.rc_core.specs.Change.{lost_mark, position_of}
use Rattle.rc_core.specs.laws.GivenUp.{at_itself}
use Rattle.rc_core.specs.laws.Order.{ascend-map}
use Rattle.rc_core.specs.laws.Spots.{turned, spot-Less, Less-spot, spot-Equal}
use Rattle.rc_core.specs.AtPlace.{IsAtPlace}
use Rattle.rc_core.specs.Unit.{IsGivenUp}
use Rattle.rc_units.specs.Update.{is_from, lost_behind, lost_from}
use Rattle.rc_units.proofs.Cuts.{IsCut, place-cut, turned_place}
use Rattle.rc_units.proofs.Onto.{GapIs, GapBy, CutAt, gap-any, cut-split, map-seen}
use Rattle.rc_units.proofs.Putting.{and_false, not_less, before_end, reached_inside}
use Rattle.rc_units.proofs.Versions.{map-ends}

-- ---- places

from_by : (r : Ordering) (p x y : Place) → place_cmp x p ≡ r → (r ≡ Less → ⊥) → place_cmp x y ≡ Less → place_cmp p y ≡ Less
from_by Less p x y h off l = absurd (off refl)
from_by Equal p x y h off l = subst (λ z. place_cmp z y ≡ Less) (place_cmp_same x p h) l
from_by Greater p x y h off l = place_cmp_total.trans p x y (place_cmp_total.antisymm p x ∙ ap ordering_reverse h) l

le_by : (r : Ordering) (p x : Place) → place_cmp x p ≡ r → (r ≡ Less → ⊥) → is_le (place_cmp p x) ≡ true
le_by Less p x h off = absurd (off refl)
le_by Equal p x h off = ap is_le (place_cmp_total.antisymm p x ∙ ap ordering_reverse h)
le_by Greater p x h off = ap is_le (place_cmp_total.antisymm p x ∙ ap ordering_reverse h)

-- ---- what is seen

gap_more : (P Q : Pos → Type 0) (s : Spot) (es : List Entry) → ((y : Pos) → P y → Q y) → GapIs P s es → GapIs Q s es
gap_more P Q s [] h g = tt
gap_more P Q s (y ∷ ys) h g = elim (spot_cmp s y.position) as (λ r. GapBy r (P y.position) (GapIs P s ys) → GapBy r (Q y.position) (GapIs Q s ys)) [ Less ↦ λ p. h y.position p | Equal ↦ λ _. tt | Greater ↦ λ p. gap_more P Q s ys h p ] g

-- the gap that answers before the place belongs to an entry that is not behind it
before_place : (s : Spot) (p : Place) (es : List Entry) → IsCut p es → place_cmp (Clustered (position_of s)) p ≡ Less → GapIs (λ y. is_lt (place_cmp p (Clustered y)) ≡ false) s es
before_place s Head es cut l = absurd (cc)
before_place s Static es cut l = absurd (cc)
before_place s (Clustered q) es cut l =
    gap_more (CutAt s q) (λ y. is_lt (pos_cmp q y) ≡ false) s es (λ y c. sym (turned y q) ∙ c (ap is_gt (Less-spot s q l)))
    (subst (GapIs (CutAt s q) s) cut (cut-split s q es))
before_place s End es cut l = gap-any (λ y. is_lt (place_cmp End (Clustered y)) ≡ false) s es (λ y. refl)

module _ (p : Place) (s : Spot) (es : List Entry) where
  pub lost-before : IsCut p es → place_cmp (Clustered (position_of s)) p ≡ Less → finding_in s (list_map (lost_behind p) es) ≡ finding_in s es
  lost-before cut l =
      map-seen (lost_behind p) (λ y. refl) s (λ a. a) (λ y. is_lt (place_cmp p (Clustered y)) ≡ false)
      (λ y h g. ap (λ b. finding_of (cond b lost_mark y.gap) None) g)
      (λ y h. ap (λ b. finding_of (cond b lost_mark y.at) (cond b None y.row))
      (ap (λ r. is_le r && is_lt (pos_cmp y.position end_position)) (turned_place (Clustered y.position) p (subst (λ x. place_cmp (Clustered x) p ≡ Less) (spot-Equal s y.position h) l))))
      es (inr refl) (before_place s p es cut l)

  pub lost-within : (place_cmp (Clustered (position_of s)) p ≡ Less → ⊥) → IsBefore (position_of s) end_position → EndsWithDummy es → finding_in s (list_map (lost_behind p) es) ≡ finding_of lost_mark None
  lost-within off b d =
      map-seen (lost_behind p) (λ y. refl) s (λ _. finding_of lost_mark None) (λ _. Unit {0})
      (λ y h _. ap (λ r. finding_of (cond (is_lt r) lost_mark y.gap) None) (from_by (place_cmp (Clustered (position_of s)) p) p (Clustered (position_of s)) (Clustered y.position) refl off (spot-Less s y.position h)))
      (λ y h. ap (λ b. finding_of (cond b lost_mark y.at) (cond b None y.row))
      (subst (λ x. (is_le (place_cmp p (Clustered x)) && is_lt (pos_cmp x end_position)) ≡ true) (spot-Equal s y.position h)
      (λ i. le_by (place_cmp (Clustered (position_of s)) p) p (Clustered (position_of s)) refl off i && is_lt (b i))))
      es (inl (reached_inside s es d b)) (gap-any (λ _. Unit {0}) s es (λ _. tt))

  pub lost-end : (pos_cmp (position_of s) end_position ≡ Less → ⊥) → finding_in s (list_map (lost_behind p) es) ≡ finding_in s es
  lost-end off =
      map-seen (lost_behind p) (λ y. refl) s (λ a. a) (λ _. Unit {0})
      (λ y h _. absurd (off (before_end y.position (position_of s) (spot-Less s y.position h))))
      (λ y h. ap (λ b. finding_of (cond b lost_mark y.at) (cond b None y.row))
      (ap (λ b. is_le (place_cmp p (Clustered y.position)) && b) (not_less (pos_cmp y.position end_position) (subst (λ x. pos_cmp x end_position ≡ Less → ⊥) (spot-Equal s y.position h) off)) ∙ and_false (is_le (place_cmp p (Clustered y.position)))))
      es (inr refl) (gap-any (λ _. Unit {0}) s es (λ _. tt))

-- ---- a version

pub lost_from-version : (p : Place) (v : Version) → IsVersion v → IsVersion (lost_from p v)
lost_from-version p v i = record {
  ascend = ascend-map (lost_behind p) (λ y. refl) v.entries i.ascend;
  ends = map-ends (lost_behind p) (λ y. refl) (λ y _ none. no_row (is_from p y.position) y.row none) v.entries i.ends;
}
  where
    no_row : (b : Bool) (row : Option Row) → row ≡ None → cond b None row ≡ None
    no_row true row h = refl
    no_row false row h = h

pub positions-stay : (p : Place) (es : List Entry) → list_map (λ (e : Entry). e.position) (list_map (lost_behind p) es) ≡ list_map (λ (e : Entry). e.position) es
positions-stay p [] = refl
positions-stay p (e ∷ es) = ap (λ xs. e.position ∷ xs) (positions-stay p es)

statics_kept : (b : Bool) (v : Version) → b ≡ false → static_state (cond b (record { pt = v.pt; statics = None; static_flag = Unknown; entries = v.entries; phase = v.phase }) v) ≡ static_state v
statics_kept true v h = absurd (cc)
statics_kept false v h = refl

statics_gone : (b : Bool) (v : Version) → b ≡ true → static_state (cond b (record { pt = v.pt; statics = None; static_flag = Unknown; entries = v.entries; phase = v.phase }) v) ≡ lost_state
statics_gone true v h = refl
statics_gone false v h = absurd (cc)

pub statics-lost : (p : Place) (v : Version) → (place_cmp Static p ≡ Less → ⊥) → static_state (lost_from p v) ≡ lost_state
statics-lost p v off = statics_gone (is_le (place_cmp p Static)) v (le_by (place_cmp Static p) p Static refl off)

head_kept : (b : Bool) (v : Version) → (cond b (record { pt = v.pt; statics = None; static_flag = Unknown; entries = v.entries; phase = v.phase }) v).pt ≡ v.pt
head_kept true v = refl
head_kept false v = refl

-- ---- what is lost is given up

pub lost-is : (p : Place) (v : Version) → IsVersion v → IsAtPlace p v → IsGivenUp p v (lost_from p v)
lost-is p v i a = record {
  head = head_kept (is_le (place_cmp p Static)) v;
  statics = statics-lost p v;
  statics_left = λ l. statics_kept (is_le (place_cmp p Static)) v (ap is_le (turned_place Static p l));
  clustered = λ x off b. (ap state_of (lost-within p (On x) v.entries off b i.ends), ap state_of (lost-within p (Behind x) v.entries off b i.ends));
  clustered_left = λ s l. ap state_of (lost-before p s v.entries (place-cut p v.entries i.ascend a.place) l);
  at_end = inl (ap state_of (lost-end p (On end_position) v.entries (λ l. let u : Less ≡ Equal = sym l ∙ at_itself in cc)));
}

lost_phase : (b : Bool) (v : Version) → (cond b (record { pt = v.pt; statics = None; static_flag = Unknown; entries = v.entries; phase = v.phase }) v).phase ≡ v.phase
lost_phase true v = refl
lost_phase false v = refl

pub lost-phase : (p : Place) (v : Version) → (lost_from p v).phase ≡ v.phase
lost-phase p v = lost_phase (is_le (place_cmp p Static)) v
