-- A version without the object at a place: it is a version, each spot is said as before or lost, and its other objects are there still.
use Rattle.std.proofs.Common.{◌≡◌, ◌≢◌, Bool, true, false, cond, List, [], ◌∷◌, Option, Some, None, inl, inr, refl, sym, ap, ◌∙◌, subst}
use Rattle.std.specs.Cmp.{tied_itself}
use Rattle.std.specs.declared.cmp.Ordering.{Ordering}
use Rattle.std.specs.declared.cmp.Ordering.TheVariants.{Less, Equal, Greater}
use Rattle.std.specs.Ordering.{eq_by_cmp, is_eq, is_gt}
use Rattle.rc_position.specs.declared.positions.Pos.{Pos}
use Rattle.rc_position.specs.Position.{IsBefore, pos_cmp}
use Rattle.rc_position.specs.laws.Bounds.{last_pos-greatest}
use Rattle.rc_position.specs.laws.Orders.{eq_by_cmp-same, pos_cmp_same, pos_cmp_total}
use Rattle.rc_core.specs.declared.entries.Entry.{Entry}
use Rattle.rc_core.specs.AtPlace.{HasEntryAt}
use Rattle.rc_core.specs.Change.{drop_at, lose_last_gap, lost_mark}
use Rattle.rc_core.specs.Continuity.{IsEvicted, with_entries, without_statics}
use Rattle.rc_core.specs.Version.{IsVersion, Version, end_position}
use Rattle.rc_core.specs.laws.Losing.{end-evicted, entry-evicted, statics-evicted}
use Rattle.rc_core.specs.laws.Order.{lose_last-is, take_out-is}
use Rattle.rc_memory.specs.Recency.{HasObject}
use Rattle.rc_memory.specs.laws.Entries.{keeps-dropped}
use Rattle.rc_memory.specs.laws.Listing.{pos_decided}
use Rattle.rc_evict.specs.Evictions.{evicted_at}

-- no position stands behind the end
before : (x : Pos) (r : Ordering) → pos_cmp x end_position ≡ r → (x ≡ end_position → ⊥) → r ≡ Less
before x Less e off = refl
before x Equal e off = absurd (off (pos_cmp_same x end_position e))
before x Greater e off = let u : false ≡ true = sym (last_pos-greatest x) ∙ ap is_gt e in absurd (cc)

pub before-end : (x : Pos) → x ≢ end_position → IsBefore x end_position
before-end x off = before x (pos_cmp x end_position) refl off

same_test : (x : Pos) → eq_by_cmp pos_cmp x x ≡ true
same_test x = ap is_eq (tied_itself pos_cmp_total x)

other_test : (x y : Pos) → x ≢ y → eq_by_cmp pos_cmp x y ≡ false
other_test x y ne = told (eq_by_cmp pos_cmp x y) refl
  where
    told : (b : Bool) → b ≡ eq_by_cmp pos_cmp x y → b ≡ false
    told true e = absurd (ne ((eq_by_cmp-same pos_cmp_total pos_cmp_same x y true e).0 refl))
    told false e = refl

-- ---- what is done at each place

pub at-end : (v : Version) → evicted_at (Some end_position) v ≡ with_entries (lose_last_gap v.entries) v
at-end v = ap (λ b. with_entries (cond b (lose_last_gap v.entries) (drop_at end_position v.entries)) v) (same_test end_position)

pub at-inner : (x : Pos) (v : Version) → x ≢ end_position → evicted_at (Some x) v ≡ with_entries (drop_at x v.entries) v
at-inner x v ne = ap (λ b. with_entries (cond b (lose_last_gap v.entries) (drop_at x v.entries)) v) (other_test x end_position ne)

-- by what stands there
pub evicted-by : (P : Version → Type 0) (at : Option Pos) (v : Version) → (at ≡ None → P (without_statics v)) → (at ≡ Some end_position → P (with_entries (lose_last_gap v.entries) v))
    → ((x : Pos) → at ≡ Some x → x ≢ end_position → P (with_entries (drop_at x v.entries) v)) → P (evicted_at at v)
evicted-by P None v statics end inner = statics refl
evicted-by P (Some x) v statics end inner = elim (pos_decided x end_position) [
  | inl same ↦ subst P (sym (ap (λ y. evicted_at (Some y) v) same ∙ at-end v)) (end (ap (λ y. Some y) same))
  | inr ne ↦ subst P (sym (at-inner x v ne)) (inner x refl ne)
]

-- ---- what is left

pub evicted-is : (at : Option Pos) (v : Version) → IsVersion v → IsVersion (evicted_at at v)
evicted-is at v i = evicted-by IsVersion at v (λ e. record { ascend = i.ascend; ends = i.ends }) (λ e. lose_last-is v i) (λ x e ne. take_out-is lost_mark x v (before-end x ne) i)

pub evicted-lost : (at : Option Pos) (v : Version) → IsVersion v → IsEvicted v (evicted_at at v)
evicted-lost at v i = evicted-by (IsEvicted v) at v (λ e. statics-evicted v) (λ e. end-evicted v) (λ x e ne. entry-evicted v x i (before-end x ne))

pub evicted-phase : (at : Option Pos) (v : Version) → (evicted_at at v).phase ≡ v.phase
evicted-phase None v = refl
evicted-phase (Some x) v = refl

pub has-lost : (y : Pos) (es : List Entry) → HasEntryAt y es → HasEntryAt y (lose_last_gap es)
has-lost y [] h = h
has-lost y (e ∷ []) h = h
has-lost y (e ∷ f ∷ es) (inl h) = inl h
has-lost y (e ∷ f ∷ es) (inr h) = inr (has-lost y (f ∷ es) h)

beside_statics : (other : Option Pos) (v : Version) → other ≢ None → HasObject v other → HasObject (without_statics v) other
beside_statics None v ne h = absurd (ne refl)
beside_statics (Some y) v ne h = h

beside_end : (other : Option Pos) (v : Version) → HasObject v other → HasObject (with_entries (lose_last_gap v.entries) v) other
beside_end None v h = h
beside_end (Some y) v h = has-lost y v.entries h

pub evicted-keeps : (at other : Option Pos) (v : Version) → other ≢ at → HasObject v other → HasObject (evicted_at at v) other
evicted-keeps at other v ne h = evicted-by (λ w. HasObject w other) at v
    (λ e. beside_statics other v (λ s. ne (s ∙ sym e)) h)
    (λ e. beside_end other v h)
    (λ x e inner. keeps-dropped v x other (λ s. ne (s ∙ sym e)) h)
