-- A place and the open gap behind it: the tests of both say whether all that is known up to the next entry is said.
use Rattle.std.specs.Prelude.{◌≡◌, ◌↔◌, Bool, true, false, IsTrue, List, [], ◌∷◌, Option}
use Rattle.std.proofs.Common.{refl, sym, ap, ◌∙◌, subst, ⊎_elim}
use Rattle.std.specs.declared.cmp.Ordering.{Ordering}
use Rattle.std.specs.declared.cmp.Ordering.TheVariants.{Less, Equal, Greater}
use Rattle.std.specs.Ordering.{is_gt, is_le}
use Rattle.rc_cell.specs.declared.writes.Tomb.{Tomb}
use Rattle.rc_cell.specs.Winner.{empty_row, joined_row}
use Rattle.rc_position.specs.declared.positions.Pos.{Pos}
use Rattle.rc_position.specs.Position.{IsBefore, pos_cmp}
use Rattle.rc_position.specs.laws.Bounds.{first_pos-least, last_pos-greatest}
use Rattle.rc_position.specs.laws.Orders.{pos_cmp_same}
use Rattle.rc_ranges.specs.declared.pieces.Piece.{Piece}
use Rattle.rc_ranges.specs.Cover.{cover as range_tomb}
use Rattle.rc_mutation.specs.declared.mutations.Mutation.{Mutation}
use Rattle.rc_mutation.specs.Source.{rows_in, source_at}
use Rattle.rc_core.specs.Chain.{IsKnown, content, flag_over, has_flag, states_at}
use Rattle.rc_core.specs.declared.entries.ChainKind.{ChainKind}
use Rattle.rc_core.specs.Version.{Behind, On, Version, end_position}
use Rattle.rc_core.specs.laws.Folding.{content-through, flagged-through}
use Rattle.rc_core.specs.laws.Spots.{turn_to}
use Rattle.rc_stream.specs.Places.{Reaches}
use Rattle.rc_stream.specs.Snapshot.{There}
use Rattle.rc_cursor.specs.Snapshots.{IsKnownAs}
use Rattle.rc_snapshots.specs.Streams.{first_position}
use Rattle.rc_agreement.specs.declared.gaps.GapBehind.{GapBehind}
use Rattle.rc_agreement.specs.Agreement.{IsGapSaid}
use Rattle.rc_agreement.specs.calls.Agreement.{IsPlaceSaid}
use Rattle.rc_agreement.specs.calls.Gaps.{IsGapSeen}
use Rattle.rc_agreement.specs.calls.Passing.{first_row_at, first_tomb_at, is_even_to, is_rowless_to, rows_behind}
use Rattle.rc_agreement.specs.calls.Walking.{AllSaid, AreSaid, IsOnward}
use Rattle.rc_agreement.proofs.Ahead.{there}
use Rattle.rc_agreement.proofs.Clear.{behind-alike, gap-bare, on-alike}
use Rattle.rc_agreement.proofs.Orders.{before-reached, before-reaches, never, reaches-itself}
use Rattle.rc_agreement.proofs.Ranges.{even-there, there-even}
use Rattle.rc_agreement.proofs.Rows.{Keyed, behind-there, there-behind}

-- x is at a place, or behind it
split-place : (x y : Pos) (P : Type 0) → Reaches x y → (x ≡ y → P) → (IsBefore x y → P) → P
split-place x y P h at behind = by (pos_cmp x y) refl h
  where
    by : (r : Ordering) → pos_cmp x y ≡ r → is_le r ≡ true → P
    by Less o k = behind o
    by Equal o k = at (pos_cmp_same x y o)
    by Greater o k = absurd (cc)

module _ (kind : ChainKind) (versions : List Version) (x : Pos) (m : Mutation) (rows : Keyed) (pieces : List Piece) (onward : IsOnward x m rows pieces) where
  -- ---- the place itself

  abbrev pub IsFirstSaid : Bool → Option Tomb → Type 0
  IsFirstSaid known tomb = IsTrue known → (first_row_at x rows ≡ (content (states_at (On x) versions)).0) × (first_tomb_at x pieces ≡ tomb)

  module _ (known : Bool) (is : IsTrue known ↔ IsKnown kind versions x) (tomb : Option Tomb) (is_tomb : tomb ≡ (content (states_at (On x) versions)).1) where
    pub first-said : IsFirstSaid known tomb → IsPlaceSaid kind versions (m ∷ []) x
    first-said h = λ v k. let s = h (is.1 k.known) in there x m rows pieces onward ∙ (λ i. (s.0 i, (s.1 ∙ is_tomb) i)) ∙ k.there

    pub said-first : IsPlaceSaid kind versions (m ∷ []) x → IsFirstSaid known tomb
    said-first h = λ t.
        let s : source_at (m ∷ []) x ≡ content (states_at (On x) versions) = h (content (states_at (On x) versions)) (record { known = is.0 t; there = refl }) in
        let e : (first_row_at x rows, first_tomb_at x pieces) ≡ content (states_at (On x) versions) = sym (there x m rows pieces onward) ∙ s in
        (ap (λ (v : There). v.0) e, ap (λ (v : There). v.1) e ∙ sym is_tomb)

  -- ---- the open gap behind it

  module _ (gap : GapBehind) (seen : IsGapSeen versions x gap) where
    abbrev pub AreRestSaid : Bool → Type 0
    AreRestSaid known = IsTrue known → IsTrue (is_rowless_to gap.to (rows_behind x rows)) × (first_tomb_at x pieces ≡ gap.tomb) × IsTrue (is_even_to x gap.to pieces)

    gap-flag : has_flag kind (states_at (Behind x) versions) ≡ flag_over kind gap.flag
    gap-flag = flagged-through kind (states_at (Behind x) versions) ∙ ap (flag_over kind) (sym seen.flag)

    gap-tomb : (content (states_at (Behind x) versions)).1 ≡ gap.tomb
    gap-tomb = ap (λ (v : There). v.1) (content-through (states_at (Behind x) versions)) ∙ sym seen.tomb

    gap-content : content (states_at (Behind x) versions) ≡ (empty_row, gap.tomb)
    gap-content = λ i. (gap-bare x versions i, gap-tomb i)

    on-is : (y : Pos) → IsBefore x y → IsBefore y gap.to → states_at (On y) versions ≡ states_at (Behind x) versions
    on-is y a b = on-alike x gap.to y a b versions seen.reach.clear

    behind-is : (y : Pos) → IsBefore x y → IsBefore y gap.to → states_at (Behind y) versions ≡ states_at (Behind x) versions
    behind-is y a b = behind-alike x gap.to y a b versions seen.reach.clear

    module _ (known : Bool) (is : known ≡ flag_over kind gap.flag) where
      is-known : IsTrue (has_flag kind (states_at (Behind x) versions)) → IsTrue known
      is-known t = is ∙ sym gap-flag ∙ t

      -- in the gap the same is said
      rest-at : AreRestSaid known → IsTrue known → (y : Pos) → IsBefore x y → IsBefore y gap.to → source_at (m ∷ []) y ≡ (empty_row, gap.tomb)
      rest-at h t y a b =
          let s = h t in
          onward.left.said y (before-reaches x y a)
          ∙ (λ i. (behind-there x gap.to rows onward.left.by_key s.0 y a b i, (even-there x gap.to pieces onward.left.canonical onward.first_piece s.2 y (before-reaches x y a) b ∙ s.1) i))

      here-gap : AreRestSaid known → IsGapSaid kind versions (m ∷ []) x
      here-gap h = λ t. gap-tomb ∙ sym (h (is-known t)).1 ∙ ap (λ (v : There). v.1) (sym (there x m rows pieces onward))

      rest-place : AreRestSaid known → (y : Pos) → IsBefore x y → IsBefore y gap.to → IsPlaceSaid kind versions (m ∷ []) y
      rest-place h y a b = λ v k.
          let t : IsTrue known = is-known (ap (has_flag kind) (sym (on-is y a b)) ∙ k.known.at) in
          rest-at h t y a b ∙ sym gap-content ∙ ap content (sym (on-is y a b)) ∙ k.there

      rest-gap : AreRestSaid known → (y : Pos) → IsBefore x y → IsBefore y gap.to → IsGapSaid kind versions (m ∷ []) y
      rest-gap h y a b = λ u.
          let t : IsTrue known = is-known (ap (has_flag kind) (sym (behind-is y a b)) ∙ u) in
          ap (λ ss. (content ss).1) (behind-is y a b) ∙ gap-tomb ∙ ap (λ (v : There). v.1) (sym (rest-at h t y a b))

      -- where both tests hold all is said up to the end of the gap
      pub both-said : IsPlaceSaid kind versions (m ∷ []) x → AreRestSaid known → AreSaid kind versions (m ∷ []) x gap.to
      both-said place h = λ y a b. split-place x y (IsPlaceSaid kind versions (m ∷ []) y × IsGapSaid kind versions (m ∷ []) y) a
          (λ e. subst (λ z. IsPlaceSaid kind versions (m ∷ []) z × IsGapSaid kind versions (m ∷ []) z) e (place, here-gap h))
          (λ l. (rest-place h y l b, rest-gap h y l b))

      known-in : IsTrue known → (y : Pos) → IsBefore x y → IsBefore y gap.to → IsKnownAs kind versions y (empty_row, gap.tomb)
      known-in t y a b =
          let f : IsTrue (has_flag kind (states_at (Behind x) versions)) = gap-flag ∙ sym is ∙ t in record {
            known = record { at = ap (has_flag kind) (on-is y a b) ∙ f; gap = λ _. ap (has_flag kind) (behind-is y a b) ∙ f };
            there = ap content (on-is y a b) ∙ gap-content;
          }

      -- where all is said the second test holds, too
      pub said-rest : AreSaid kind versions (m ∷ []) x gap.to → AreRestSaid known
      said-rest h = λ t.
          let f : IsTrue (has_flag kind (states_at (Behind x) versions)) = gap-flag ∙ sym is ∙ t in
          let at : (y : Pos) → IsBefore x y → IsBefore y gap.to → (joined_row (rows_in y rows), range_tomb pieces y) ≡ (empty_row, gap.tomb) = λ y a b. sym (onward.left.said y (before-reaches x y a)) ∙ (h y (before-reaches x y a) b).0 (empty_row, gap.tomb) (known-in t y a b) in
          let here : (source_at (m ∷ []) x).1 ≡ gap.tomb = sym ((h x (reaches-itself x) seen.reach.ahead).1 f) ∙ gap-tomb in
          let first : first_tomb_at x pieces ≡ gap.tomb = ap (λ (v : There). v.1) (sym (there x m rows pieces onward)) ∙ here in
          let from : range_tomb pieces x ≡ gap.tomb = ap (λ (v : There). v.1) (sym (onward.left.said x (reaches-itself x))) ∙ here in (
            there-behind x gap.to rows onward.left.by_key onward.first_row (λ y a b. ap (λ (v : There). v.0) (at y a b)),
            first,
            there-even x gap.to pieces gap.tomb onward.left.canonical onward.first_piece seen.reach.ahead (λ y a b. split-place x y (range_tomb pieces y ≡ gap.tomb) a (λ e. subst (λ z. range_tomb pieces z ≡ gap.tomb) e from) (λ l. ap (λ (v : There). v.1) (at y l b))),
          )

      -- and what is said up to the end of the partition is said up to that of the gap
      pub said-nearer : AreSaid kind versions (m ∷ []) x end_position → AreSaid kind versions (m ∷ []) x gap.to
      said-nearer h = λ y a b. h y a (⊎_elim (λ e. subst (IsBefore y) e b) (λ l. before-reached y gap.to end_position b (before-reaches gap.to end_position l)) seen.reach.within)

-- ---- from the start on

-- what is not before the end is the end
pub at-end : (x : Pos) → (IsBefore x end_position → ⊥) → x ≡ end_position
at-end x h = elim (pos_cmp x end_position) as (λ r. pos_cmp x end_position ≡ r → x ≡ end_position) [
  | Less ↦ λ o. absurd (h o)
  | Equal ↦ λ o. pos_cmp_same x end_position o
  | Greater ↦ λ o. (let u : is_gt Greater ≡ is_gt Less = sym (ap is_gt o) ∙ last_pos-greatest x in absurd (cc))
] refl

reached : (r : Ordering) → is_gt r ≡ false → is_le r ≡ true
reached Less h = refl
reached Equal h = refl
reached Greater h = absurd (cc)

from-first : (x : Pos) → Reaches first_position x
from-first x = reached (pos_cmp first_position x) (first_pos-least x)

module _ (kind : ChainKind) (versions : List Version) (writes : List Mutation) where
  pub none-said : (x : Pos) → x ≡ first_position → AreSaid kind versions writes first_position x
  none-said x e = λ y a b. absurd (never y (before-reached y x y b (subst (λ z. Reaches z y) (sym e) a)))

  pub said-on : (x to : Pos) → AreSaid kind versions writes first_position x → AreSaid kind versions writes x to → AreSaid kind versions writes first_position to
  said-on x to g h = λ y a b. by y a b (pos_cmp x y) refl
    where
      by : (y : Pos) → Reaches first_position y → IsBefore y to → (r : Ordering) → pos_cmp x y ≡ r → IsPlaceSaid kind versions writes y × IsGapSaid kind versions writes y
      by y a b Less o = h y (ap is_le o) b
      by y a b Equal o = h y (ap is_le o) b
      by y a b Greater o = g y a (turn_to x y Greater o)

  pub all-from : AllSaid kind versions writes → (x : Pos) → AreSaid kind versions writes x end_position
  all-from h x = λ y a b. (h.places y, h.gaps y b)

  pub all-said : (x : Pos) → x ≡ end_position → AreSaid kind versions writes first_position x → IsPlaceSaid kind versions writes x → AllSaid kind versions writes
  all-said x e h last = record { places = λ y. by y (pos_cmp y end_position) refl; gaps = λ y l. (h y (from-first y) (subst (IsBefore y) (sym e) l)).1 }
    where
      by : (y : Pos) → (r : Ordering) → pos_cmp y end_position ≡ r → IsPlaceSaid kind versions writes y
      by y Less o = (h y (from-first y) (subst (IsBefore y) (sym e) o)).0
      by y Equal o = subst (IsPlaceSaid kind versions writes) (e ∙ sym (pos_cmp_same y end_position o)) last
      by y Greater o = subst (IsPlaceSaid kind versions writes) (e ∙ sym (at-end y (λ l. (let u : Less ≡ Greater = sym l ∙ o in cc)))) last
